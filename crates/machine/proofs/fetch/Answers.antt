-- `machine::fetch` meets its contract: an empty field and a literal read no place, every other operand reads its own. Assumes nothing.
use Rattle.std.proofs.Common.{◌≡◌, ℕ, get_or}
use Rattle.model.specs.declared.Operand.{Operand}
use Rattle.model.specs.Places.{State, value, place}
use Rattle.machine.specs.Loop.{fetch_of}
use Rattle.machine.proofs.NamedPlaces.{no_place, reads_number, reads-place}
use Rattle.machine.proofs.fetch.Goals as goal

-- what is read at a place, over plain values
fetched : (o : Operand) (s : State) (i x : ℕ) → i ≡ place o s → x ≡ get_or s i 0 → value o s ≡ get_or s (place o s) 0 → record { at = i; value = x } ≡ fetch_of o s
fetched o s i x ei ex e = cc

pub returns-then-code-lt-REGISTERS : goal.returns-then-code-lt-REGISTERS
returns-then-code-lt-REGISTERS c = rw (no_place _ c.args.state.now c.if-code-lt-REGISTERS.true, reads_number _ c.args.state.now c.if-code-lt-REGISTERS.true, ← c.literal.ensures)

pub returns : goal.returns
returns c = fetched _ _ _ _ c.place_of-at.ensures c.read.ensures (reads-place _ _ c.if-code-lt-REGISTERS.false)
