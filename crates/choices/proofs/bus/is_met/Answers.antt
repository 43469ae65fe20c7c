-- `choices::bus::is_met` meets its contract: the first operand that has an address tells. Assumes nothing.
use mathlib.Core.Path.{◌≡◌}
use mathlib.Core.Bool.{Bool, true, false}
use mathlib.Core.List.{List}
use Prim.Native.Nat.{ℕ}
use Rattle.model.specs.declared.Line.{Line}
use Rattle.model.specs.Places.{has_address}
use Rattle.model.specs.Stored.{operand_of}
use Rattle.sets.specs.Walk.{Sets, lists_of}
use Rattle.sets.specs.Addresses.{reached, first_addressed}
use Rattle.choices.specs.Gathering.{line_by}
use Rattle.choices.specs.Bus.{met_by, meets}
use Rattle.choices.proofs.bus.is_met.Goals as goal

met : (S : Sets) (bus : List ℕ) (l : Line) (n : ℕ) {a : Bool} → (operand_of n ≡ first_addressed l) × (has_address (operand_of n) ≡ true) → a ≡ met_by bus (reached S (operand_of n)) → a ≡ meets S bus l
unfolding meets
met S bus l n e q = rw (← e.0, e.1) q

quiet : (S : Sets) (bus : List ℕ) (l : Line) → has_address (first_addressed l) ≡ false → true ≡ meets S bus l
unfolding meets
quiet S bus l h = rw h

pub returns-in-Some : goal.returns-in-Some
returns-in-Some c = met (lists_of c.args.sets.now) c.args.bus.now (line_by c.args.line.now) c.in-Some.code c.in-Some.ensures c.are_met.ensures

pub returns-in-None : goal.returns-in-None
returns-in-None c = quiet (lists_of c.args.sets.now) c.args.bus.now (line_by c.args.line.now) c.in-None.ensures
