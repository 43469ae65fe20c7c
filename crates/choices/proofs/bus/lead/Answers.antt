-- `choices::bus::lead` meets its contract: the last operand that has an address tells. Assumes nothing.
use mathlib.Core.Path.{◌≡◌}
use mathlib.Core.Bool.{true, false}
use mathlib.Core.List.{List}
use Prim.Native.Nat.{ℕ}
use Rattle.model.specs.declared.Line.{Line}
use Rattle.model.specs.Places.{has_address}
use Rattle.model.specs.Stored.{operand_of}
use Rattle.sets.specs.Walk.{Sets, lists_of}
use Rattle.sets.specs.Addresses.{reached, last_addressed, leads}
use Rattle.choices.specs.Gathering.{line_by}
use Rattle.choices.proofs.bus.lead.Goals as goal

moved : (S : Sets) (bus : List ℕ) (l : Line) (n : ℕ) {xs : List ℕ} → (operand_of n ≡ last_addressed l) × (has_address (operand_of n) ≡ true) → xs ≡ reached S (operand_of n) → xs ≡ leads S bus l
unfolding leads
moved S bus l n e q = rw (← e.0, e.1) q

left : (S : Sets) (bus : List ℕ) (l : Line) → has_address (last_addressed l) ≡ false → bus ≡ leads S bus l
unfolding leads
left S bus l h = rw h

pub returns-in-Some : goal.returns-in-Some
returns-in-Some c = moved (lists_of c.args.sets.now) _ (line_by c.args.line.now) c.in-Some.code c.in-Some.ensures c.reach.ensures

pub returns-in_default : goal.returns-in_default
returns-in_default c = left (lists_of c.args.sets.now) _ (line_by c.args.line.now) c.in_default.ensures
