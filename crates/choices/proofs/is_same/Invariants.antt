-- `choices::is_same` meets its contract. The loop's invariant: the rows from i on are the same exactly where the rows are. Assumes nothing.
use mathlib.Core.Path.{◌≡◌}
use lib.ListN.{drop}
use Rattle.sets.specs.Walk.{same_row}
use Rattle.choices.proofs.is_same.Given as goal

abbrev pub invariant-loop-i : goal.invariant-loop-i
invariant-loop-i l = same_row (drop l.i l.a) (drop l.i l.b) ≡ same_row l.a l.b
