-- `marks::check_marks` meets its contract. The loop's invariant: the check of the lines that are left answers as the
-- whole does. Assumes nothing.
use mathlib.Core.Path.{◌≡◌}
use lib.ListN.{drop}
use Rattle.model.specs.Stored.{lines}
use Rattle.model.specs.Marks.{first_bad, marks_of}
use Rattle.marks.proofs.check_marks.Given as goal

abbrev pub invariant-loop-i : goal.invariant-loop-i
invariant-loop-i l = first_bad l.count l.i (drop l.i (lines l.program)) ≡ marks_of (lines l.program)
