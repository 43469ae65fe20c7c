-- `machine::write_row` meets its contract. The loop's invariant: the first i numbers of the row stand in the store, the rest of
-- it is as it was. Assumes nothing.
use Rattle.std.proofs.Common.{◌≡◌, ◌*◌, length}
use lib.Seq.{paste}
use Rattle.model.specs.Limits.{row_width}
use Rattle.machine.proofs.write_row.Given as goal

abbrev pub invariant-loop-i : goal.invariant-loop-i
invariant-loop-i l = (length l.row ≡ row_width) × (l.trace ≡ paste l.initial.trace (row_width * l.n) l.row l.i)
