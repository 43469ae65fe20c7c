-- `lines::put_rows` meets its contract: the rows that are left always give the text of all. Assumes nothing.
use Prim.Native.Nat.{◌+◌, ◌-◌, ◌*◌, ◌/◌, ◌≤◌}
use lib.ListN.{length, drop}
use Rattle.model.specs.Limits.{row_width}
use Rattle.lines.specs.Printing.{rows_text}
use Rattle.lines.proofs.LeftLaws.{Left}
use Rattle.lines.proofs.put_rows.Given as goal

abbrev pub invariant-loop-k : goal.invariant-loop-k
invariant-loop-k l = (Left l.initial.out l.out l.at l.next (rows_text (length l.rows / row_width) l.rows) (rows_text (length l.rows / row_width - l.k) (drop (row_width * l.k) l.rows))) × (l.next ≤ l.at + 6 * (row_width * l.k))
