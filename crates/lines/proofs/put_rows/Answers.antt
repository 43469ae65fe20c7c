-- `lines::put_rows` meets its contract: the rows that are left always give the text of all. Assumes nothing.
use Prim.Native.Nat.{◌*◌, ◌/◌}
use mathlib.Core.Path.{ap}
use native.Mathlib.Omega.{arith}
use lib.ListN.{length}
use Rattle.model.specs.Limits.{row_width}
use Rattle.model.specs.Programs.{numbers_text}
use Rattle.printing.proofs.WroteLaws.{as_text}
use Rattle.lines.proofs.LeftLaws.{left-next, left_none}
use Rattle.lines.proofs.LineTexts.{row-part, row-length, rows_next, rows_end}
use Rattle.lines.proofs.put_rows.Goals as goal

pub loop-k-preserved : goal.loop-k-preserved
loop-k-preserved c =
    let x = c.args.rows.now in
    let k = c.loop-k.k in
    let e = row-length x k (omega (arith, c.loop-k-test.true)) in
    (left-next c.loop-k.invariant.0 (rows_next x (length x / row_width) k c.loop-k-test.true) (as_text (ap numbers_text (row-part x k)) c.put_numbers-next.ensures) c.put_numbers-next.auto.out, omega (arith, e, c.loop-k.invariant.1, c.put_numbers-next.ensures.near))

pub returns : goal.returns
returns c =
    let x = c.args.rows.now in
    left_none c.loop-k.invariant.0 (6 * length x) (rows_end x (length x / row_width) c.loop-k.k c.loop-k-test.false) (omega arith)
