-- `lines::put_numbers` meets its contract: the first number, then what is left of the others, each after a comma.
-- Assumes nothing.
use Prim.Native.Nat.{◌-◌, ◌*◌}
use native.Mathlib.Omega.{arith}
use lib.ListN.{length}
use Rattle.printing.proofs.WroteLaws.{then, as_text, at_most}
use Rattle.lines.proofs.LeftLaws.{left-next, left_none}
use Rattle.lines.proofs.LineTexts.{listed_next, listed_end, numbers_text_lem}
use Rattle.lines.proofs.put_numbers.Goals as goal

pub loop-i-preserved : goal.loop-i-preserved
loop-i-preserved c = (left-next c.loop-i.invariant.0 (listed_next c.args.numbers.now c.loop-i.i c.loop-i-test.true) c.put_tagged-next.ensures c.put_tagged-next.auto.out, omega (arith, c.loop-i.invariant.1, c.put_tagged-next.ensures.near))

pub returns : goal.returns
returns c =
    let x = c.args.numbers.now in
    let others = left_none c.loop-i.invariant.0 (6 * (length x - 1)) (listed_end x c.loop-i.i c.loop-i-test.false) (omega arith) in
    at_most (omega (arith, c.requires.0)) (as_text (numbers_text_lem x c.requires.0) (then c.put_number-next.ensures (then others c.put.ensures)))
