-- `images::has_page` meets its contract. The loop's invariant: `good` is the test of the first i cells. Assumes nothing.
use mathlib.Core.Path.{refl}
use native.Mathlib.Omega.{arith}
use Rattle.images.proofs.Ranges.{pointwise_more}
use Rattle.images.proofs.has_page.Goals as goal

pub loop-i-preserved : goal.loop-i-preserved
loop-i-preserved c = pointwise_more c.args.cells.now c.args.page.now c.loop-i.i _ _ (omega arith) (omega arith) c.loop-i.invariant refl
