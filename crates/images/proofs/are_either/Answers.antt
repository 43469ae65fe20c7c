-- `images::are_either` meets its contract. The loop's invariant: `good` is the test of the bytes so far. Assumes nothing.
use mathlib.Core.Path.{refl}
use native.Mathlib.Omega.{arith}
use Rattle.images.specs.Ranges.{either}
use Rattle.images.proofs.Ranges.{good_more}
use Rattle.images.proofs.are_either.Goals as goal

pub loop-byte-preserved : goal.loop-byte-preserved
loop-byte-preserved c = good_more (either c.args.x c.args.y) _ _ _ _ (omega arith) c.loop-byte.invariant refl
