-- `codewords::set_of` meets its contract. The words so far, and zeros. Assumes nothing.
use mathlib.Core.Path.{refl, ◌∙◌}
use native.Mathlib.Omega.{arith}
use lib.ListN.{length-set}
use Rattle.codewords.proofs.LoopLaws.{set_next, set_end}
use Rattle.codewords.proofs.set_of.Goals as goal

pub loop-i-init : goal.loop-i-init
loop-i-init c = (refl, refl)

pub loop-i-preserved : goal.loop-i-preserved
loop-i-preserved c =
    let l = c.loop-i in
    (length-set l.set l.i _ ∙ l.invariant.0, set_next c.args.keys.now l.set l.i (omega arith) (omega arith) l.invariant.1)

pub returns : goal.returns
returns c =
    let l = c.loop-i in
    set_end c.args.keys.now l.set l.i (omega arith) l.invariant.1
