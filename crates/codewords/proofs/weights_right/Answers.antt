-- `codewords::weights_right` meets its contract. What is left decides as the whole does. Assumes nothing.
use mathlib.Core.Path.{refl, ◌∙◌}
use native.Mathlib.Omega.{arith}
use Rattle.codewords.proofs.LoopLaws.{right-next, right_fail, right_end}
use Rattle.codewords.proofs.weights_right.Goals as goal

pub loop-i-init : goal.loop-i-init
loop-i-init c = refl

pub returns-then-raised_at-eq0 : goal.returns-then-raised_at-eq0
returns-then-raised_at-eq0 c =
    let l = c.loop-i in
    right_fail c.args.weights.now l.i _ (omega arith) c.raised_at.ensures.0 c.if-raised_at-eq0.true ∙ l.invariant

pub loop-i-preserved : goal.loop-i-preserved
loop-i-preserved c =
    let l = c.loop-i in
    right-next c.args.weights.now l.i _ (omega arith) c.raised_at.ensures.0 c.if-raised_at-eq0.false ∙ l.invariant

pub returns : goal.returns
returns c =
    let l = c.loop-i in
    right_end c.args.weights.now l.i (omega arith) ∙ l.invariant
