-- `published::labels::is_same` meets its contract. Assumes nothing.
use mathlib.Core.Path.{refl, sym, ap, ◌∙◌}
use mathlib.Core.Bool.{Bool, ◌&&◌}
use native.Mathlib.Omega.{arith}
use Rattle.published.proofs.ReadingLaws.{other_length, same_more, same_none}
use Rattle.text.proofs.FieldLaws.{and_true}
use Rattle.published.proofs.labels.is_same.Goals as goal

pub returns-then-x-y : goal.returns-then-x-y
returns-then-x-y c = sym (other_length c.args.x.now c.args.y.now c.if-x-y.true)

pub loop-i-init : goal.loop-i-init
loop-i-init c = refl

pub bounds-y-i : goal.bounds-y-i
bounds-y-i c = omega (arith, c.if-x-y.false, c.loop-i-test.true)

pub loop-i-preserved : goal.loop-i-preserved
loop-i-preserved c = same_more c.args.x.now c.args.y.now c.loop-i.i c.loop-i-test.true (omega (arith, c.if-x-y.false, c.loop-i-test.true)) c.loop-i.same ∙ c.loop-i.invariant

pub returns : goal.returns
returns c = sym (and_true c.loop-i.same) ∙ ap (λ (t : Bool). c.loop-i.same && t) (sym (same_none c.args.x.now c.args.y.now c.loop-i.i c.loop-i-test.false (omega (arith, c.if-x-y.false, c.loop-i-test.false)))) ∙ c.loop-i.invariant
