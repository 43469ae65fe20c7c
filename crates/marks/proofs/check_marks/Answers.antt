-- `marks::check_marks` meets its contract. The loop's invariant: the check of the lines that are left answers as the
-- whole does. Assumes nothing.
use mathlib.Core.Path.{refl, ◌∙◌}
use native.Mathlib.Omega.{arith}
use Rattle.model.proofs.CheckAnswers.{holds_some}
use Rattle.marks.proofs.MarkWalk.{passes, fails, ends, too_long, begins}
use Rattle.marks.proofs.check_marks.Goals as goal

pub returns-then-count-gt-MAX_ACCEPTED : goal.returns-then-count-gt-MAX_ACCEPTED
returns-then-count-gt-MAX_ACCEPTED c = too_long c.args.program.now c.if-count-gt-MAX_ACCEPTED.true

pub loop-i-init : goal.loop-i-init
loop-i-init c = begins c.args.program.now c.if-count-gt-MAX_ACCEPTED.false

pub returns-in-Some : goal.returns-in-Some
returns-in-Some c =
    let l = c.loop-i in
    let e = c.in-Some.ensures in
    fails c.args.program.now _ l.i _ c.loop-i-test.true e (holds_some c.in-Some.condition refl) ∙ l.invariant

pub loop-i-preserved : goal.loop-i-preserved
loop-i-preserved c =
    let l = c.loop-i in
    passes c.args.program.now _ l.i _ c.loop-i-test.true c.in_default.ensures refl ∙ l.invariant

pub returns : goal.returns
returns c = ends c.args.program.now _ _ (omega arith) ∙ c.loop-i.invariant
