-- `published::sending::read_through` meets its contract: what is left to read gives the answer. Assumes nothing.
use mathlib.Core.Path.{sym, ap, ◌∙◌}
use native.Mathlib.Omega.{arith}
use Rattle.text.proofs.PartLaws.{after_first}
use Rattle.text.specs.Lines.{meaning}
use Rattle.model.specs.Text.{newline}
use Rattle.published.proofs.LongTexts.{through_first, through_done, through_full, through_stop, through_read}
use Rattle.published.proofs.sending.read_through.Goals as goal

pub loop-rest-init : goal.loop-rest-init
loop-rest-init c = through_first c.args.text.now

pub overflow_cast-result : goal.overflow_cast-result
overflow_cast-result c = omega (arith, c.loop-rest.invariant.few)

pub returns-then-n-ge-MAX_LINES : goal.returns-then-n-ge-MAX_LINES
returns-then-n-ge-MAX_LINES c = through_full c.args.text.now c.loop-rest.rest.now c.loop-rest.n c.loop-rest.invariant c.loop-rest-test.true c.if-n-ge-MAX_LINES.true

pub overflow_cast-result-in-Err : goal.overflow_cast-result-in-Err
overflow_cast-result-in-Err c = omega (arith, c.loop-rest.invariant.few)

pub returns-in-Err : goal.returns-in-Err
returns-in-Err c = through_stop c.args.text.now c.loop-rest.rest.now c.loop-rest.n c.loop-rest.invariant c.loop-rest-test.true c.if-n-ge-MAX_LINES.false _ (sym c.front_at.ensures ∙ ap meaning c.in-Err.is)

pub overflow_add-n : goal.overflow_add-n
overflow_add-n c = omega (arith, c.if-n-ge-MAX_LINES.false)

pub loop-rest-smaller : goal.loop-rest-smaller
loop-rest-smaller c = omega (arith, c.if-n-ge-MAX_LINES.false)

pub loop-rest-preserved : goal.loop-rest-preserved
loop-rest-preserved c = through_read c.args.text.now c.loop-rest.rest.now c.loop-rest.n c.loop-rest.invariant c.loop-rest-test.true c.if-n-ge-MAX_LINES.false c.front_at.result c.in_default.not-Err _ (sym c.front_at.ensures) (c.beyond-rest.ensures ∙ after_first newline c.loop-rest.rest.now c.find.result c.find.ensures.0)

pub overflow_cast-result-2 : goal.overflow_cast-result-2
overflow_cast-result-2 c = omega (arith, c.loop-rest.invariant.few)

pub returns : goal.returns
returns c = through_done c.args.text.now c.loop-rest.rest.now c.loop-rest.n c.loop-rest.invariant (omega (arith, c.loop-rest-test.false))
