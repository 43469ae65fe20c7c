-- `text::line::fields` meets its contract: each field that was read picks the next case of the model's conditions 3 to 6. Assumes nothing.
use mathlib.Core.Path.{sym, ◌∙◌}
use Rattle.std.proofs.lemmas.Result.{err_from_is_err_and}
use Rattle.model.specs.Stored.{parsed}
use Rattle.text.proofs.FieldAnswers.{right, wrong}
use Rattle.text.proofs.line.fields.Goals as goal

pub returns-in_err-mark : goal.returns-in_err-mark
unfolding parsed
returns-in_err-mark c =
    let p = err_from_is_err_and c.from_residual.result c.from_residual.ensures.1 in
    let w = wrong _ _ c.mark.ensures c.ok_or.ensures.value c.in_err-mark.was in
    rw (p.1, p.2, w.condition) (rw (w.missing))

pub returns-in_err-opcode : goal.returns-in_err-opcode
unfolding parsed
returns-in_err-opcode c =
    let p = err_from_is_err_and c.from_residual-in_err-opcode.result c.from_residual-in_err-opcode.ensures.1 in
    let w = wrong _ _ c.opcode.ensures c.ok_or-2.ensures.value c.in_err-opcode.was in
    rw (p.1, p.2, w.condition) (rw (right _ _ c.mark.ensures c.ok_or.ensures.value c.in_ok-mark.was, w.missing))

pub returns-then-not-is_shaped : goal.returns-then-not-is_shaped
unfolding parsed
returns-then-not-is_shaped c = rw (right _ _ c.mark.ensures c.ok_or.ensures.value c.in_ok-mark.was, right _ _ c.opcode.ensures c.ok_or-2.ensures.value c.in_ok-opcode.was, sym c.is_shaped.ensures ∙ c.if-not-is_shaped.true)

pub returns-in_err-destination : goal.returns-in_err-destination
unfolding parsed
returns-in_err-destination c =
    let p = err_from_is_err_and c.from_residual-in_err-destination.result c.from_residual-in_err-destination.ensures.1 in
    let w = wrong _ _ c.destination.ensures c.ok_or-3.ensures.value c.in_err-destination.was in
    rw (p.1, p.2, w.condition) (rw (right _ _ c.mark.ensures c.ok_or.ensures.value c.in_ok-mark.was, right _ _ c.opcode.ensures c.ok_or-2.ensures.value c.in_ok-opcode.was, sym c.is_shaped.ensures ∙ c.if-not-is_shaped.false, w.missing))

pub returns-in_err-first : goal.returns-in_err-first
unfolding parsed
returns-in_err-first c =
    let p = err_from_is_err_and c.from_residual-in_err-first.result c.from_residual-in_err-first.ensures.1 in
    let w = wrong _ _ c.operand.ensures c.ok_or-4.ensures.value c.in_err-first.was in
    rw (p.1, p.2, w.condition) (rw (right _ _ c.mark.ensures c.ok_or.ensures.value c.in_ok-mark.was, right _ _ c.opcode.ensures c.ok_or-2.ensures.value c.in_ok-opcode.was, sym c.is_shaped.ensures ∙ c.if-not-is_shaped.false, right _ _ c.destination.ensures c.ok_or-3.ensures.value c.in_ok-destination.was, w.missing))

pub returns-in_err-second : goal.returns-in_err-second
unfolding parsed
returns-in_err-second c =
    let p = err_from_is_err_and c.from_residual-in_err-second.result c.from_residual-in_err-second.ensures.1 in
    let w = wrong _ _ c.operand-2.ensures c.ok_or-5.ensures.value c.in_err-second.was in
    rw (p.1, p.2, w.condition) (rw (right _ _ c.mark.ensures c.ok_or.ensures.value c.in_ok-mark.was, right _ _ c.opcode.ensures c.ok_or-2.ensures.value c.in_ok-opcode.was, sym c.is_shaped.ensures ∙ c.if-not-is_shaped.false, right _ _ c.destination.ensures c.ok_or-3.ensures.value c.in_ok-destination.was, right _ _ c.operand.ensures c.ok_or-4.ensures.value c.in_ok-first.was, w.missing))

pub returns-in_err-target : goal.returns-in_err-target
unfolding parsed
returns-in_err-target c =
    let p = err_from_is_err_and c.from_residual-in_err-target.result c.from_residual-in_err-target.ensures.1 in
    let w = wrong _ _ c.target.ensures c.ok_or-6.ensures.value c.in_err-target.was in
    rw (p.1, p.2, w.condition) (rw (right _ _ c.mark.ensures c.ok_or.ensures.value c.in_ok-mark.was, right _ _ c.opcode.ensures c.ok_or-2.ensures.value c.in_ok-opcode.was, sym c.is_shaped.ensures ∙ c.if-not-is_shaped.false, right _ _ c.destination.ensures c.ok_or-3.ensures.value c.in_ok-destination.was, right _ _ c.operand.ensures c.ok_or-4.ensures.value c.in_ok-first.was, right _ _ c.operand-2.ensures c.ok_or-5.ensures.value c.in_ok-second.was, w.missing))

pub returns : goal.returns
unfolding parsed
returns c = rw (right _ _ c.mark.ensures c.ok_or.ensures.value c.in_ok-mark.was, right _ _ c.opcode.ensures c.ok_or-2.ensures.value c.in_ok-opcode.was, sym c.is_shaped.ensures ∙ c.if-not-is_shaped.false, right _ _ c.destination.ensures c.ok_or-3.ensures.value c.in_ok-destination.was, right _ _ c.operand.ensures c.ok_or-4.ensures.value c.in_ok-first.was, right _ _ c.operand-2.ensures c.ok_or-5.ensures.value c.in_ok-second.was, right _ _ c.target.ensures c.ok_or-6.ensures.value c.in_ok-target.was)
