-- `machine::admit` meets its contract: each refusal, and the count. The check of a program answers a count or a refusal alone.
-- Assumes nothing.
use Rattle.std.proofs.lemmas.Result.{err_from_is_err_and}
use Rattle.model.proofs.CheckAnswers.{count-told}
use Rattle.machine.proofs.Outcomes.{no_program, no_state, no_room, admits}
use Rattle.machine.proofs.admit.Goals as goal

pub returns-in_err-count : goal.returns-in_err-count
returns-in_err-count c =
    let p = err_from_is_err_and c.from_residual.result c.from_residual.ensures.1 in
    rw (p.1, p.2) (no_program _ _ _ _ _ _ c.in_err-count.was c.check_program.ensures)

pub returns-then-size-ne-STATE_SIZE : goal.returns-then-size-ne-STATE_SIZE
returns-then-size-ne-STATE_SIZE c = no_state _ _ _ _ _ (count-told c.in_ok-count.was c.check_program.ensures) c.if-size-ne-STATE_SIZE.true

pub returns-then-room-budget : goal.returns-then-room-budget
returns-then-room-budget c = no_room _ _ _ _ _ (count-told c.in_ok-count.was c.check_program.ensures) c.if-size-ne-STATE_SIZE.false c.if-room-budget.true

pub returns : goal.returns
returns c =
    let e = count-told c.in_ok-count.was c.check_program.ensures in
    admits _ _ _ _ _ e c.if-size-ne-STATE_SIZE.false c.if-room-budget.false
