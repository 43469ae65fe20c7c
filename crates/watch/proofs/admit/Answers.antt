-- `watch::admit` meets its contract: a refusal of the run, 26, and the count. Assumes nothing.
use Rattle.std.proofs.lemmas.Result.{err_from_is_err_and}
use Rattle.model.proofs.CheckAnswers.{count-told}
use Rattle.watch.proofs.WatchLaws.{no_run, no_watches, passes}
use Rattle.watch.proofs.admit.Goals as goal

pub returns-in_err-count : goal.returns-in_err-count
returns-in_err-count c =
    let p = err_from_is_err_and c.from_residual.result c.from_residual.ensures.1 in
    rw (p.1, p.2) (no_run _ _ _ _ _ _ _ c.in_err-count.was c.admit.ensures)

pub returns-then-wrong : goal.returns-then-wrong
returns-then-wrong c = no_watches _ _ _ _ _ _ (count-told c.in_ok-count.was c.admit.ensures) c.if-wrong.true

pub returns : goal.returns
returns c = passes _ _ _ _ _ _ (count-told c.in_ok-count.was c.admit.ensures) c.if-wrong.false
