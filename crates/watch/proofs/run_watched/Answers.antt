-- `watch::run_watched` meets its contract: the refusals that are asked before, and the loop over steps. Assumes nothing.
use Rattle.std.proofs.Common.{Bool, length, ap, ◌∙◌}
use Rattle.std.proofs.lemmas.Result.{err_from_is_err_and}
use Rattle.model.proofs.CheckAnswers.{count-told}
use Rattle.watch.specs.Noting.{admission}
use Rattle.watch.proofs.WatchLaws.{turned_down, of_lines}
use Rattle.watch.proofs.run_watched.Goals as goal

pub returns-in_err-admit : goal.returns-in_err-admit
returns-in_err-admit c =
    let x = c.args in
    let asked = c.admit.ensures ∙ ap (λ (w : Bool). admission x.program.now x.budget (length x.state.now) (length x.trace.now) w) c.unwatchable-wrong.ensures in
    let p = err_from_is_err_and c.from_residual.result c.from_residual.ensures.1 in
    rw (p.1, p.2) (turned_down x.program.now x.start x.budget x.state.now x.trace.now x.watches.now _ _ c.in_err-admit.was asked)

pub run_lines-requires : goal.run_lines-requires
run_lines-requires c =
    let x = c.args in
    let asked = c.admit.ensures ∙ ap (λ (w : Bool). admission x.program.now x.budget (length x.state.now) (length x.trace.now) w) c.unwatchable-wrong.ensures in
    of_lines x.program.now x.start x.budget x.state.now x.trace.now x.watches.now _ (count-told c.in_ok-admit.was asked)
