-- `machine::run` meets its contract: the refusals that are asked before, and the loop over steps. Assumes nothing.
use Rattle.std.proofs.Common.{ℕ, ◌≤◌, ◌∙◌, subst}
use Rattle.std.proofs.lemmas.Result.{err_from_is_err_and}
use Rattle.model.specs.Limits.{max_lines}
use Rattle.model.proofs.StoredLaws.{program_checked}
use Rattle.model.proofs.CheckAnswers.{count-told}
use Rattle.machine.proofs.Outcomes.{admitted, turned_down, runs}
use Rattle.machine.proofs.run.Goals as goal

pub returns-in_err-admit : goal.returns-in_err-admit
returns-in_err-admit c =
    let p = err_from_is_err_and c.from_residual.result c.from_residual.ensures.1 in
    rw (p.1, p.2) (turned_down _ _ _ _ _ _ _ c.in_err-admit.was c.admit.ensures)

pub run_lines-requires : goal.run_lines-requires
run_lines-requires c =
    let a = admitted _ _ _ _ _ (count-told c.in_ok-admit.was c.admit.ensures) in
    let k = program_checked _ _ a.program in
    (subst (λ (n : ℕ). n ≤ max_lines) k.count k.few, a.trace)

pub returns : goal.returns
returns c = c.run_lines.ensures ∙ runs _ _ _ _ _ _ (count-told c.in_ok-admit.was c.admit.ensures)
