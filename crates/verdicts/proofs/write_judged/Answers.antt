-- `verdicts::write_judged` meets its contract: the sets, the walk and the line. Assumes nothing.
use mathlib.Core.Path.{sym, ap, ◌∙◌}
use mathlib.Core.List.{List}
use Prim.Native.Nat.{ℕ}
use Rattle.model.specs.Answers.{Report}
use Rattle.model.specs.Text.{fitted}
use Rattle.sets.specs.Walk.{verdict_report}
use Rattle.verdicts.specs.Verdicts.{verdict_budget, verdict_text}
use Rattle.verdicts.proofs.VerdictSets.{before_all}
use Rattle.verdicts.proofs.VerdictTexts.{refused_line}
use Rattle.verdicts.proofs.write_judged.Goals as goal

pub write_sets-requires : goal.write_sets-requires
write_sets-requires c = sym before_all

pub returns-in-Ok : goal.returns-in-Ok
returns-in-Ok c =
    let x = c.args in
    c.write_verdict.ensures
    ∙ ap (λ (r : Report). fitted (verdict_text r) x.out.now)
    (c.in-Ok.ensures ∙ ap (λ (s : List ℕ). verdict_report x.program.now s verdict_budget) c.write_sets.ensures)

pub returns-in-Err : goal.returns-in-Err
returns-in-Err c =
    let x = c.args in
    c.write_refusal.ensures ∙ ap (λ (t : List ℕ). fitted t x.out.now) (refused_line c.in-Err.refusal)
    ∙ ap (λ (r : Report). fitted (verdict_text r) x.out.now)
    (c.in-Err.ensures ∙ ap (λ (s : List ℕ). verdict_report x.program.now s verdict_budget) c.write_sets.ensures)
