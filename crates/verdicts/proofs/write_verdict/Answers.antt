-- `verdicts::write_verdict` meets its contract: the line of each verdict. Assumes nothing.
use mathlib.Core.Path.{sym, ap, ◌∙◌}
use mathlib.Core.List.{List}
use Prim.Native.Nat.{ℕ}
use Rattle.std.specs.Prelude.{Ok}
use Rattle.model.specs.Text.{fitted}
use Rattle.sets.specs.declared.Verdict.{Verdict}
use Rattle.sets.specs.Walk.{told}
use Rattle.verdicts.specs.Verdicts.{verdict_text}
use Rattle.verdicts.proofs.VerdictTexts.{balanced_line, spent_line, leak_line}
use Rattle.verdicts.proofs.write_verdict.Goals as goal

pub returns-in-Balanced : goal.returns-in-Balanced
returns-in-Balanced c =
    let o = c.args.out.now in
    c.write_lines.ensures ∙ ap (λ (t : List ℕ). fitted t o) (balanced_line c.in-Balanced.counter c.in-Balanced.steps) ∙ ap (λ (w : Verdict). fitted (verdict_text (told (Ok w))) o) (sym c.in-Balanced.is)

pub returns-in-Spent : goal.returns-in-Spent
returns-in-Spent c =
    let o = c.args.out.now in
    c.write_lines-in-Spent.ensures ∙ ap (λ (t : List ℕ). fitted t o) (spent_line c.in-Spent.counter c.in-Spent.steps) ∙ ap (λ (w : Verdict). fitted (verdict_text (told (Ok w))) o) (sym c.in-Spent.is)

pub returns-in-Leak : goal.returns-in-Leak
returns-in-Leak c =
    let o = c.args.out.now in
    c.write_lines-in-Leak.ensures ∙ ap (λ (t : List ℕ). fitted t o) (leak_line c.in-Leak.line c.in-Leak.steps) ∙ ap (λ (w : Verdict). fitted (verdict_text (told (Ok w))) o) (sym c.in-Leak.is)
