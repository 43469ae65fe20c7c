-- `lines::write_refusal` meets its contract: the line of a refusal, or no text. Assumes nothing.
use mathlib.Core.Path.{◌∙◌, ap, sym}
use mathlib.Core.List.{List, []}
use Prim.Native.Nat.{ℕ}
use Rattle.std.specs.Prelude.{Result}
use Rattle.model.specs.declared.Refusal.{Refusal}
use Rattle.model.specs.Answers.{refused, report}
use Rattle.model.specs.Programs.{or_refusal}
use Rattle.model.specs.Text.{fitted}
use Rattle.lines.proofs.LeftLaws.{nothing_fits}
use Rattle.lines.proofs.LineTexts.{refusal_line}
use Rattle.lines.proofs.write_refusal.Goals as goal

pub returns-in-Ok : goal.returns-in-Ok
returns-in-Ok c = let o = c.args.out.now in nothing_fits o ∙ ap (λ (a : Result ℕ (Refusal ℕ)). fitted (or_refusal (report a) []) o) (sym c.in-Ok.is)

pub returns-in-Err : goal.returns-in-Err
returns-in-Err c =
    let o = c.args.out.now in
    let l = c.in-Err.refusal.line in
    c.write_lines.ensures ∙ ap (λ (t : List ℕ). fitted t o) (refusal_line c.from.result l) ∙ ap (λ (n : ℕ). fitted (or_refusal (refused n l) []) o) c.from.ensures
    ∙ ap (λ (a : Result ℕ (Refusal ℕ)). fitted (or_refusal (report a) []) o) (sym c.in-Err.is)
