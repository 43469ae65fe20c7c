-- `published::instructions::targeted` meets its contract: by what looking the name up finds. Assumes nothing.
use mathlib.Core.Path.{sym, ◌∙◌}
use mathlib.Core.List.{[]}
use Rattle.std.proofs.lemmas.Result.{err_from_is_err_and}
use Rattle.text.proofs.FieldAnswers.{right, wrong}
use Rattle.published.specs.Table.{entries}
use Rattle.published.specs.Published.{operands_parsed}
use Rattle.published.proofs.SeenLaws.{low-find}
use Rattle.published.proofs.InstructionLaws.{target_bad, target_missing, target_found}
use Rattle.published.proofs.instructions.targeted.Goals as goal

pub returns-then-not-all_alphanumeric : goal.returns-then-not-all_alphanumeric
returns-then-not-all_alphanumeric c = λ n h. target_bad (entries c.args.labels.now.text.now c.args.labels.now.table c.args.labels.now.count) c.args.name.now (operands_parsed n c.args.o [] c.args.a.now c.args.b.now) (sym c.all_alphanumeric.ensures ∙ c.if-not-all_alphanumeric.true)

pub returns-in_err-line : goal.returns-in_err-line
returns-in_err-line c =
    λ n h.
    let p = err_from_is_err_and c.from_residual.result c.from_residual.ensures.1 in
    let w = wrong _ _ c.find.ensures c.ok_or.ensures.value c.in_err-line.was in
    rw (p.1, p.2, w.condition) (target_missing (entries c.args.labels.now.text.now c.args.labels.now.table c.args.labels.now.count) c.args.name.now (operands_parsed n c.args.o [] c.args.a.now c.args.b.now) (sym c.all_alphanumeric.ensures ∙ c.if-not-all_alphanumeric.false) w.missing)

pub returns : goal.returns
returns c =
    λ n h.
    let f = right _ _ c.find.ensures c.ok_or.ensures.value c.in_ok-line.was in
    c.operands.ensures n (low-find n c.args.name.now (entries c.args.labels.now.text.now c.args.labels.now.table c.args.labels.now.count) _ h f)
    ∙ target_found (entries c.args.labels.now.text.now c.args.labels.now.table c.args.labels.now.count) c.args.name.now (operands_parsed n c.args.o [] c.args.a.now c.args.b.now) _ (sym c.all_alphanumeric.ensures ∙ c.if-not-all_alphanumeric.false) f
