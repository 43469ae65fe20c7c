-- `published::refuse` meets its contract: what is wrong in a line goes before 9. Assumes nothing.
use mathlib.Core.Path.{refl}
use Rattle.std.proofs.lemmas.Result.{err_from_is_err_and}
use Rattle.model.proofs.CheckAnswers.{count-told}
use Rattle.published.proofs.LongTexts.{refuse_wrong, refuse_many, read_refused}
use Rattle.published.proofs.refuse.Goals as goal

pub returns-in_err-read_through : goal.returns-in_err-read_through
returns-in_err-read_through c =
    let p = err_from_is_err_and c.from_residual.result c.from_residual.ensures.1 in
    let r = read_refused c.args.text.now _ _ c.in_err-read_through.was c.read_through.ensures in
    rw (p.1, p.2) (refuse_wrong c.args.text.now c.requires _ _ _ r refl)

pub returns : goal.returns
returns c = refuse_many c.args.text.now c.requires _ (count-told c.in_ok-read_through.was c.read_through.ensures)
