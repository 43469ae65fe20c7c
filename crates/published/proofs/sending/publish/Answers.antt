-- `published::sending::publish` meets its contract: that the text fits is known before a byte is written. Assumes nothing.
use mathlib.Core.Bool.{Bool, true, false}
use lib.Dec.{leb}
use mathlib.Core.Path.{◌≡◌, sym, ap₂, ◌∙◌}
use Prim.Native.Nat.{ℕ, ◌+◌}
use mathlib.Core.List.{List, [], ◌∷◌}
use lib.ListN.{length, length-replicate}
use Rattle.model.specs.Limits.{max_accepted}
use borrow.Author.Tests.{leb-true}
use native.Mathlib.Nat.{zero-add}
use native.Mathlib.Omega.{arith}
use Rattle.published.specs.Published.{published}
use Rattle.model.specs.Stored.{lines}
use Rattle.model.specs.Answers.{outcome, counted}
use Rattle.model.proofs.Overwrites.{sets_front}
use Rattle.std.proofs.lemmas.Result.{err_from_is_err_and}
use Rattle.model.proofs.CheckAnswers.{count-told}
use Rattle.published.proofs.SendLaws.{none_used, publish_refused, publish_room, publish_done, publish_few}
use Rattle.published.proofs.sending.publish.Goals as goal

pub returns-in_err-check : goal.returns-in_err-check
returns-in_err-check c =
    let p = err_from_is_err_and c.from_residual.result c.from_residual.ensures.1 in
    rw (p.1, p.2) (publish_refused c.args.program.now c.args.out.now _ _ c.in_err-check.was c.check.ensures)

pub mark_targets-requires : goal.mark_targets-requires
mark_targets-requires c = (length-replicate {A = Bool} (max_accepted + 1) false, none_used (max_accepted + 1))

pub fits-requires : goal.fits-requires
fits-requires c = (publish_few c.args.program.now c.args.out.now _ (count-told c.in_ok-check.was c.check.ensures), omega (arith, c.mark_targets.auto.used, length-replicate {A = Bool} (max_accepted + 1) false), c.mark_targets.ensures)

pub print-requires : goal.print-requires
print-requires c = (publish_few c.args.program.now c.args.out.now _ (count-told c.in_ok-check.was c.check.ensures), omega (arith, c.mark_targets.auto.used, length-replicate {A = Bool} (max_accepted + 1) false), c.mark_targets.ensures)

pub returns-then-not-fits : goal.returns-then-not-fits
unfolding published
returns-then-not-fits c = publish_room c.args.program.now c.args.out.now _ (count-told c.in_ok-check.was c.check.ensures) (sym c.fits.ensures ∙ c.if-not-fits.true)

pub returns : goal.returns
unfolding published
returns c =
    let p = c.args.program.now in
    let o = c.args.out.now in
    let q : leb (length (published (lines p))) (length o) ≡ true = sym c.fits.ensures ∙ c.if-not-fits.false in
    let w = c.print.ensures in
    ap₂ (λ (k : ℕ) (t : List ℕ). outcome (counted k) (t ∷ [])) (w.after ∙ zero-add (length (published (lines p)))) (w.bytes ∙ sets_front o (published (lines p)) (leb-true _ _ q))
    ∙ publish_done p o _ (count-told c.in_ok-check.was c.check.ensures) q
