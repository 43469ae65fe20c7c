-- `published::take_in` meets its contract: the labels of the first pass, the lines of the second, and their text. Assumes nothing.
use Prim.Native.Nat.{ℕ, ◌*◌}
use mathlib.Core.List.{List}
use mathlib.Core.Path.{◌≡◌, sym, ap, subst, ◌∙◌}
use lib.ListN.{replicate, length-replicate}
use lib.Seq.{sets, length-take-le}
use Rattle.std.proofs.lemmas.Result.{err_from_is_err_and}
use Rattle.model.specs.Limits.{line_width, max_accepted}
use native.Mathlib.Omega.{arith}
use Rattle.model.specs.Answers.{report, counted}
use Rattle.published.specs.Published.{text_lines, none_seen, seen_from, take_in_check}
use Rattle.published.specs.Passes.{kept_lines}
use Rattle.published.proofs.RoundTrip.{few-taken}
use Rattle.published.proofs.TakeLaws.{take_refused, take_done}
use Rattle.published.proofs.take_in.Goals.{In_ok-n}
use Rattle.published.proofs.take_in.Goals as goal

-- the second pass counts lines of the same text
taken : (c : In_ok-n) → take_in_check c.args.text.now ≡ counted c.in_ok-n.n
taken c = ap take_in_check (sym (c.collect-clean.ensures.text ∙ c.new-labels.ensures.text)) ∙ sym c.convert.ensures.answer ∙ ap report c.in_ok-n.was

pub returns-in_err-n : goal.returns-in_err-n
returns-in_err-n c =
    let p = err_from_is_err_and c.from_residual.result c.from_residual.ensures.1 in
    rw (p.1, p.2)
    (take_refused c.args.text.now c.args.out.now _ _ c.in_err-n.was
    (c.convert.ensures.answer ∙ ap take_in_check (c.collect-clean.ensures.text ∙ c.new-labels.ensures.text)))

pub overflow_mul-store : goal.overflow_mul-store
overflow_mul-store c = omega (arith, few-taken c.args.text.now _ (taken (goal.at.overflow_mul-store c).In_ok-n))

pub slice_bounds-store-end : goal.slice_bounds-store-end
slice_bounds-store-end c = omega (arith, few-taken c.args.text.now _ (taken (goal.at.slice_bounds-store-end c).In_ok-n), c.convert.auto.store, (length-replicate {A = ℕ} (line_width * max_accepted) 0))

pub slice_bounds-write-end : goal.slice_bounds-write-end
slice_bounds-write-end c = sym (length-take-le (6 * c.in_ok-n.n) _ (omega (arith, few-taken c.args.text.now _ (taken (goal.at.slice_bounds-write-end c).In_ok-n), c.convert.auto.store, (length-replicate {A = ℕ} (line_width * max_accepted) 0))))

-- and stores them
stored : (c : In_ok-n) → c.convert.new.store ≡ sets (replicate (line_width * max_accepted) 0) 0 (kept_lines (seen_from none_seen (text_lines c.args.text.now)) (text_lines c.args.text.now))
stored c =
    subst (λ (t : List ℕ). c.convert.new.store ≡ sets (replicate (line_width * max_accepted) 0) 0 (kept_lines (seen_from none_seen (text_lines t)) (text_lines t)))
    (c.collect-clean.ensures.text ∙ c.new-labels.ensures.text) (c.convert.ensures.stored _ (ap report c.in_ok-n.was))

pub returns-in_err-written : goal.returns-in_err-written
returns-in_err-written c =
    let d = (goal.at.returns-in_err-written c).In_ok-n in
    let p = err_from_is_err_and c.from_residual-in_err-written.result c.from_residual-in_err-written.ensures.1 in
    rw (p.1, p.2) (take_done c.args.text.now _ _ _ (taken d) (length-replicate {A = ℕ} (line_width * max_accepted) 0) (stored d) c.args.out.now _ _ c.in_err-written.ensures)

pub returns : goal.returns
returns c =
    let d = (goal.at.returns c).In_ok-n in
    take_done c.args.text.now _ _ _ (taken d) (length-replicate {A = ℕ} (line_width * max_accepted) 0) (stored d) c.args.out.now _ _ c.in_ok-written.ensures
