-- `text::fields::indirect` meets its contract: base and offset are the numbers before and after the plus sign. Assumes nothing.
use mathlib.Core.Path.{◌≡◌, sym, ap, ◌∙◌}
use native.Mathlib.Omega.{arith}
use borrow.Author.Tests.{eq-eqb, ne_eqb}
use lib.ListN.{get_or, drop}
use Rattle.model.specs.Text.{up_to, past}
use Rattle.text.specs.Fields.{read_number, read_indirect, shift, joined}
use Rattle.std.specs.Prelude.{Some, None}
use Rattle.text.proofs.PartLaws.{no_head, tail_before, tail_after}
use Rattle.text.proofs.DigitLaws.{indirect_below}
use Rattle.text.proofs.fields.indirect.Goals as goal

pub returns-in_default : goal.returns-in_default
unfolding read_indirect shift
returns-in_default c = rw (no_head c.args.s.now (omega arith))

pub returns-in_default-2 : goal.returns-in_default-2
unfolding read_indirect shift
returns-in_default-2 c = rw (ne_eqb (get_or c.args.s.now 0 0) 114 (λ e. omega arith))

pub returns-in_err-b : goal.returns-in_err-b
unfolding read_indirect shift joined
returns-in_err-b c =
    let s = c.args.s.now in
    let B : read_number 32 (up_to 43 (drop 1 s)) ≡ None = sym (c.number.ensures ∙ ap (read_number 32) (tail_before 43 s c.find-n.result c.find-n.ensures.0)) ∙ c.in_err-b.was in
    rw (c.from_residual.ensures, eq-eqb (get_or s 0 0) 114 (omega arith), B)

pub returns-in_err-k : goal.returns-in_err-k
unfolding read_indirect shift joined
returns-in_err-k c =
    let s = c.args.s.now in
    let w = c.args.w in
    let B : read_number 32 (up_to 43 (drop 1 s)) ≡ Some c.in_ok-b.b = sym (c.number.ensures ∙ ap (read_number 32) (tail_before 43 s c.find-n.result c.find-n.ensures.0)) ∙ c.in_ok-b.was in
    let K : read_number w (past 43 (drop 1 s)) ≡ None = sym (c.number-2.ensures ∙ ap (read_number w) (c.beyond.ensures ∙ tail_after 43 s c.find-n.result c.find-n.ensures.0)) ∙ c.in_err-k.was in
    rw (c.from_residual-in_err-k.ensures, eq-eqb (get_or s 0 0) 114 (omega arith), B, K)

pub overflow_mul-result : goal.overflow_mul-result
overflow_mul-result c = omega (arith, c.requires, indirect_below c.args.w c.in_ok-b.b c.in_ok-k.k _ _ c.requires.0 c.requires.1.0 (sym c.number.ensures ∙ c.in_ok-b.was) (sym c.number-2.ensures ∙ c.in_ok-k.was))

pub overflow_add-result : goal.overflow_add-result
overflow_add-result c = omega (arith, c.requires, indirect_below c.args.w c.in_ok-b.b c.in_ok-k.k _ _ c.requires.0 c.requires.1.0 (sym c.number.ensures ∙ c.in_ok-b.was) (sym c.number-2.ensures ∙ c.in_ok-k.was))

pub overflow_add-result-2 : goal.overflow_add-result-2
overflow_add-result-2 c = omega (arith, c.requires, indirect_below c.args.w c.in_ok-b.b c.in_ok-k.k _ _ c.requires.0 c.requires.1.0 (sym c.number.ensures ∙ c.in_ok-b.was) (sym c.number-2.ensures ∙ c.in_ok-k.was))

pub returns : goal.returns
unfolding read_indirect shift joined
returns c =
    let s = c.args.s.now in
    let w = c.args.w in
    let B : read_number 32 (up_to 43 (drop 1 s)) ≡ Some c.in_ok-b.b = sym (c.number.ensures ∙ ap (read_number 32) (tail_before 43 s c.find-n.result c.find-n.ensures.0)) ∙ c.in_ok-b.was in
    let K : read_number w (past 43 (drop 1 s)) ≡ Some c.in_ok-k.k = sym (c.number-2.ensures ∙ ap (read_number w) (c.beyond.ensures ∙ tail_after 43 s c.find-n.result c.find-n.ensures.0)) ∙ c.in_ok-k.was in
    rw (eq-eqb (get_or s 0 0) 114 (omega arith), B, K)
