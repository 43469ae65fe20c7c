-- `published::operands::based` meets its contract: a base before a comma, an offset behind it. Assumes nothing.
use lib.Seq.{length-take-le}
use Rattle.published.specs.Reading.{read_based}
use Rattle.text.proofs.DigitLaws.{number_below}
use Rattle.text.proofs.PartLaws.{rest_all, no_head, tail_before, tail_after}
use Rattle.std.specs.Prelude.{Some, None}
use Rattle.text.specs.Fields.{read_number}
use Rattle.model.specs.Text.{comma, up_to, past}
use mathlib.Core.List.{List}
use lib.ListN.{get_or, length, drop, take}
use Prim.Native.Nat.{ℕ, ◌-◌}
use mathlib.Core.Path.{◌≡◌, sym, ap, ◌∙◌}
use borrow.Author.Tests.{eq-eqb, ne_eqb}
use native.Mathlib.Omega.{arith}
use Rattle.published.proofs.operands.based.Goals as goal

pub returns-in_default : goal.returns-in_default
unfolding read_based
returns-in_default c = rw (no_head c.args.s.now (omega (arith, c.in_default.len_below)))

pub returns-in_default-2 : goal.returns-in_default-2
unfolding read_based
returns-in_default-2 c = let r : get_or c.args.s.now 0 0 ≡ 114 → ⊥ = λ e. omega arith in rw (ne_eqb _ _ r)

pub slice_bounds-number-end : goal.slice_bounds-number-end
slice_bounds-number-end c = sym (length-take-le c.find-n.result _ c.find-n.ensures.1)

pub returns-in_err-b : goal.returns-in_err-b
unfolding read_based
returns-in_err-b c =
    let s = c.args.s.now in
    let r : get_or s 0 0 ≡ 114 = omega arith in
    let B : read_number 32 (up_to comma (drop 1 s)) ≡ None = sym (c.number.ensures ∙ ap (read_number 32) (tail_before comma s c.find-n.result c.find-n.ensures.0)) ∙ c.in_err-b.was in
    rw (c.from_residual.ensures, eq-eqb _ _ r, B)

pub pointed-requires : goal.pointed-requires
pointed-requires c =
    let s = c.args.s.now in
    let B : read_number 32 (up_to comma (drop 1 s)) ≡ (Some c.in_ok-b.b) = sym (c.number.ensures ∙ ap (read_number 32) (tail_before comma s c.find-n.result c.find-n.ensures.0)) ∙ c.in_ok-b.was in
    (number_below 32 (up_to comma (drop 1 s)) c.in_ok-b.b (omega arith) B, omega arith)

pub returns-then-n-rest : goal.returns-then-n-rest
unfolding read_based
returns-then-n-rest c =
    let s = c.args.s.now in
    let r : get_or s 0 0 ≡ 114 = omega arith in
    let B : read_number 32 (up_to comma (drop 1 s)) ≡ (Some c.in_ok-b.b) = sym (c.number.ensures ∙ ap (read_number 32) (tail_before comma s c.find-n.result c.find-n.ensures.0)) ∙ c.in_ok-b.was in
    let n : length (up_to comma (drop 1 s)) ≡ c.find-n.result = ap (λ (x : List ℕ). length (up_to comma x)) (sym (rest_all s 1)) ∙ sym c.find-n.ensures.0 in
    let m : length (take (length s - 1) (drop 1 s)) ≡ length (drop 1 s) = ap length (rest_all s 1) in
    rw (eq-eqb _ _ r, B, eq-eqb (length (up_to comma (drop 1 s))) (length (drop 1 s)) (omega (arith, n, m, c.if-n-rest.true))) c.pointed.ensures

pub returns-in_err-k : goal.returns-in_err-k
unfolding read_based
returns-in_err-k c =
    let s = c.args.s.now in
    let r : get_or s 0 0 ≡ 114 = omega arith in
    let B : read_number 32 (up_to comma (drop 1 s)) ≡ (Some c.in_ok-b.b) = sym (c.number.ensures ∙ ap (read_number 32) (tail_before comma s c.find-n.result c.find-n.ensures.0)) ∙ c.in_ok-b.was in
    let K : read_number 256 (past comma (drop 1 s)) ≡ None = sym (c.number-2.ensures ∙ ap (read_number 256) (c.beyond.ensures ∙ tail_after comma s c.find-n.result c.find-n.ensures.0)) ∙ c.in_err-k.was in
    let n : length (up_to comma (drop 1 s)) ≡ c.find-n.result = ap (λ (x : List ℕ). length (up_to comma x)) (sym (rest_all s 1)) ∙ sym c.find-n.ensures.0 in
    let m : length (take (length s - 1) (drop 1 s)) ≡ length (drop 1 s) = ap length (rest_all s 1) in
    rw (c.from_residual-in_err-k.ensures, eq-eqb _ _ r, B, ne_eqb (length (up_to comma (drop 1 s))) (length (drop 1 s)) (λ e. c.if-n-rest.false (omega (arith, n, m, e))), K)

pub pointed-requires-2 : goal.pointed-requires-2
pointed-requires-2 c =
    let s = c.args.s.now in
    let B : read_number 32 (up_to comma (drop 1 s)) ≡ (Some c.in_ok-b.b) = sym (c.number.ensures ∙ ap (read_number 32) (tail_before comma s c.find-n.result c.find-n.ensures.0)) ∙ c.in_ok-b.was in
    let K : read_number 256 (past comma (drop 1 s)) ≡ (Some c.in_ok-k.k) = sym (c.number-2.ensures ∙ ap (read_number 256) (c.beyond.ensures ∙ tail_after comma s c.find-n.result c.find-n.ensures.0)) ∙ c.in_ok-k.was in
    (number_below 32 (up_to comma (drop 1 s)) c.in_ok-b.b (omega arith) B, number_below 256 (past comma (drop 1 s)) c.in_ok-k.k (omega arith) K)

pub returns : goal.returns
unfolding read_based
returns c =
    let s = c.args.s.now in
    let r : get_or s 0 0 ≡ 114 = omega arith in
    let B : read_number 32 (up_to comma (drop 1 s)) ≡ (Some c.in_ok-b.b) = sym (c.number.ensures ∙ ap (read_number 32) (tail_before comma s c.find-n.result c.find-n.ensures.0)) ∙ c.in_ok-b.was in
    let K : read_number 256 (past comma (drop 1 s)) ≡ (Some c.in_ok-k.k) = sym (c.number-2.ensures ∙ ap (read_number 256) (c.beyond.ensures ∙ tail_after comma s c.find-n.result c.find-n.ensures.0)) ∙ c.in_ok-k.was in
    let n : length (up_to comma (drop 1 s)) ≡ c.find-n.result = ap (λ (x : List ℕ). length (up_to comma x)) (sym (rest_all s 1)) ∙ sym c.find-n.ensures.0 in
    let m : length (take (length s - 1) (drop 1 s)) ≡ length (drop 1 s) = ap length (rest_all s 1) in
    rw (eq-eqb _ _ r, B, ne_eqb (length (up_to comma (drop 1 s))) (length (drop 1 s)) (λ e. c.if-n-rest.false (omega (arith, n, m, e))), K) c.pointed-2.ensures
