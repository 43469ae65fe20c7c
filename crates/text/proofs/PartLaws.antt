-- Bytes cut at a byte: one step at a position of the text, and the two parts as `take` and `drop`. Assumes nothing.
use Prim.Native.Nat.{ℕ, suc, ◌+◌, ◌-◌, ◌≤◌, ◌<◌}
use mathlib.Core.Bool.{Bool, true, false, cond}
use mathlib.Core.Path.{◌≡◌, refl, sym, ap, ◌∙◌}
use mathlib.Core.List.{List, [], ◌∷◌}
use native.Mathlib.Numerals.{add-one}
use native.Mathlib.Omega.{arith}
use lib.ListN.{length, get_or, take, drop, length-drop, drop_of_length-le}
use lib.Dec.{eqb}
use lib.Seq.{drop-cons, take_all}
use borrow.Author.Tests.{eq-eqb, ne_eqb}
use Rattle.model.specs.Text.{up_to, past, count_of}

module _ (c : ℕ) (s : List ℕ) (i : ℕ) (h : i < length s) where
  pub up_to_found : get_or s i 0 ≡ c → length (up_to c (drop i s)) ≡ 0
  unfolding up_to
  up_to_found e = rw (drop-cons s i 0 h, eq-eqb _ _ e)

  pub up_to_other : (get_or s i 0 ≡ c → ⊥) → length (up_to c (drop i s)) ≡ suc (length (up_to c (drop (i + 1) s)))
  unfolding up_to
  up_to_other e = rw (drop-cons s i 0 h, ne_eqb _ _ e, add-one)

  pub count-found : get_or s i 0 ≡ c → count_of c (drop i s) ≡ suc (count_of c (drop (i + 1) s))
  unfolding count_of
  count-found e = rw (drop-cons s i 0 h, eq-eqb _ _ e, add-one)

  pub count_other : (get_or s i 0 ≡ c → ⊥) → count_of c (drop i s) ≡ count_of c (drop (i + 1) s)
  unfolding count_of
  count_other e = rw (drop-cons s i 0 h, ne_eqb _ _ e, add-one)

up_to_step : (t : Bool) (b : ℕ) (x s : List ℕ) → take (length x) s ≡ x → take (length (cond t [] (b ∷ x))) (b ∷ s) ≡ cond t [] (b ∷ x)
up_to_step true b x s e = refl
up_to_step false b x s e = ap (λ (l : List ℕ). b ∷ l) e

up_to_take : (c : ℕ) (s : List ℕ) → take (length (up_to c s)) s ≡ up_to c s
unfolding up_to
up_to_take c [] = refl
up_to_take c (b ∷ s) = up_to_step (eqb b c) b (up_to c s) s (up_to_take c s)

past_step : (t : Bool) (b : ℕ) (x s y : List ℕ) → drop (suc (length x)) s ≡ y → drop (suc (length (cond t [] (b ∷ x)))) (b ∷ s) ≡ cond t s y
past_step true b x s y e = refl
past_step false b x s y e = e

past-drop : (c : ℕ) (s : List ℕ) → drop (suc (length (up_to c s))) s ≡ past c s
unfolding up_to past
past-drop c [] = refl
past-drop c (b ∷ s) = past_step (eqb b c) b (up_to c s) s (past c s) (past-drop c s)

-- a part `&s[n..]`
pub rest_all : (s : List ℕ) (n : ℕ) → take (length s - n) (drop n s) ≡ drop n s
rest_all s n = take_all (length s - n) (drop n s) (omega (arith, length-drop n s))

-- a part that begins at or past the end
pub rest_none : (s : List ℕ) (n : ℕ) → length s ≤ n → take (length s - length s) (drop (length s) s) ≡ drop (n + 1) s
rest_none s n h =
    let over : length s ≤ n + 1 = omega arith in
    let all : length s ≤ length s = omega arith in
    rest_all s (length s) ∙ drop_of_length-le s all ∙ sym (drop_of_length-le s over)

-- the parts before and after the first c
pub before-first : (c : ℕ) (s : List ℕ) (n : ℕ) → n ≡ length (up_to c s) → take n s ≡ up_to c s
before-first c s n e = ap (λ (k : ℕ). take k s) e ∙ up_to_take c s

pub after_first : (c : ℕ) (s : List ℕ) (n : ℕ) → n ≡ length (up_to c s) → drop (n + 1) s ≡ past c s
after_first c s n e = ap (λ (k : ℕ). drop k s) (add-one n ∙ ap suc e) ∙ past-drop c s

-- an empty field has no first byte
pub no_head : (s : List ℕ) → length s ≡ 0 → get_or s 0 0 ≡ 0
no_head [] e = refl
no_head (b ∷ s) e = absurd (omega arith)

-- the parts of what follows a first byte, `&s[1..]`, before and after the first c
module _ (c : ℕ) (s : List ℕ) (n : ℕ) (e : n ≡ length (up_to c (take (length s - 1) (drop 1 s)))) where
  pub tail_before : take n (take (length s - 1) (drop 1 s)) ≡ up_to c (drop 1 s)
  tail_before = before-first c (take (length s - 1) (drop 1 s)) n e ∙ ap (up_to c) (rest_all s 1)

  pub tail_after : drop (n + 1) (take (length s - 1) (drop 1 s)) ≡ past c (drop 1 s)
  tail_after = after_first c (take (length s - 1) (drop 1 s)) n e ∙ ap (past c) (rest_all s 1)
