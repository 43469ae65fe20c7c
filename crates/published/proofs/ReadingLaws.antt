-- The published text as the code walks it: one step at a position, and the parts that it cuts off. Assumes nothing.
use Prim.Native.Nat.{ℕ, suc, ◌+◌, ◌-◌, ◌≤◌, ◌<◌}
use mathlib.Core.Bool.{Bool, true, false, cond, not, ◌&&◌}
use mathlib.Core.Path.{◌≡◌, refl, ap, ◌∙◌}
use mathlib.Core.List.{List, [], ◌∷◌}
use native.Mathlib.Numerals.{add-one}
use native.Mathlib.Omega.{arith}
use lib.ListN.{length, get_or, take, drop, drop_of_length-le}
use lib.Seq.{drop-cons}
use lib.Dec.{eqb, ltb}
use borrow.Author.Tests.{ltb-false}
use Rattle.std.specs.Prelude.{Option, Some, None, position, unwrap_or}
use Rattle.std.specs.List.{position_or_len}
use Rattle.std.proofs.Common.{min}
use Rattle.std.proofs.lemmas.List.{take_min, drop_min}
use Rattle.std.proofs.lemmas.List.Recursion.{is_position_or_len}
use Rattle.model.specs.Text.{same_bytes}
use Rattle.text.proofs.PartLaws.{rest_all}
use Rattle.published.specs.Published.{is_blank}
use Rattle.published.specs.Published.{is_alphanumeric, all_alphanumeric}
use Rattle.published.specs.Reading.{trimmed, word_of}

-- ---- where the first byte that passes stands; how many bytes there are, where none does

pub first_few : (p : ℕ → Bool) (s : List ℕ) → position_or_len p s ≤ length s
first_few p [] = omega arith
first_few p (b ∷ s) = by (not (p b)) (first_few p s)
  where
    by : (t : Bool) → position_or_len p s ≤ length s → cond t (1 + position_or_len p s) 0 ≤ suc (length s)
    by true h = omega arith
    by false h = omega arith

pub first_place : (p : ℕ → Bool) (s : List ℕ) {r : Option ℕ} {k : ℕ} → r ≡ position p s → k ≡ unwrap_or r (length s) → k ≡ position_or_len p s
first_place p s e f = f ∙ ap (λ (o : Option ℕ). unwrap_or o (length s)) e ∙ by (ltb (position_or_len p s) (length s)) refl
  where
    by : (t : Bool) → ltb (position_or_len p s) (length s) ≡ t → unwrap_or (cond t (Some (position_or_len p s)) None) (length s) ≡ position_or_len p s
    by true q = refl
    by false q = omega (arith, first_few p s, ltb-false _ _ q)

pub trim_first : (s : List ℕ) → drop (position_or_len (λ b. not (is_blank b)) s) s ≡ trimmed s
unfolding trimmed
trim_first [] = refl
trim_first (b ∷ s) = by (is_blank b) (trim_first s)
  where
    by : (t : Bool) → drop (position_or_len (λ b. not (is_blank b)) s) s ≡ trimmed s → drop (cond (not (not t)) (1 + position_or_len (λ b. not (is_blank b)) s) 0) (b ∷ s) ≡ cond t (trimmed s) (b ∷ s)
    by true e = let z : 1 + position_or_len (λ b. not (is_blank b)) s ≡ suc (position_or_len (λ b. not (is_blank b)) s) = omega arith in ap (λ (k : ℕ). drop k (b ∷ s)) z ∙ e
    by false e = refl

pub word_first : (s : List ℕ) → length (word_of s) ≡ position_or_len is_blank s
unfolding word_of
word_first = is_position_or_len (λ s. length (word_of s)) is_blank refl (λ b s. by b s (is_blank b))
  where
    by : (b : ℕ) (s : List ℕ) (t : Bool) → length (cond t [] (b ∷ word_of s)) ≡ cond t 0 (1 + length (word_of s))
    by b s true = refl
    by b s false = omega arith

-- ---- letters, at a position

module _ (s : List ℕ) (i : ℕ) (h : i < length s) where
  pub letters_more : (t : Bool) → (t && is_alphanumeric (get_or s i 0)) && all_alphanumeric (drop (i + 1) s) ≡ t && all_alphanumeric (drop i s)
  unfolding all_alphanumeric
  letters_more true = rw (drop-cons s i 0 h, add-one)
  letters_more false = refl

module _ (s : List ℕ) (i : ℕ) (h : length s ≤ i) where
  pub letters_none : all_alphanumeric (drop i s) ≡ true
  unfolding all_alphanumeric
  letters_none = let e : drop i s ≡ [] = drop_of_length-le s h in rw e

-- ---- the rest of a line

-- what follows n bytes and blanks, as the code cuts it
pub after_cut : (s : List ℕ) (n k : ℕ) → drop k (take (length s - n) (drop n s)) ≡ trimmed (take (length s - n) (drop n s))
    → take (length (take (length s - n) (drop n s)) - k) (drop k (take (length s - n) (drop n s))) ≡ trimmed (drop n s)
after_cut s n k f = rest_all (take (length s - n) (drop n s)) k ∙ f ∙ ap trimmed (rest_all s n)

-- ---- equal bytes, at a position

pub other_length : (x y : List ℕ) → (length x ≡ length y → ⊥) → same_bytes x y ≡ false
other_length [] [] h = absurd (h refl)
other_length [] (b ∷ y) h = refl
other_length (a ∷ x) [] h = refl
other_length (a ∷ x) (b ∷ y) h = by (eqb a b) (other_length x y (λ e. h (ap suc e)))
  where
    by : (t : Bool) → same_bytes x y ≡ false → (t && same_bytes x y) ≡ false
    by true e = e
    by false e = refl

pub same_more : (x y : List ℕ) (i : ℕ) → i < length x → i < length y → (t : Bool) → (t && eqb (get_or x i 0) (get_or y i 0)) && same_bytes (drop (i + 1) x) (drop (i + 1) y) ≡ t && same_bytes (drop i x) (drop i y)
same_more x y i h g true = rw (drop-cons x i 0 h, drop-cons y i 0 g, add-one)
same_more x y i h g false = refl

pub same_none : (x y : List ℕ) (i : ℕ) → length x ≤ i → length y ≤ i → same_bytes (drop i x) (drop i y) ≡ true
same_none x y i h g =
    let e : drop i x ≡ [] = drop_of_length-le x h in
    let f : drop i y ≡ [] = drop_of_length-le y g in
    rw (e, f)

-- ---- parts of a text

-- n bytes from a place on, as the code cuts them: neither goes past the end
pub part_there : (s : List ℕ) (a n : ℕ) (rest : List ℕ) → rest ≡ take (length s - min a (length s)) (drop (min a (length s)) s) → take (min n (length rest)) rest ≡ take n (drop a s)
part_there s a n rest e = take_min n rest ∙ ap (take n) (e ∙ rest_all s (min a (length s)) ∙ drop_min a s)
