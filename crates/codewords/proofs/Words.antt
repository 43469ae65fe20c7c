-- The words of a length with so many ones: all of them, these alone, each once, at most 70; their keys as the code finds them; and no set has
-- more.
-- Assumes nothing.
use mathlib.Core.Path.{◌≡◌, refl, sym, ap, ◌∙◌}
use mathlib.Core.Bool.{Bool, true, false, cond}
use mathlib.Core.List.{List, [], ◌∷◌, map}
use Prim.Native.Nat.{ℕ, zero, suc, ◌+◌, ◌-◌, ◌%◌, ◌/◌, ◌^◌, ◌<◌, ◌≤◌}
use native.Mathlib.Nat.{zero-add, add-zero}
use native.Mathlib.Omega.{arith}
use borrow.Author.Tests.{eqb-true, eq-eqb, ne_eqb}
use lib.Count.{ones, ones_step, ones-le}
use lib.Dec.{T, leb, eqb, leb→le}
use lib.IntN.{ℤ}
use lib.ListN.{length, get_or}
use lib.Pow.{pow_mono}
use Rattle.model.proofs.TestLaws.{below, all_below, all_below_lem}
use Rattle.codewords.specs.Codewords.{weights_right, words_from, words}
use Rattle.codewords.specs.Claims.{Every, among, Distinct, Word, CodeOf, AtMostSeventy}
use Rattle.codewords.specs.Keys.{key, with_ones}
use Rattle.codewords.proofs.Lists.{every_map, every-from, among_later}
use Rattle.codewords.proofs.Runs.{Rising, reach}
use Rattle.codewords.proofs.Signals.{key_has}

-- ---- these alone

from-words : (k i m : ℕ) → Every (λ w. (w < i + m) × (ones w ≡ k)) (words_from k i m)
unfolding words_from
from-words k i zero = tt
from-words k i (suc m) = go (eqb (ones i) k) refl (every_map _ _ (words_from k (i + 1) m) (λ w h. (omega arith, h.1)) (from-words k (i + 1) m))
  where
    go : (t : Bool) → eqb (ones i) k ≡ t → Every (λ w. (w < i + suc m) × (ones w ≡ k)) (words_from k (i + 1) m)
        → Every (λ w. (w < i + suc m) × (ones w ≡ k)) (cond t (i ∷ words_from k (i + 1) m) (words_from k (i + 1) m))
    go true e r = ((omega arith, eqb-true (ones i) k e), r)
    go false e r = r

pub words_are : (n k : ℕ) → Every (Word n k) (words n k)
words_are n k = every_map _ (Word n k) (words n k) (λ w h. record { bits = rw (zero-add (2 ^ n)) at h.0; many = h.1 }) (from-words k 0 (2 ^ n))

-- ---- all of them

from_all : (k w i m : ℕ) → ones w ≡ k → i ≤ w → w < i + m → among w (words_from k i m) ≡ true
unfolding words_from
from_all k w i zero e h g = absurd (omega arith)
from_all k w i (suc m) e h g =
    below i w (λ l. later (eqb (ones i) k) (from_all k w (i + 1) m e (omega arith) (omega arith)))
    (λ l. let q : w ≡ i = omega arith in here q)
  where
    later : (t : Bool) → among w (words_from k (i + 1) m) ≡ true → among w (cond t (i ∷ words_from k (i + 1) m) (words_from k (i + 1) m)) ≡ true
    later true r = among_later w i (words_from k (i + 1) m) r
    later false r = r

    here : w ≡ i → among w (cond (eqb (ones i) k) (i ∷ words_from k (i + 1) m) (words_from k (i + 1) m)) ≡ true
    here q = rw (eq-eqb (ones i) k (ap ones (sym q) ∙ e), eq-eqb w i q)

pub words_all : (n k w : ℕ) → Word n k w → among w (words n k) ≡ true
words_all n k w h = from_all k w 0 (2 ^ n) h.many (omega arith) (omega (arith, h.bits))

-- ---- each once: the numbers rise

from_above : (k i m : ℕ) → Every (λ w. i ≤ w) (words_from k i m)
unfolding words_from
from_above k i zero = tt
from_above k i (suc m) = go (eqb (ones i) k) (every_map _ _ (words_from k (i + 1) m) (λ w h. omega arith) (from_above k (i + 1) m))
  where
    go : (t : Bool) → Every (λ w. i ≤ w) (words_from k (i + 1) m) → Every (λ w. i ≤ w) (cond t (i ∷ words_from k (i + 1) m) (words_from k (i + 1) m))
    go true r = (omega arith, r)
    go false r = r

above_not : (i : ℕ) (l : List ℕ) → Every (λ w. i + 1 ≤ w) l → among i l ≡ false
above_not i [] e = refl
above_not i (w ∷ l) e = rw (ne_eqb i w (λ q. omega (arith, e.0))) (above_not i l e.1)

from-distinct : (k i m : ℕ) → Distinct (words_from k i m)
unfolding words_from
from-distinct k i zero = tt
from-distinct k i (suc m) = go (eqb (ones i) k) (from-distinct k (i + 1) m)
  where
    go : (t : Bool) → Distinct (words_from k (i + 1) m) → Distinct (cond t (i ∷ words_from k (i + 1) m) (words_from k (i + 1) m))
    go true d = (above_not i (words_from k (i + 1) m) (from_above k (i + 1) m), d)
    go false d = d

pub words-distinct : (n k : ℕ) → Distinct (words n k)
words-distinct n k = from-distinct k 0 (2 ^ n)

-- ---- at most 70

-- ones of f bits, so that counting is quick
unfoldable bits_in : ℕ → ℕ → ℕ
bits_in zero w = 0
bits_in (suc f) w = w % 2 + bits_in f (w / 2)

ones_in : (f w : ℕ) → w < 2 ^ f → ones w ≡ bits_in f w
unfolding bits_in ones
ones_in zero w h = let q : w ≡ 0 = omega arith in rw q
ones_in (suc f) w h = ones_step w ∙ ap (λ (m : ℕ). w % 2 + m) (ones_in f (w / 2) (omega arith))

unfoldable count_from : ℕ → ℕ → ℕ → ℕ
unfolding bits_in
count_from k i zero = 0
count_from k i (suc m) = cond (eqb (bits_in 8 i) k) 1 0 + count_from k (i + 1) m

count_is : (k i m : ℕ) → i + m ≤ 256 → length (words_from k i m) ≡ count_from k i m
unfolding words_from count_from
count_is k i zero h = refl
count_is k i (suc m) h = rw (ones_in 8 i (omega arith)) (go (eqb (bits_in 8 i) k) (count_is k (i + 1) m (omega arith)))
  where
    go : (t : Bool) → length (words_from k (i + 1) m) ≡ count_from k (i + 1) m → length (cond t (i ∷ words_from k (i + 1) m) (words_from k (i + 1) m)) ≡ cond t 1 0 + count_from k (i + 1) m
    go true e = omega (arith, e)
    go false e = omega (arith, e)

-- counted for each length and each number of ones
abbrev few : ℕ → ℕ → Bool
few n k = leb (count_from k 0 (2 ^ n)) 70

all_few : T (all_below (λ n. all_below (few n) 9) 9)
unfolding all_below count_from
all_few = tt

none_beyond : (n k : ℕ) (l : List ℕ) → n < k → Every (Word n k) l → length l ≤ 70
none_beyond n k [] h e = omega arith
none_beyond n k (w ∷ l) h e = absurd (omega (arith, ones-le n w e.0.bits, e.0.many))

pub at_most_seventy : AtMostSeventy
at_most_seventy n k h =
    let p : 2 ^ n ≤ 2 ^ 8 = pow_mono h in
    below k 9
    (λ g.
    let f = leb→le (count_from k 0 (2 ^ n)) 70 (all_below_lem (few n) 9 k (all_below_lem (λ i. all_below (few i) 9) 9 n all_few (omega arith)) g) in
    omega (arith, count_is k 0 (2 ^ n) (omega arith)))
    (λ g. none_beyond n k (words n k) (omega arith) (words_are n k))

-- ---- their keys

module _ (n k : ℕ) (weights : List ℤ) (r : weights_right weights ≡ true) (l : length weights ≡ n) (b : n ≤ 8) where
  pub from_keys : (i : ℕ) (xs : List ℕ) → ((j : ℕ) → j < length xs → get_or xs j 0 ≡ key weights (i + j)) → i + length xs ≤ 2 ^ n
      → with_ones k xs ≡ map (key weights) (words_from k i (length xs))
  unfolding with_ones words_from
  from_keys i [] h g = refl
  from_keys i (x ∷ xs) h g =
      let e : x ≡ key weights i = h 0 (omega arith) ∙ ap (key weights) (add-zero i) in
      let s = from_keys (i + 1) xs (λ j z. h (suc j) (omega arith) ∙ ap (key weights) (omega arith)) (omega arith) in
      rw (e, key_has n k weights r l b i (omega arith), s) (go (eqb (ones i) k))
    where
      go : (t : Bool) → cond t (key weights i ∷ map (key weights) (words_from k (i + 1) (length xs))) (map (key weights) (words_from k (i + 1) (length xs)))
          ≡ map (key weights) (cond t (i ∷ words_from k (i + 1) (length xs)) (words_from k (i + 1) (length xs)))
      go true = refl
      go false = refl

-- ---- no set has more words than there are

flat : (l : List ℕ) → Rising (λ x. 0) l
flat [] = tt
flat (x ∷ l) = (every-from (λ y. 0 ≤ 0) l (λ j h. omega arith), flat l)

pub no_more : (n k size : ℕ) → 0 < size → length (words n k) < size → (other : List ℕ) → CodeOf n k size other → ⊥
no_more n k size o h other c =
    let e = c.count in
    let r =
    reach (λ x. 0) 0 (words n k) (size - 1) other (flat (words n k)) c.distinct (every_map (Word n k) (λ x. among x (words n k) ≡ true) other (words_all n k) c.each) (omega arith)
    (every-from (λ x. 0 ≤ 0) other (λ j g. omega arith))
    in
    omega (arith, r.0)
