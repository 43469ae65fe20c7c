-- Inputs in their ranges: the tests of the definition say what the paper says, and what the proofs need of it.
-- Assumes nothing.
use mathlib.Core.Path.{◌≡◌, refl, sym, ◌∙◌}
use mathlib.Core.Bool.{Bool, true, false, ◌||◌, false≢true}
use mathlib.Core.List.{List, [], ◌∷◌}
use mathlib.Core.Logic.{◌⊎◌, inl, inr}
use Prim.Native.Nat.{ℕ, zero, suc, ◌<◌, ◌≤◌}
use native.Mathlib.Omega.{arith}
use borrow.Author.Tests.{eqb-true, le-leb, eq-eqb}
use lib.Dec.{T, leb, eqb, leb→le, eqb→eq}
use lib.IntN.{ℤ, pos, negsuc}
use lib.ListN.{length, get_or}
use lib.Signed.{le_z, ◌≤ℤ◌, le_z_yes}
use Rattle.model.proofs.TestLaws.{and_both, both_and, holds, is_true}
use Rattle.codewords.specs.Codewords.{size_right, weight_right, weights_right, inputs_right}
use Rattle.codewords.specs.Claims.{InRange}

-- ---- the weights

weight_says : (weights : List ℤ) → T (weights_right weights) → (i : ℕ) → i < length weights → (negsuc 999 ≤ℤ get_or weights i (pos 0)) × (get_or weights i (pos 0) ≤ℤ pos 1000)
unfolding weights_right
weight_says [] r i h = absurd (omega arith)
weight_says (a ∷ weights) r zero h =
    let b = and_both (le_z (negsuc 999) a) (le_z a (pos 1000)) (and_both (weight_right a) (weights_right weights) r).0 in
    (le_z_yes b.0, le_z_yes b.1)
weight_says (a ∷ weights) r (suc i) h = weight_says weights (and_both (weight_right a) (weights_right weights) r).1 i (omega arith)

weights-from : (weights : List ℤ) → ((i : ℕ) → i < length weights → (negsuc 999 ≤ℤ get_or weights i (pos 0)) × (get_or weights i (pos 0) ≤ℤ pos 1000)) → T (weights_right weights)
unfolding weights_right
weights-from [] f = tt
weights-from (a ∷ weights) f =
    let b = f 0 (omega arith) in
    both_and (weight_right a) (weights_right weights) (both_and (le_z (negsuc 999) a) (le_z a (pos 1000)) b.0.le b.1.le) (weights-from weights (λ i h. f (suc i) (omega arith)))

-- ---- the size

size_says : (size : ℕ) → T (size_right size) → (size ≡ 2) ⊎ (size ≡ 4) ⊎ (size ≡ 8) ⊎ (size ≡ 16)
size_says size h = go (eqb size 2) (eqb size 4) (eqb size 8) (eqb size 16) h refl refl refl refl
  where
    go : (s t u v : Bool) → T (s || (t || (u || v))) → eqb size 2 ≡ s → eqb size 4 ≡ t → eqb size 8 ≡ u → eqb size 16 ≡ v → (size ≡ 2) ⊎ (size ≡ 4) ⊎ (size ≡ 8) ⊎ (size ≡ 16)
    go true t u v h p q r w = inl (eqb-true size 2 p)
    go false true u v h p q r w = inr (inl (eqb-true size 4 q))
    go false false true v h p q r w = inr (inr (inl (eqb-true size 8 r)))
    go false false false true h p q r w = inr (inr (inr (eqb-true size 16 w)))
    go false false false false h p q r w = absurd h

size-from : (size : ℕ) → (size ≡ 2) ⊎ (size ≡ 4) ⊎ (size ≡ 8) ⊎ (size ≡ 16) → T (size_right size)
size-from size (inl e) = rw e tt
size-from size (inr (inl e)) = rw e tt
size-from size (inr (inr (inl e))) = rw e tt
size-from size (inr (inr (inr e))) = rw e tt

-- ---- the ranges, both ways

module _ (n k size : ℕ) (weights : List ℤ) where
  pub ranges_say : inputs_right n k size weights ≡ true → InRange n k size weights
  unfolding inputs_right
  ranges_say e =
      let a = and_both (leb 4 n) _ (holds e) in
      let b = and_both (leb n 8) _ a.1 in
      let c = and_both (leb k 8) _ b.1 in
      let d = and_both (size_right size) _ c.1 in
      let f = and_both (eqb (length weights) n) (weights_right weights) d.1 in
      let l = eqb→eq (length weights) n f.0 in
      record {
        shortest = leb→le 4 n a.0;
        longest = leb→le n 8 b.0;
        most_ones = leb→le k 8 c.0;
        sizes = size_says size d.0;
        per_bit = l;
        weight = λ i h. weight_says weights f.1 i (omega arith);
      }

  ranges_from : InRange n k size weights → inputs_right n k size weights ≡ true
  unfolding inputs_right
  ranges_from r =
      let l = r.per_bit in
      rw (le-leb 4 n r.shortest, le-leb n 8 r.longest, le-leb k 8 r.most_ones, is_true (size_right size) (size-from size r.sizes), eq-eqb (length weights) n l)
      (is_true (weights_right weights) (weights-from weights (λ i h. r.weight i (omega arith))))

  pub outside_ranges : inputs_right n k size weights ≡ false → InRange n k size weights → ⊥
  outside_ranges e r = false≢true (sym e ∙ ranges_from r)

-- ---- what the proofs need

pub record Given (n : ℕ) (weights : List ℤ) : Type 0 where
  pub bits : n ≤ 8
  pub count : length weights ≡ n
  pub right : weights_right weights ≡ true

pub record Inputs (n size : ℕ) (weights : List ℤ) : Type 0 where
  pub given : Given n weights
  pub some : 0 < size
  pub fits : size ≤ 16

size_bounds : (size : ℕ) → (size ≡ 2) ⊎ (size ≡ 4) ⊎ (size ≡ 8) ⊎ (size ≡ 16) → (0 < size) × (size ≤ 16)
size_bounds size (inl e) = (omega arith, omega arith)
size_bounds size (inr (inl e)) = (omega arith, omega arith)
size_bounds size (inr (inr (inl e))) = (omega arith, omega arith)
size_bounds size (inr (inr (inr e))) = (omega arith, omega arith)

pub inputs_say : (n k size : ℕ) (weights : List ℤ) → inputs_right n k size weights ≡ true → Inputs n size weights
inputs_say n k size weights e =
    let r = ranges_say n k size weights e in
    let l = r.per_bit in
    let b = size_bounds size r.sizes in
    record {
      given = record { bits = r.longest; count = l; right = is_true (weights_right weights) (weights-from weights (λ i h. r.weight i (omega arith))) };
      some = b.0;
      fits = b.1;
    }
