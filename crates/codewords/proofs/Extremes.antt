-- The spread of a set is the largest signal in it less the smallest.
-- Assumes nothing.
use mathlib.Core.Path.{◌≡◌, refl, ap₂, ◌∙◌}
use mathlib.Core.Bool.{Bool, true, false, cond}
use mathlib.Core.List.{List, [], ◌∷◌}
use mathlib.Core.Logic.{◌⊎◌, inl, inr}
use Prim.Native.Nat.{ℕ}
use native.Mathlib.Omega.{arith}
use borrow.Author.Tests.{eq-eqb}
use lib.IntN.{ℤ, ◌-ℤ◌}
use lib.Signed.{lt_z, ◌≤ℤ◌, ≤ℤ_refl}
use Rattle.codewords.specs.Codewords.{signal, larger, smaller, largest, smallest, spread}
use Rattle.codewords.specs.Claims.{Every, among, Spreads}
use Rattle.codewords.proofs.Integers.{≤ℤ-trans, less, not_less}
use Rattle.codewords.proofs.Lists.{every_map, among_later}

-- ---- of two, the one that is picked

by_test : (R : ℤ → ℤ → Type 0) (t : Bool) (a b : ℤ) → (t ≡ true → R a b) → (t ≡ false → R b a) → ((cond t b a ≡ a) × R b a) ⊎ ((cond t b a ≡ b) × R a b)
by_test R true a b f g = inr (refl, f refl)
by_test R false a b f g = inl (refl, g refl)

larger_is : (a b : ℤ) → ((larger a b ≡ a) × (b ≤ℤ a)) ⊎ ((larger a b ≡ b) × (a ≤ℤ b))
larger_is a b = by_test (λ x y. x ≤ℤ y) (lt_z a b) a b (less a b) (not_less a b)

smaller_is : (a b : ℤ) → ((smaller a b ≡ a) × (a ≤ℤ b)) ⊎ ((smaller a b ≡ b) × (b ≤ℤ a))
smaller_is a b = by_test (λ x y. y ≤ℤ x) (lt_z b a) a b (less b a) (not_less b a)

-- ---- of a set, by either order R: some word has the extreme, and no word is beyond it

record Extreme (R : ℤ → ℤ → Type 0) (weights : List ℤ) (ws : List ℕ) (e : ℤ) : Type 0 where
  at : ℕ
  inside : among at ws ≡ true
  is : e ≡ signal weights at
  bound : Every (λ x. R (signal weights x) (signal weights at)) ws

module _ (R : ℤ → ℤ → Type 0) (self : (a : ℤ) → R a a) (trans : (a b c : ℤ) → R a b → R b c → R a c) (pick : ℤ → ℤ → ℤ)
    (picked : (a b : ℤ) → ((pick a b ≡ a) × R b a) ⊎ ((pick a b ≡ b) × R a b)) (weights : List ℤ) (f : ℕ → List ℕ → ℤ)
    (one : (w : ℕ) → f w [] ≡ signal weights w) (more : (w x : ℕ) (xs : List ℕ) → f w (x ∷ xs) ≡ pick (signal weights w) (f x xs)) where
  extreme : (w : ℕ) (ws : List ℕ) → Extreme R weights (w ∷ ws) (f w ws)
  extreme w [] = record { at = w; inside = rw (eq-eqb w w refl); is = one w; bound = (self (signal weights w), tt) }
  extreme w (x ∷ xs) = go (picked (signal weights w) (f x xs)) (extreme x xs)
    where
      go : ((pick (signal weights w) (f x xs) ≡ signal weights w) × R (f x xs) (signal weights w)) ⊎ ((pick (signal weights w) (f x xs) ≡ f x xs) × R (signal weights w) (f x xs))
          → Extreme R weights (x ∷ xs) (f x xs) → Extreme R weights (w ∷ x ∷ xs) (f w (x ∷ xs))
      go (inl p) i =
          record {
            at = w;
            inside = rw (eq-eqb w w refl);
            is = more w x xs ∙ p.0;
            bound = (self (signal weights w), every_map _ _ (x ∷ xs) (λ y h. trans (signal weights y) (signal weights i.at) (signal weights w) h (rw i.is at p.1)) i.bound);
          }
      go (inr p) i =
          record {
            at = i.at;
            inside = among_later i.at w (x ∷ xs) i.inside;
            is = more w x xs ∙ p.0 ∙ i.is;
            bound = (rw i.is at p.1, i.bound);
          }

pub spreads : Spreads
unfolding spread largest smallest
spreads weights [] h = absurd (omega arith)
spreads weights (w ∷ ws) h =
    let t = extreme (λ a b. a ≤ℤ b) ≤ℤ_refl (λ a b c p q. ≤ℤ-trans a b c p q) larger larger_is weights (largest weights) (λ x. refl) (λ x y ys. refl) w ws in
    let b = extreme (λ a b. b ≤ℤ a) ≤ℤ_refl (λ a b c p q. ≤ℤ-trans c b a q p) smaller smaller_is weights (smallest weights) (λ x. refl) (λ x y ys. refl) w ws in
    record {
      high = t.at;
      high_in = t.inside;
      highest = t.bound;
      low = b.at;
      low_in = b.inside;
      lowest = b.bound;
      is = ap₂ ◌-ℤ◌ t.is b.is;
    }
