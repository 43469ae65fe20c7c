-- A weight raised by 66,536: signed numbers turned into unsigned ones, in one place.
-- Assumes nothing.
use mathlib.Core.Path.{◌≡◌, refl, sym}
use mathlib.Core.Bool.{Bool, true, false, cond, false≢true}
use Prim.Native.Nat.{ℕ, suc, ◌+◌, ◌-◌, ◌≤◌}
use native.Mathlib.Omega.{arith}
use borrow.Author.Tests.{ltb-true, ltb-false, le-ltb, le-leb, lt-leb, leb-true}
use lib.Dec.{leb, leb→le}
use lib.IntN.{ℤ, pos, negsuc, ◌+ℤ◌, nat_abs}
use lib.Signed.{lt_z}
use mir.Syntax.{w16}
use mir.Val.{SFits}
use Rattle.model.proofs.TestLaws.{and_both, holds}
use Rattle.codewords.specs.Codewords.{weight_right}
use Rattle.codewords.specs.Keys.{raised_right, raised}

-- ---- the two tests of the code, z being the weight as the machine reads it

pub too_low : (a z : ℤ) → z ≡ a → lt_z z (negsuc 999) ≡ true → (0 ≡ raised a) × (0 ≤ 67536)
unfolding raised
too_low a z e h = go a (rw e at h)
  where
    go : (a : ℤ) → lt_z a (negsuc 999) ≡ true → (0 ≡ raised a) × (0 ≤ 67536)
    go (pos n) h = absurd (false≢true h)
    go (negsuc n) h = (rw (lt-leb n 999 (ltb-true 999 n h)), omega arith)

pub too_high : (a z : ℤ) → z ≡ a → lt_z z (pos 1001) ≡ false → (0 ≡ raised a) × (0 ≤ 67536)
unfolding raised
too_high a z e h = go a (rw e at h)
  where
    go : (a : ℤ) → lt_z a (pos 1001) ≡ false → (0 ≡ raised a) × (0 ≤ 67536)
    go (pos n) h = (rw (lt-leb n 1000 (ltb-false n 1001 h)), omega arith)
    go (negsuc n) h = absurd (false≢true (sym h))

-- ---- the sum s with 1,000, in range: it is not negative

pub record Raised (a s : ℤ) : Type 0 where
  pub up : ℕ
  pub sum : s ≡ pos up
  pub small : up ≤ 2000
  pub is : 65536 + up ≡ raised a

pub in_range : (a z : ℤ) → z ≡ a → lt_z z (negsuc 999) ≡ false → lt_z z (pos 1001) ≡ true → Raised a (z +ℤ pos 1000)
unfolding raised
in_range a z e h g = rw e (go a (rw e at h) (rw e at g))
  where
    go : (a : ℤ) → lt_z a (negsuc 999) ≡ false → lt_z a (pos 1001) ≡ true → Raised a (a +ℤ pos 1000)
    go (pos n) h g = let l = ltb-true n 1001 g in record { up = n + 1000; sum = refl; small = omega arith; is = rw (le-leb n 1000 (omega arith)) (omega arith) }
    go (negsuc n) h g =
        let l = ltb-false 999 n h in
        record { up = 1000 - suc n; sum = rw (le-ltb 1000 (suc n) (omega arith)); small = omega arith; is = rw (le-leb n 999 l) (omega arith) }

pub sum_fits : (a s : ℤ) → Raised a s → SFits w16 s
sum_fits a s r = record { sfits = rw r.sum (omega (arith, r.small)) }

pub cast_is : (a s v : ℤ) → Raised a s → v ≡ s → (65536 + nat_abs v ≡ raised a) × (65536 + nat_abs v ≤ 67536)
cast_is a s v r e = rw (e, r.sum) (r.is, omega (arith, r.small))

-- ---- a raised weight: 0 exactly outside the range, else from 65,536 to 67,536

right_bounds : (a : ℤ) → weight_right a ≡ true → (65536 ≤ raised_right a) × (raised_right a ≤ 67536)
right_bounds (pos n) e = let l = leb-true n 1000 e in (omega arith, omega arith)
right_bounds (negsuc n) e = let l = leb→le n 999 (and_both (leb n 999) true (holds e)).0 in (omega arith, omega arith)

pub record Right (a : ℤ) : Type 0 where
  pub low : 65536 ≤ raised a
  pub high : raised a ≤ 67536

pub right-raised : (a : ℤ) → weight_right a ≡ true → Right a
unfolding raised
right-raised a e = let b = right_bounds a e in record { low = rw e b.0; high = rw e b.1 }

pub raised_most : (a : ℤ) → raised a ≤ 67536
unfolding raised
raised_most a = go (weight_right a) refl
  where
    go : (t : Bool) → weight_right a ≡ t → cond t (raised_right a) 0 ≤ 67536
    go true e = (right_bounds a e).1
    go false e = omega arith

pub marked : (a : ℤ) (r : ℕ) → r ≡ raised a → r ≡ 0 → weight_right a ≡ false
marked a r e z = go (weight_right a) refl
  where
    go : (t : Bool) → weight_right a ≡ t → t ≡ false
    go true q = let b = right-raised a q in absurd (omega (arith, b.low))
    go false q = refl

pub unmarked : (a : ℤ) (r : ℕ) → r ≡ raised a → (r ≡ 0 → ⊥) → weight_right a ≡ true
unfolding raised
unmarked a r e z = go (weight_right a) e
  where
    go : (t : Bool) → r ≡ cond t (raised_right a) 0 → t ≡ true
    go true q = refl
    go false q = absurd (z q)
