-- The six layouts by a position and a spacing: the test, and the numbers by the power of 2 that the position gives. Assumes nothing.
use mathlib.Core.Path.{◌≡◌, refl}
use mathlib.Core.Bool.{true, false}
use Prim.Native.Nat.{ℕ, zero, suc, ◌*◌, ◌^◌, ◌≤◌, ◌<◌}
use borrow.Author.Tests.{lt-ltb, le-ltb}
use lib.Dec.{ltb, ltb→lt}
use Rattle.model.specs.Layouts.{layout_of, is_six}
use Rattle.model.proofs.TestLaws.{holds, and_both}

pub six_low : (p n : ℕ) → p < 3 → ltb n 2 ≡ is_six p n
six_low p n h = rw (lt-ltb p 3 h)

pub six_high : (p n : ℕ) → 3 ≤ p → false ≡ is_six p n
six_high p n h = rw (le-ltb p 3 h)

pub position_low : (p n : ℕ) → is_six p n ≡ true → p < 3
position_low p n e = ltb→lt p 3 (and_both (ltb p 3) (ltb n 2) (holds e)).0

pub power_is : (p q u : ℕ) → p ≡ q → u ≡ 2 ^ q → u ≤ 4 → (u ≡ 2 ^ p) × (u ≤ 4)
power_is p q u e f h = (rw e f, h)

-- the numbers, u being the power
module _ (p n u : ℕ) (e : u ≡ 2 ^ p) where
  pub neighbouring : n ≡ 0 → record { one = u; zero = 2 * u; mask = 3 * u; spaced = false; orr = 16 * u; xor = 32 * u } ≡ layout_of p n
  neighbouring q = rw (q, e)

  pub spaced_out : (n ≡ 0 → ⊥) → record { one = u; zero = 4 * u; mask = 5 * u; spaced = true; orr = 16 * u; xor = 32 * u } ≡ layout_of p n
  spaced_out h = go n h
    where
      go : (n : ℕ) → (n ≡ 0 → ⊥) → record { one = u; zero = 4 * u; mask = 5 * u; spaced = true; orr = 16 * u; xor = 32 * u } ≡ layout_of p n
      go zero h = absurd (h refl)
      go (suc n) h = rw e
