-- The lowest place at which a function is least.
-- Assumes nothing.
use mathlib.Core.Path.{◌≡◌, refl, ap, ◌∙◌}
use mathlib.Core.Bool.{Bool, true, false, cond}
use Prim.Native.Nat.{ℕ, zero, suc, ◌+◌, ◌-◌, ◌<◌, ◌≤◌}
use native.Mathlib.Omega.{arith}
use borrow.Author.Tests.{ltb-true, ltb-false, lt-ltb, le-ltb}
use lib.Dec.{ltb}
use lib.IntN.{ℤ, pos}
use lib.Signed.{lt_z}
use Rattle.model.proofs.TestLaws.{below}
use Rattle.codewords.specs.Codewords.{lowest}

pub lowest_at_most : (f : ℕ → ℤ) (m : ℕ) → lowest f m ≤ m
unfolding lowest
lowest_at_most f zero = omega arith
lowest_at_most f (suc m) = go (lt_z (f (suc m)) (f (lowest f m))) (lowest_at_most f m)
  where
    go : (t : Bool) → lowest f m ≤ m → cond t (suc m) (lowest f m) ≤ suc m
    go true h = omega arith
    go false h = omega arith

pub lowest_same : (f g : ℕ → ℤ) (m : ℕ) → ((i : ℕ) → i ≤ m → f i ≡ g i) → lowest f m ≡ lowest g m
unfolding lowest
lowest_same f g zero e = refl
lowest_same f g (suc m) e =
    let l = lowest_at_most g m in
    rw (lowest_same f g m (λ i h. e i (omega arith)), e (suc m) (omega arith), e (lowest g m) (omega arith))

-- ---- where it has no negative values

module _ (g : ℕ → ℕ) where
  abbrev f : ℕ → ℤ
  f i = pos (g i)

  pub lowest_least : (m i : ℕ) → i ≤ m → g (lowest f m) ≤ g i
  unfolding lowest
  lowest_least zero i h = let q : i ≡ 0 = omega arith in rw q (omega arith)
  lowest_least (suc m) i h = go (ltb (g (suc m)) (g (lowest f m))) refl (λ k. lowest_least m i k)
    where
      go : (t : Bool) → ltb (g (suc m)) (g (lowest f m)) ≡ t → (i ≤ m → g (lowest f m) ≤ g i) → g (cond t (suc m) (lowest f m)) ≤ g i
      go true e ih =
          let a = ltb-true (g (suc m)) (g (lowest f m)) e in
          below i (suc m) (λ l. let b = ih (omega arith) in omega arith) (λ l. let q : i ≡ suc m = omega arith in rw q (omega arith))
      go false e ih = below i (suc m) (λ l. ih (omega arith)) (λ l. let q : i ≡ suc m = omega arith in rw q (ltb-false (g (suc m)) (g (lowest f m)) e))

  pub lowest-first : (m i : ℕ) → i < lowest f m → g (lowest f m) < g i
  unfolding lowest
  lowest-first zero i h = absurd (omega arith)
  lowest-first (suc m) i h = go (ltb (g (suc m)) (g (lowest f m))) refl h (λ k. lowest-first m i k)
    where
      go : (t : Bool) → ltb (g (suc m)) (g (lowest f m)) ≡ t → i < cond t (suc m) (lowest f m) → (i < lowest f m → g (lowest f m) < g i) → g (cond t (suc m) (lowest f m)) < g i
      go true e h ih = let a = ltb-true (g (suc m)) (g (lowest f m)) e in let b = lowest_least m i (omega arith) in omega arith
      go false e h ih = ih h

  -- one value more: it is the lowest where it is below the least before it
  module _ (i b : ℕ) (h : 0 < i) (e : b ≡ lowest f (i - 1)) where
    pub lower : g i < g b → i ≡ lowest f (i + 1 - 1)
    unfolding lowest
    lower l = go i h e l
      where
        go : (i : ℕ) → 0 < i → b ≡ lowest f (i - 1) → g i < g b → i ≡ lowest f (i + 1 - 1)
        go zero h e l = absurd (omega arith)
        go (suc j) h e l =
            let p : suc j - 1 ≡ j = omega arith in
            let q : suc j + 1 - 1 ≡ suc j = omega arith in
            let d : b ≡ lowest f j = e ∙ ap (lowest f) p in
            rw (q, ← d, lt-ltb (g (suc j)) (g b) l) refl

    pub not_lower : g b ≤ g i → b ≡ lowest f (i + 1 - 1)
    unfolding lowest
    not_lower l = go i h e l
      where
        go : (i : ℕ) → 0 < i → b ≡ lowest f (i - 1) → g b ≤ g i → b ≡ lowest f (i + 1 - 1)
        go zero h e l = absurd (omega arith)
        go (suc j) h e l =
            let p : suc j - 1 ≡ j = omega arith in
            let q : suc j + 1 - 1 ≡ suc j = omega arith in
            let d : b ≡ lowest f j = e ∙ ap (lowest f) p in
            rw (q, ← d, le-ltb (g (suc j)) (g b) l) refl
