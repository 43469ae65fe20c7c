-- Six numbers: equal one by one, and 0 past the end of a stored program.
-- Assumes nothing.
use mathlib.Core.Path.{◌≡◌, sym}
use mathlib.Core.List.{List, [], ◌∷◌}
use Prim.Native.Nat.{ℕ, ◌+◌, ◌*◌, ◌<◌, ◌≤◌}
use native.Mathlib.Omega.{arith}
use lib.ListN.{length, get_or, get_or-eq_default}
use Rattle.model.specs.Limits.{line_width}
use Rattle.model.specs.Stored.{line_count}
use Rattle.coding.specs.Fields.{numbers_at}

pub same_numbers : (m m' o o' d d' a a' b b' t t' : ℕ) → m ≡ m' → o ≡ o' → d ≡ d' → a ≡ a' → b ≡ b' → t ≡ t'
    → ◌≡◌ {A = List ℕ} (m ∷ o ∷ d ∷ a ∷ b ∷ t ∷ []) (m' ∷ o' ∷ d' ∷ a' ∷ b' ∷ t' ∷ [])
same_numbers m m' o o' d d' a a' b b' t t' em eo ed ea eb et = cc

past : (p : List ℕ) (k : ℕ) → length p ≤ k → 0 ≡ get_or p k 0
past p k h = sym (get_or-eq_default p 0 {n = k} h)

pub past_numbers : (p : List ℕ) (i : ℕ) → line_count p < i → 0 ∷ 0 ∷ 0 ∷ 0 ∷ 0 ∷ 0 ∷ [] ≡ numbers_at p i
past_numbers p i h =
    same_numbers _ _ _ _ _ _ _ _ _ _ _ _
    (past p (line_width * i) (omega arith)) (past p (line_width * i + 1) (omega arith)) (past p (line_width * i + 2) (omega arith))
    (past p (line_width * i + 3) (omega arith)) (past p (line_width * i + 4) (omega arith)) (past p (line_width * i + 5) (omega arith))
