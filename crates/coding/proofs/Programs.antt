-- The check of a stored program, line by line. Assumes nothing.
use mathlib.Core.Path.{◌≡◌}
use mathlib.Core.List.{List}
use mathlib.Core.Logic.{◌⊎◌, inl, inr}
use Prim.Native.Nat.{ℕ, suc, ◌+◌, ◌-◌, ◌<◌, ◌≤◌}
use native.Mathlib.Omega.{arith}
use borrow.Author.Tests.{eq-eqb, ne_eqb, lt-ltb, le-ltb}
use Rattle.model.specs.Limits.{max_lines}
use Rattle.model.specs.Answers.{counted, refused}
use Rattle.model.specs.Stored.{line_count, fault_at, check_from, program_check}

pub passes : (p : List ℕ) (n i : ℕ) → i < n → fault_at p i ≡ 0 → check_from p i (n - i) ≡ check_from p (i + 1) (n - (i + 1))
unfolding check_from
passes p n i h e =
    let s : n - i ≡ suc (n - (i + 1)) = omega arith in
    rw (s, eq-eqb _ _ e)

pub fails : (p : List ℕ) (n i : ℕ) → i < n → (fault_at p i ≡ 0 → ⊥) → check_from p i (n - i) ≡ refused (fault_at p i) i
unfolding check_from
fails p n i h e =
    let s : n - i ≡ suc (n - (i + 1)) = omega arith in
    rw (s, ne_eqb _ _ e)

pub ends : (p : List ℕ) (n i : ℕ) → n ≤ i → check_from p i (n - i) ≡ counted (line_count p)
unfolding check_from
ends p n i h =
    let s : n - i ≡ 0 = omega arith in
    rw s

pub begins : (p : List ℕ) → line_count p ≤ max_lines → check_from p 0 (line_count p - 0) ≡ program_check p
unfolding program_check
begins p h =
    let s : line_count p - 0 ≡ line_count p = omega arith in
    rw (s, le-ltb _ _ h)

pub too_long : (p : List ℕ) → max_lines < line_count p → refused 7 max_lines ≡ program_check p
unfolding program_check
too_long p h = rw (lt-ltb _ _ h)

-- a fault that is one is 3 to 6
pub some_fault : (k : ℕ) → (k ≡ 0) ⊎ ((3 ≤ k) × (k ≤ 6)) → (k ≡ 0 → ⊥) → (3 ≤ k) × (k ≤ 6)
some_fault k (inl e) h = absurd (h e)
some_fault k (inr f) h = f
