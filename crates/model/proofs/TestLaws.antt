-- Small laws of tests and of what they say, shared by the law files.
-- Assumes nothing.
use mathlib.Core.Path.{◌≡◌, refl, sym, subst}
use mathlib.Core.Bool.{Bool, true, false, cond, ◌&&◌, ◌||◌, false≢true}
use mathlib.Core.Option.{none, some}
use mathlib.Core.List.{List, [], ◌∷◌}
use Prim.Native.Nat.{ℕ, zero, suc, ◌≤◌, ◌<◌}
use native.Mathlib.Omega.{arith}
use lib.ListN.{length, get_elem?}
use lib.Dec.{T, ltb}
use borrow.Author.Tests.{ltb-true, ltb-false}

-- by whether a is below b
pub below : {P : Type 0} (a b : ℕ) → (a < b → P) → (b ≤ a → P) → P
below {P} a b f g = go (ltb a b) refl
  where
    go : (t : Bool) → ltb a b ≡ t → P
    go true e = f (ltb-true a b e)
    go false e = g (ltb-false a b e)

pub is_true : (t : Bool) → T t → t ≡ true
is_true true h = refl
is_true false h = absurd h

pub holds : {t : Bool} → t ≡ true → T t
holds e = subst T (sym e) tt

pub or_false : (x : Bool) → (x || false) ≡ x
or_false true = refl
or_false false = refl

pub and_both : (x y : Bool) → T (x && y) → T x × T y
and_both true y h = (tt, h)
and_both false y h = absurd h

pub both_and : (x y : Bool) → T x → T y → T (x && y)
both_and true y h k = k
both_and false y h k = h

-- past a list's end
pub get_past : {A : Type 0} (l : List A) (i : ℕ) → length l ≤ i → get_elem? l i ≡ none
get_past [] i h = refl
get_past (a ∷ l) zero h = absurd (omega arith)
get_past (a ∷ l) (suc i) h = get_past l i (omega arith)

-- a test that answers one of two things
pub some_if : (t : Bool) {k n : ℕ} → cond t (some k) none ≡ some n → (t ≡ true) × (k ≡ n)
some_if true e = (refl, cc)
some_if false e = absurd (false≢true (cc))

-- a test of every number below n
unfoldable pub all_below : (ℕ → Bool) → ℕ → Bool
all_below f zero = true
all_below f (suc n) = f n && all_below f n

pub all_below_lem : (f : ℕ → Bool) (n k : ℕ) → T (all_below f n) → k < n → T (f k)
unfolding all_below
all_below_lem f zero k e h = absurd (omega arith)
all_below_lem f (suc n) k e h =
    let w = and_both (f n) (all_below f n) e in
    below k n (λ z. all_below_lem f n k w.1 z) (λ z. let q : k ≡ n = omega arith in rw q w.0)
