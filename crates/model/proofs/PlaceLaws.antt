-- The kinds of places by their ranges, maps over the places of a state, and states that agree in the public places.
-- Assumes nothing.
use mathlib.Core.Path.{◌≡◌, refl, sym, ap, ◌∙◌}
use mathlib.Core.List.{List, [], ◌∷◌}
use mathlib.Core.Logic.{◌≢◌}
use Prim.Native.Nat.{ℕ, zero, suc, ◌+◌, ◌≤◌, ◌<◌}
use native.Mathlib.Nat.{suc-add, add-zero, add-suc, le_of_suc-le-suc, not-suc-le-zero}
use native.Mathlib.Decide.{ℕ_discrete}
use native.Mathlib.Omega.{arith}
use borrow.Author.Tests.{lt-ltb, le-ltb}
use lib.ListN.{length, get_or, set, length-set}
use lib.Seq.{get_or-set_same, get_or-set_other}
use Rattle.model.specs.declared.Layout.{Layout}
use Rattle.model.specs.declared.Kind.{Kind}
use Rattle.model.specs.declared.Kind.TheVariants.{Neither, Public, Sensitive}
use Rattle.model.specs.Places.{State, kind}
use Rattle.model.specs.Images.{Bit, BitState, map_at, image_at, image, SamePublic}

-- ---- kinds

pub public_register : (i : ℕ) → 4 ≤ i → i < 16 → kind i ≡ Public
unfolding kind
public_register i h g = rw (le-ltb i 4 h, lt-ltb i 16 g)

pub sensitive_register : (i : ℕ) → 16 ≤ i → i < 32 → kind i ≡ Sensitive
unfolding kind
sensitive_register i h g = rw (le-ltb i 4 (omega arith), le-ltb i 16 h, lt-ltb i 32 g)

pub public_cell : (i : ℕ) → 32 ≤ i → i < 160 → kind i ≡ Public
unfolding kind
public_cell i h g = rw (le-ltb i 4 (omega arith), le-ltb i 16 (omega arith), le-ltb i 32 h, lt-ltb i 160 g)

pub sensitive_cell : (i : ℕ) → 160 ≤ i → i < 288 → kind i ≡ Sensitive
unfolding kind
sensitive_cell i h g = rw (le-ltb i 4 (omega arith), le-ltb i 16 (omega arith), le-ltb i 32 (omega arith), le-ltb i 160 h, lt-ltb i 288 g)

pub table_cell : (i : ℕ) → 288 ≤ i → kind i ≡ Neither
unfolding kind
table_cell i h = rw (le-ltb i 4 (omega arith), le-ltb i 16 (omega arith), le-ltb i 32 (omega arith), le-ltb i 160 (omega arith), le-ltb i 288 h)

pub apart : {k : Kind} → k ≡ Public → k ≡ Sensitive → ⊥
apart p q = let z : ◌≡◌ {A = ℕ} 0 1 = cc in omega arith

-- ---- maps

pub map_at-length : (f : ℕ → ℕ → ℕ) (i : ℕ) (l : List ℕ) → length (map_at f i l) ≡ length l
unfolding map_at
map_at-length f i [] = refl
map_at-length f i (x ∷ l) = ap suc (map_at-length f (suc i) l)

pub image-length : (L : Layout) (s : State) → length (image L s) ≡ length s
unfolding image
image-length L s = map_at-length (image_at L) 0 s

pub map_at-get_or : (f : ℕ → ℕ → ℕ) (i : ℕ) (l : List ℕ) (n : ℕ) → n < length l → get_or (map_at f i l) n 0 ≡ f (i + n) (get_or l n 0)
unfolding map_at
map_at-get_or f i [] n h = absurd (not-suc-le-zero h)
map_at-get_or f i (x ∷ l) zero h = rw (add-zero i)
map_at-get_or f i (x ∷ l) (suc n) h = map_at-get_or f (suc i) l n (le_of_suc-le-suc h) ∙ ap (λ (m : ℕ). f m (get_or l n 0)) (suc-add i n ∙ sym (add-suc i n))

pub map_at-set : (f : ℕ → ℕ → ℕ) (i : ℕ) (l : List ℕ) (n x : ℕ) → map_at f i (set l n x) ≡ set (map_at f i l) n (f (i + n) x)
unfolding map_at
map_at-set f i [] n x = refl
map_at-set f i (y ∷ l) zero x = rw (add-zero i)
map_at-set f i (y ∷ l) (suc n) x =
    ap (λ (r : List ℕ). f i y ∷ r) (map_at-set f (suc i) l n x)
    ∙ ap (λ (m : ℕ). f i y ∷ set (map_at f (suc i) l) n (f m x)) (suc-add i n ∙ sym (add-suc i n))

-- ---- states that agree in the public places

pub same_sym : (s t : State) → SamePublic s t → SamePublic t s
unfolding SamePublic
same_sym s t h i g o = sym (h i g o)

-- writing a sensitive place keeps the agreement
pub same_sensitive : (s v : State) (i x : ℕ) → SamePublic s v → kind i ≡ Sensitive → SamePublic s (set v i x)
unfolding SamePublic
same_sensitive s v i x h e j g o =
    let n : j ≢ i = λ q. apart o (ap kind q ∙ e) in h j g o ∙ sym (get_or-set_other v i j x 0 n)

get_or_set_both : (s t : State) (i j x : ℕ) → j < length s → j < length t → get_or s j 0 ≡ get_or t j 0 → Dec (j ≡ i) → get_or (set s i x) j 0 ≡ get_or (set t i x) j 0
get_or_set_both s t i j x g g' h (no n) = get_or-set_other s i j x 0 n ∙ h ∙ sym (get_or-set_other t i j x 0 n)
get_or_set_both s t i j x g g' h (yes q) = rw (← q) (get_or-set_same s j x 0 g ∙ sym (get_or-set_same t j x 0 g'))

-- writing the same at one place of both keeps it
pub same_both : (s t : State) (i x : ℕ) → length s ≡ 544 → length t ≡ 544 → SamePublic s t → SamePublic (set s i x) (set t i x)
unfolding SamePublic
same_both s t i x ls lt h j g o = get_or_set_both s t i j x (omega arith) (omega arith) (h j g o) (ℕ_discrete j i)

-- a bit written where it may stand leaves a bit state
pub bits-set : (s : State) (i x : ℕ) → BitState s → Bit i x → BitState (set s i x)
bits-set s i x b h = record { long = length-set s i x ∙ b.long; bits = λ j g. go j g (ℕ_discrete j i) }
  where
    go : (j : ℕ) → j < 544 → Dec (j ≡ i) → Bit j (get_or (set s i x) j 0)
    go j g (no n) = rw (get_or-set_other s i j x 0 n) (b.bits j g)
    go j g (yes q) = rw (← q, get_or-set_same s j x 0 (omega (arith, b.long))) (rw (← q) at h)
