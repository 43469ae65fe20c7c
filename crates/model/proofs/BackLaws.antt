-- The way back from an image, whatever its scratch registers hold, passes condition 19 and is the bit state; and what passes it on the
-- way there is a bit state, on the way back an image but for the scratch registers. Place by place. Assumes nothing.
use mathlib.Core.Path.{◌≡◌, refl, sym, ap, ◌∙◌, subst}
use mathlib.Core.Bool.{Bool, true, false, cond, ◌||◌}
use mathlib.Core.List.{List, [], ◌∷◌}
use mathlib.Core.Logic.{◌⊎◌, inl, inr}
use Prim.Native.Nat.{ℕ, zero, suc, ◌+◌, ◌-◌, ◌≤◌, ◌<◌}
use native.Mathlib.Nat.{zero-add, add-zero, suc-add, add-suc, not-suc-le-zero, le_of_suc-le-suc}
use native.Mathlib.Omega.{arith}
use borrow.Author.Tests.{le-ltb, le-leb}
use lib.Dec.{T, ltb, eqb, eqb→eq, eqb_refl, leb→le}
use lib.ListN.{length, get_or}
use lib.Seq.{ext_get_or}
use Rattle.model.specs.declared.Layout.{Layout}
use Rattle.model.specs.Layouts.{Known}
use Rattle.model.specs.declared.Kind.{Kind}
use Rattle.model.specs.declared.Kind.TheVariants.{Neither, Public, Sensitive}
use Rattle.model.specs.Places.{State, kind}
use Rattle.model.specs.Code.{code, page}
use Rattle.model.specs.Images.{Bit, BitState, fixed, image_at, back_at, image, back, bit_right, fixed_right, image_right, every, ButScratch}
use Rattle.model.proofs.TestLaws.{holds, is_true, and_both, both_and}
use Rattle.model.proofs.Finite.{code-back}
use Rattle.model.proofs.PlaceLaws.{map_at-length, map_at-get_or, image-length}

-- ---- there and back

back-fixed : (L : Layout) (i x : ℕ) → kind i ≡ Neither → back_at L i x ≡ 0
unfolding back_at
back-fixed L i x e = rw e

back-bit : (L : Layout) (K : Known L) (x : ℕ) → x ≤ 1 → (i : ℕ) → kind i ≡ Sensitive → back_at L i (code L x) ≡ x
unfolding back_at
back-bit L K x h i e = rw e (code-back L K x (omega arith))

back_public : (L : Layout) (i x : ℕ) → kind i ≡ Public → back_at L i x ≡ x
unfolding back_at
back_public L i x e = rw e

back_at_lem : (L : Layout) (K : Known L) (i x : ℕ) → Bit i x → (k : Kind) → kind i ≡ k → back_at L i (image_at L i x) ≡ x
unfolding Bit image_at
back_at_lem L K i x b Neither e = back-fixed L i (image_at L i x) e ∙ sym (rw e at b)
back_at_lem L K i x b Public e = rw e (back_public L i x e)
back_at_lem L K i x b Sensitive e = rw e (back-bit L K x (rw e at b) i e)

-- r1 to r3, or any other place
scratch : (i : ℕ) → ((1 ≤ i) × (i ≤ 3)) ⊎ ((1 ≤ i) × (i ≤ 3) → ⊥)
scratch zero = inr (λ h. not-suc-le-zero h.0)
scratch (suc zero) = inl (omega arith)
scratch (suc (suc zero)) = inl (omega arith)
scratch (suc (suc (suc zero))) = inl (omega arith)
scratch (suc (suc (suc (suc i)))) = inr (λ h. omega arith)

scratch_fixed : (i : ℕ) → (1 ≤ i) × (i ≤ 3) → kind i ≡ Neither
unfolding kind
scratch_fixed zero h = absurd (not-suc-le-zero h.0)
scratch_fixed (suc zero) h = refl
scratch_fixed (suc (suc zero)) h = refl
scratch_fixed (suc (suc (suc zero))) h = refl
scratch_fixed (suc (suc (suc (suc i)))) h = absurd (omega arith)

zero_at : (i x : ℕ) → kind i ≡ Neither → Bit i x → x ≡ 0
unfolding Bit
zero_at i x e h = rw e at h

pub back-image : (L : Layout) (K : Known L) (s v : State) → BitState s → ButScratch v (image L s) → back L v ≡ s
unfolding ButScratch image back
back-image L K s v b h =
    ext_get_or 0 (back L v) s (map_at-length (back_at L) 0 v ∙ lv)
    (λ i g. map_at-get_or (back_at L) 0 v i (len i g) ∙ ap (λ (j : ℕ). back_at L j (get_or v i 0)) (zero-add i) ∙ at i (len i g) (scratch i))
  where
    lv : length v ≡ length s
    lv = h.0 ∙ image-length L s

    len : (i : ℕ) → i < length (back L v) → i < length v
    len i g = omega (arith, map_at-length (back_at L) 0 v)

    img : (i : ℕ) → i < length v → get_or (image L s) i 0 ≡ image_at L i (get_or s i 0)
    img i g = map_at-get_or (image_at L) 0 s i (omega (arith, lv)) ∙ ap (λ (j : ℕ). image_at L j (get_or s i 0)) (zero-add i)

    at : (i : ℕ) → i < length v → ((1 ≤ i) × (i ≤ 3)) ⊎ ((1 ≤ i) × (i ≤ 3) → ⊥) → back_at L i (get_or v i 0) ≡ get_or s i 0
    at i g (inl q) = back-fixed L i (get_or v i 0) (scratch_fixed i q) ∙ sym (zero_at i (get_or s i 0) (scratch_fixed i q) (b.bits i (omega (arith, lv, b.long))))
    at i g (inr q) =
        ap (back_at L i) (h.1 i (omega (arith, image-length L s, lv)) q ∙ img i g) ∙ back_at_lem L K i (get_or s i 0) (b.bits i (omega (arith, lv, b.long))) (kind i) refl

-- ---- condition 19 on the way there: what passes is a bit state

pub every_at : (f : ℕ → ℕ → Bool) (i : ℕ) (l : List ℕ) → T (every f i l) → (n : ℕ) → n < length l → T (f (i + n) (get_or l n 0))
unfolding every
every_at f i [] e n h = absurd (not-suc-le-zero h)
every_at f i (x ∷ l) e zero h = rw (add-zero i) (and_both (f i x) (every f (suc i) l) e).0
every_at f i (x ∷ l) e (suc n) h =
    subst (λ (m : ℕ). T (f m (get_or l n 0))) (suc-add i n ∙ sym (add-suc i n)) (every_at f (suc i) l (and_both (f i x) (every f (suc i) l) e).1 n (le_of_suc-le-suc h))

right-bit : (i x : ℕ) (k : Kind) → kind i ≡ k → T (bit_right i x) → Bit i x
unfolding bit_right Bit
right-bit i x Neither e h = rw e (eqb→eq x 0 (rw e at h))
right-bit i x Public e h = rw e tt
right-bit i x Sensitive e h = rw e (leb→le x 1 (rw e at h))

pub bits-right : (s : State) → length s ≡ 544 → every bit_right 0 s ≡ true → BitState s
bits-right s h e =
    record {
      long = h;
      bits = λ i g. right-bit i (get_or s i 0) (kind i) refl (subst (λ (j : ℕ). T (bit_right j (get_or s i 0))) (zero-add i) (every_at bit_right 0 s (holds e) i (omega arith)));
    }

-- ---- condition 19 on the way back: an image passes, whatever its scratch registers hold

every_passes : (f : ℕ → ℕ → Bool) (i : ℕ) (l : List ℕ) → ((n : ℕ) → n < length l → T (f (i + n) (get_or l n 0))) → T (every f i l)
unfolding every
every_passes f i [] h = tt
every_passes f i (x ∷ l) h =
    both_and (f i x) (every f (suc i) l) (subst (λ (m : ℕ). T (f m x)) (add-zero i) (h 0 (omega arith)))
    (every_passes f (suc i) l (λ n g. subst (λ (m : ℕ). T (f m (get_or l n 0))) (add-suc i n ∙ sym (suc-add i n)) (h (suc n) (omega arith))))

or_right : (x y : Bool) → T y → T (x || y)
or_right true y h = tt
or_right false y h = h

code-right : (L : Layout) (x : ℕ) → x ≤ 1 → T (eqb (code L x) (code L 1) || eqb (code L x) (code L 0))
unfolding code
code-right L zero h = or_right (eqb L.zero L.one) (eqb L.zero L.zero) (eqb_refl L.zero)
code-right L (suc zero) h = rw (is_true (eqb L.one L.one) (eqb_refl L.one)) tt
code-right L (suc (suc x)) h = absurd (omega arith)

fixed-right : (L : Layout) (i : ℕ) → T (cond (ltb i 4) (cond (eqb i 0) (eqb (fixed L i) 0) true) (eqb (fixed L i) (fixed L i)))
unfolding fixed
fixed-right L zero = tt
fixed-right L (suc zero) = tt
fixed-right L (suc (suc zero)) = tt
fixed-right L (suc (suc (suc zero))) = tt
fixed-right L (suc (suc (suc (suc i)))) = rw (le-ltb (suc (suc (suc (suc i)))) 4 (omega arith)) (eqb_refl (page L (suc (suc (suc (suc i))) - 288)))

image_right_at : (L : Layout) (i x : ℕ) → Bit i x → (k : Kind) → kind i ≡ k → T (image_right L i (image_at L i x))
unfolding Bit image_at image_right
image_right_at L i x b Neither e = rw e (fixed-right L i)
image_right_at L i x b Public e = rw e tt
image_right_at L i x b Sensitive e = rw e (code-right L x (rw e at b))

scratch_right : (L : Layout) (i x : ℕ) → (1 ≤ i) × (i ≤ 3) → T (image_right L i x)
unfolding image_right kind
scratch_right L zero x h = absurd (not-suc-le-zero h.0)
scratch_right L (suc zero) x h = tt
scratch_right L (suc (suc zero)) x h = tt
scratch_right L (suc (suc (suc zero))) x h = tt
scratch_right L (suc (suc (suc (suc i)))) x h = absurd (omega arith)

pub image_passes : (L : Layout) (s v : State) → BitState s → ButScratch v (image L s) → T (every (image_right L) 0 v)
unfolding ButScratch image
image_passes L s v b h = every_passes (image_right L) 0 v (λ i g. subst (λ (m : ℕ). T (image_right L m (get_or v i 0))) (sym (zero-add i)) (at i g (scratch i)))
  where
    lv : length v ≡ length s
    lv = h.0 ∙ image-length L s

    at : (i : ℕ) → i < length v → ((1 ≤ i) × (i ≤ 3)) ⊎ ((1 ≤ i) × (i ≤ 3) → ⊥) → T (image_right L i (get_or v i 0))
    at i g (inl q) = scratch_right L i (get_or v i 0) q
    at i g (inr q) =
        let e : get_or v i 0 ≡ image_at L i (get_or s i 0) =
        h.1 i (omega (arith, image-length L s, lv)) q ∙ map_at-get_or (image_at L) 0 s i (omega (arith, lv)) ∙ ap (λ (j : ℕ). image_at L j (get_or s i 0)) (zero-add i) in
        subst (λ (x : ℕ). T (image_right L i x)) (sym e) (image_right_at L i (get_or s i 0) (b.bits i (omega (arith, lv, b.long))) (kind i) refl)

-- ---- a bit state passes on the way there

bit-right : (i x : ℕ) (k : Kind) → kind i ≡ k → Bit i x → T (bit_right i x)
unfolding bit_right Bit
bit-right i x Neither e h = rw e (subst (λ (y : ℕ). T (eqb y 0)) (sym (rw e at h)) tt)
bit-right i x Public e h = rw e tt
bit-right i x Sensitive e h = rw e (holds (le-leb x 1 (rw e at h)))

pub bits_pass : (s : State) → BitState s → every bit_right 0 s ≡ true
bits_pass s b =
    is_true (every bit_right 0 s)
    (every_passes bit_right 0 s (λ i h. subst (λ (j : ℕ). T (bit_right j (get_or s i 0))) (sym (zero-add i)) (bit-right i (get_or s i 0) (kind i) refl (b.bits i (omega (arith, b.long))))))

-- ---- the way back from any state is a bit state, and what passes condition 19 there is its image but for the scratch registers

one_of : (t : Bool) → cond t 1 0 ≤ 1
one_of true = omega arith
one_of false = omega arith

back_is_bit : (L : Layout) (i x : ℕ) (k : Kind) → kind i ≡ k → Bit i (back_at L i x)
unfolding Bit back_at
back_is_bit L i x Neither e = rw e
back_is_bit L i x Public e = rw e tt
back_is_bit L i x Sensitive e = rw e (one_of (eqb x (code L 1)))

coded-back : (L : Layout) (x : ℕ) → T (eqb x (code L 1) || eqb x (code L 0)) → x ≡ code L (cond (eqb x (code L 1)) 1 0)
coded-back L x h = go (eqb x (code L 1)) refl h
  where
    go : (t : Bool) → eqb x (code L 1) ≡ t → T (t || eqb x (code L 0)) → x ≡ code L (cond t 1 0)
    go true e g = eqb→eq x (code L 1) (holds e)
    go false e g = eqb→eq x (code L 0) g

fixed_back : (L : Layout) (i x : ℕ) → ((1 ≤ i) × (i ≤ 3) → ⊥) → T (fixed_right L i x) → x ≡ fixed L i
unfolding fixed_right fixed
fixed_back L zero x q h = eqb→eq x 0 h
fixed_back L (suc zero) x q h = absurd (q (omega arith))
fixed_back L (suc (suc zero)) x q h = absurd (q (omega arith))
fixed_back L (suc (suc (suc zero))) x q h = absurd (q (omega arith))
fixed_back L (suc (suc (suc (suc i)))) x q h = rw (le-ltb (suc (suc (suc (suc i)))) 4 (omega arith)) (eqb→eq x (page L (suc (suc (suc (suc i))) - 288)) (rw (le-ltb (suc (suc (suc (suc i)))) 4 (omega arith)) at h))

image_back_at : (L : Layout) (i x : ℕ) → ((1 ≤ i) × (i ≤ 3) → ⊥) → T (image_right L i x) → (k : Kind) → kind i ≡ k → x ≡ image_at L i (back_at L i x)
unfolding image_right image_at back_at
image_back_at L i x q h Neither e = rw e (fixed_back L i x q (rw e at h))
image_back_at L i x q h Public e = rw e
image_back_at L i x q h Sensitive e = rw e (coded-back L x (rw e at h))

module _ (L : Layout) (v : State) (long : length v ≡ 544) where
  pub back-get_or : (i : ℕ) → i < 544 → get_or (back L v) i 0 ≡ back_at L i (get_or v i 0)
  unfolding back
  back-get_or i h = map_at-get_or (back_at L) 0 v i (omega arith) ∙ ap (λ (j : ℕ). back_at L j (get_or v i 0)) (zero-add i)

  pub back-bits : BitState (back L v)
  unfolding back
  back-bits = record { long = map_at-length (back_at L) 0 v ∙ long; bits = λ i h. rw (back-get_or i h) (back_is_bit L i (get_or v i 0) (kind i) refl) }

  pub image-back : every (image_right L) 0 v ≡ true → ButScratch v (image L (back L v))
  unfolding ButScratch image
  image-back e = (sym (image-length L (back L v) ∙ back-bits.long ∙ sym long), λ i h q. at i (omega (arith, image-length L (back L v), back-bits.long)) q)
    where
      at : (i : ℕ) → i < 544 → ((1 ≤ i) × (i ≤ 3) → ⊥) → get_or v i 0 ≡ get_or (image L (back L v)) i 0
      at i g q =
          image_back_at L i (get_or v i 0) q (subst (λ (j : ℕ). T (image_right L j (get_or v i 0))) (zero-add i) (every_at (image_right L) 0 v (holds e) i (omega arith))) (kind i) refl
          ∙ ap (image_at L i) (sym (back-get_or i g))
          ∙ sym (map_at-get_or (image_at L) 0 (back L v) i (omega (arith, back-bits.long)) ∙ ap (λ (j : ℕ). image_at L j (get_or (back L v) i 0)) (zero-add i))
