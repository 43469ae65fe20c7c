-- The sets that the third program walks from: how they are written a place at a time, and that they hold only images.
-- Assumes nothing.
use Prim.Native.Nat.{ℕ, zero, suc, ◌+◌, ◌-◌, ◌*◌, ◌≤◌, ◌<◌}
use mathlib.Core.Path.{◌≡◌, refl, sym, ap, ◌∙◌, subst}
use mathlib.Core.Bool.{true, false, ◌&&◌}
use mathlib.Core.List.{List, [], ◌∷◌, ◌++◌, append_assoc, append-nil}
use mathlib.Core.Logic.{inl, inr}
use native.Mathlib.Nat.{zero-add, suc-add, le_of_suc-le-suc}
use native.Mathlib.Omega.{arith}
use lib.Dec.{T, ltb, leb}
use lib.ListN.{length, get_or, set, take, drop, replicate, length-append, length-replicate, get_or-replicate, replicate-append-replicate}
use lib.Seq.{take_at, drop_at}
use Rattle.model.specs.declared.Kind.{Kind}
use Rattle.model.specs.declared.Kind.TheVariants.{Neither, Public, Sensitive}
use Rattle.model.specs.Layouts.{neighbours}
use Rattle.model.specs.Limits.{state_size}
use Rattle.model.specs.Answers.{Report, outcome}
use Rattle.model.specs.Places.{State, kind, is_sensitive}
use Rattle.model.specs.Code.{code}
use Rattle.model.specs.Images.{by_kind, fixed, image_at, image, to_image_outcome}
use Rattle.model.proofs.TestLaws.{both_and}
use Rattle.model.proofs.PlaceLaws.{map_at-get_or}
use Rattle.model.proofs.ZeroImage.{zeros, zero-image}
use Rattle.sets.specs.Walk.{set_width, max_values, listed, lists_from, sets_of, sized, distinct, values}
use Rattle.sets.specs.Claims.{In, OnlyImage, Images}
use Rattle.sets.proofs.Members.{distinct_in}
use Rattle.sets.proofs.Reports.{values_of}
use Rattle.verdicts.specs.Verdicts.{image_values, set_bytes, image_sets_from, image_sets, sets_before}

-- ---- the set of a place

values_are : (i : ℕ) → image_values i ≡ by_kind (kind i) (fixed neighbours i ∷ []) (0 ∷ []) (code neighbours 1 ∷ code neighbours 0 ∷ [])
unfolding image_values
values_are i = refl

image_is : (i x : ℕ) → image_at neighbours i x ≡ by_kind (kind i) (fixed neighbours i) x (code neighbours x)
unfolding image_at
image_is i x = refl

-- one value or two
by_values : (P : List ℕ → Type 0) → ((x : ℕ) → P (x ∷ [])) → ((x y : ℕ) → P (x ∷ y ∷ [])) → (i : ℕ) → P (image_values i)
by_values P one two i = subst P (sym (values_are i)) (go (kind i))
  where
    go : (k : Kind) → P (by_kind k (fixed neighbours i ∷ []) (0 ∷ []) (code neighbours 1 ∷ code neighbours 0 ∷ []))
    go Neither = one (fixed neighbours i)
    go Public = one 0
    go Sensitive = two (code neighbours 1) (code neighbours 0)

set_long : (i : ℕ) → length (set_bytes (image_values i)) ≡ set_width
set_long = by_values (λ xs. length (set_bytes xs) ≡ set_width) (λ x. refl) (λ x y. refl)

set-size : (i : ℕ) → T (ltb 0 (get_or (set_bytes (image_values i)) 0 0) && leb (get_or (set_bytes (image_values i)) 0 0) max_values)
set-size = by_values (λ xs. T (ltb 0 (get_or (set_bytes xs) 0 0) && leb (get_or (set_bytes xs) 0 0) max_values)) (λ x. tt) (λ x y. tt)

set-listed : (i : ℕ) → listed (set_bytes (image_values i)) ≡ image_values i
set-listed = by_values (λ xs. listed (set_bytes xs) ≡ xs) (λ x. refl) (λ x y. refl)

-- the first three bytes of a set, and 0 in the rest
abbrev three : ℕ → ℕ → ℕ → List ℕ → List ℕ
three count first second rest = count ∷ first ∷ second ∷ rest

module _ (i value : ℕ) (e : value ≡ image_at neighbours i 0) where
  pub both-codes : (one : ℕ) → one ≡ code neighbours 1 → is_sensitive (kind i) ≡ true → three 2 one value (replicate 14 0) ≡ set_bytes (image_values i)
  both-codes one o s = rw (o, e, image_is i 0, values_are i) (go (kind i) s)
    where
      go : (k : Kind) → is_sensitive k ≡ true
          → three 2 (code neighbours 1) (by_kind k (fixed neighbours i) 0 (code neighbours 0)) (replicate 14 0)
          ≡ set_bytes (by_kind k (fixed neighbours i ∷ []) (0 ∷ []) (code neighbours 1 ∷ code neighbours 0 ∷ []))
      go Neither s = absurd (subst T (sym s) tt)
      go Public s = absurd (subst T (sym s) tt)
      go Sensitive s = refl

  pub one_value : is_sensitive (kind i) ≡ false → three 1 value 0 (replicate 14 0) ≡ set_bytes (image_values i)
  one_value s = rw (e, image_is i 0, values_are i) (go (kind i) s)
    where
      go : (k : Kind) → is_sensitive k ≡ false
          → three 1 (by_kind k (fixed neighbours i) 0 (code neighbours 0)) 0 (replicate 14 0)
          ≡ set_bytes (by_kind k (fixed neighbours i ∷ []) (0 ∷ []) (code neighbours 1 ∷ code neighbours 0 ∷ []))
      go Neither s = refl
      go Public s = refl
      go Sensitive s = absurd (subst T s tt)

-- ---- the sets of places one after the other

sets_suc : (i n : ℕ) → image_sets_from i (suc n) ≡ set_bytes (image_values i) ++ image_sets_from (suc i) n
unfolding image_sets_from
sets_suc i n = refl

sets_zero : (i : ℕ) → image_sets_from i 0 ≡ []
unfolding image_sets_from
sets_zero i = refl

sets_long : (i n : ℕ) → length (image_sets_from i n) ≡ set_width * n
sets_long i zero = ap length (sets_zero i)
sets_long i (suc n) =
    omega (arith, ap length (sets_suc i n), length-append (set_bytes (image_values i)) (image_sets_from (suc i) n), set_long i, sets_long (suc i) n)

sets_snoc : (i n : ℕ) → image_sets_from i (suc n) ≡ image_sets_from i n ++ set_bytes (image_values (i + n))
sets_snoc i zero =
    let z : i + 0 ≡ i = omega arith in
    rw (sets_suc i 0, sets_zero i, sets_zero (suc i), z) (append-nil (set_bytes (image_values i)))
sets_snoc i (suc n) =
    let z : suc i + n ≡ i + suc n = omega arith in
    sets_suc i (suc n)
    ∙ ap (λ (l : List ℕ). set_bytes (image_values i) ++ l) (sets_snoc (suc i) n)
    ∙ sym (append_assoc (set_bytes (image_values i)) (image_sets_from (suc i) n) (set_bytes (image_values (suc i + n))))
    ∙ ap (λ (l : List ℕ). l ++ set_bytes (image_values (suc i + n))) (sym (sets_suc i n))
    ∙ ap (λ (k : ℕ). image_sets_from i (suc n) ++ set_bytes (image_values k)) z

-- ---- writing them

before_is : (i : ℕ) → sets_before i ≡ image_sets_from 0 i ++ replicate (set_width * (state_size - i)) 0
unfolding sets_before
before_is i = refl

sets_are : image_sets ≡ image_sets_from 0 state_size
unfolding image_sets
sets_are = refl

pub before_long : (i : ℕ) → i ≤ state_size → length (sets_before i) ≡ set_width * state_size
before_long i h =
    omega (
      arith,
      ap length (before_is i),
      length-append (image_sets_from 0 i) (replicate (set_width * (state_size - i)) 0),
      sets_long 0 i,
      length-replicate {A = ℕ} (set_width * (state_size - i)) 0,
    )

pub before_all : sets_before 0 ≡ replicate (set_width * state_size) 0
before_all = before_is 0 ∙ ap (λ (l : List ℕ). l ++ replicate (set_width * state_size) 0) (sets_zero 0)

pub before_none : (i : ℕ) → i ≤ state_size → state_size ≤ i → sets_before i ≡ image_sets
before_none i h g =
    let e : i ≡ state_size = omega arith in
    let z : set_width * (state_size - state_size) ≡ 0 = omega arith in
    ap sets_before e ∙ before_is state_size ∙ ap (λ (k : ℕ). image_sets_from 0 state_size ++ replicate k 0) z ∙ append-nil (image_sets_from 0 state_size) ∙ sym sets_are

-- a byte written behind a list
set_behind : (p ys : List ℕ) (j a : ℕ) → set (p ++ ys) (length p + j) a ≡ p ++ set ys j a
set_behind [] ys j a = ap (λ (k : ℕ). set ys k a) (zero-add j)
set_behind (x ∷ p) ys j a = ap (λ (k : ℕ). set (x ∷ (p ++ ys)) k a) (suc-add (length p) j) ∙ ap (λ (l : List ℕ). x ∷ l) (set_behind p ys j a)

set_past : (p ys : List ℕ) (n k j a : ℕ) → length p ≡ n → k ≡ n + j → set (p ++ ys) k a ≡ p ++ set ys j a
set_past p ys n k j a e f = rw (f, ← e) (set_behind p ys j a)

bytes_behind : (p rest : List ℕ) (k count first second : ℕ) → length p ≡ k
    → set (set (set (p ++ three 0 0 0 rest) k count) (k + 1) first) (k + 2) second ≡ p ++ three count first second rest
bytes_behind p rest k count first second long =
    let z : k ≡ k + 0 = omega arith in
    ap (λ (l : List ℕ). set (set l (k + 1) first) (k + 2) second) (set_past p (three 0 0 0 rest) k k 0 count long z)
    ∙ ap (λ (l : List ℕ). set l (k + 2) second) (set_past p (three count 0 0 rest) k (k + 1) 1 first long refl)
    ∙ set_past p (three count first 0 rest) k (k + 2) 2 second long refl

-- the bytes of a set in front of zeros
set_front : (p : List ℕ) (m i count first second : ℕ) → three count first second (replicate 14 0) ≡ set_bytes (image_values i)
    → p ++ three count first second (replicate (14 + m) 0) ≡ (p ++ set_bytes (image_values i)) ++ replicate m 0
set_front p m i count first second e =
    ap (λ (l : List ℕ). p ++ three count first second l) (sym (replicate-append-replicate 14 m 0))
    ∙ ap (λ (l : List ℕ). p ++ (l ++ replicate m 0)) e
    ∙ sym (append_assoc p (set_bytes (image_values i)) (replicate m 0))

zeros-next : (i : ℕ) → i < state_size → sets_before i ≡ image_sets_from 0 i ++ three 0 0 0 (replicate (14 + set_width * (state_size - suc i)) 0)
zeros-next i h =
    let split : set_width * (state_size - i) ≡ suc (suc (suc (14 + set_width * (state_size - suc i)))) = omega arith in
    before_is i ∙ ap (λ (n : ℕ). image_sets_from 0 i ++ replicate n 0) split

sets_next : (i : ℕ) → (image_sets_from 0 i ++ set_bytes (image_values i)) ++ replicate (set_width * (state_size - suc i)) 0 ≡ sets_before (suc i)
sets_next i =
    let z : i ≡ 0 + i = omega arith in
    ap (λ (l : List ℕ). l ++ replicate (set_width * (state_size - suc i)) 0) (ap (λ (j : ℕ). image_sets_from 0 i ++ set_bytes (image_values j)) z ∙ sym (sets_snoc 0 i)) ∙ sym (before_is (suc i))

pub before-next : (i count first second : ℕ) → i < state_size → three count first second (replicate 14 0) ≡ set_bytes (image_values i)
    → set (set (set (sets_before i) (set_width * i) count) (set_width * i + 1) first) (set_width * i + 2) second ≡ sets_before (suc i)
before-next i count first second h e =
    ap (λ (l : List ℕ). set (set (set l (set_width * i) count) (set_width * i + 1) first) (set_width * i + 2) second) (zeros-next i h)
    ∙ bytes_behind (image_sets_from 0 i) (replicate (14 + set_width * (state_size - suc i)) 0) (set_width * i) count first second (sets_long 0 i)
    ∙ set_front (image_sets_from 0 i) (set_width * (state_size - suc i)) i count first second e
    ∙ sets_next i

-- ---- the image of the all-zero state, by its places

image_clause : (s : State) (i : ℕ) → i < length s → get_or (image neighbours s) i 0 ≡ image_at neighbours (0 + i) (get_or s i 0)
unfolding image
image_clause s i h = map_at-get_or (image_at neighbours) 0 s i h

pub zero_at : (new : State) (r : Report) → outcome r (new ∷ []) ≡ to_image_outcome 0 0 zeros zeros → (i : ℕ) → i < state_size → get_or new i 0 ≡ image_at neighbours i 0
zero_at new r e i h =
    let z : 0 + i ≡ i = omega arith in
    let l : length zeros ≡ state_size = length-replicate {A = ℕ} state_size 0 in
    ap (λ (s : State). get_or s i 0) (zero-image new r e) ∙ image_clause zeros i (omega (arith, l))
    ∙ ap (λ (j : ℕ). image_at neighbours j (get_or zeros i 0)) z ∙ ap (image_at neighbours i) (get_or-replicate state_size i 0 0 h)

-- ---- they hold only images

sized_suc : (i n : ℕ) → T (sized n (image_sets_from (suc i) n)) → T (sized (suc n) (set_bytes (image_values i) ++ image_sets_from (suc i) n))
unfolding sized
sized_suc i n h =
    both_and (ltb 0 (get_or (set_bytes (image_values i)) 0 0) && leb (get_or (set_bytes (image_values i)) 0 0) max_values) _ (set-size i)
    (subst (λ (l : List ℕ). T (sized n l)) (sym (drop_at (set_bytes (image_values i)) (image_sets_from (suc i) n) set_width (set_long i))) h)

all_sized : (i n : ℕ) → T (sized n (image_sets_from i n))
unfolding sized
all_sized i zero = tt
all_sized i (suc n) = subst (λ (l : List ℕ). T (sized (suc n) l)) (sym (sets_suc i n)) (sized_suc i n (all_sized (suc i) n))

lists_suc : (n : ℕ) (b : List ℕ) → lists_from (suc n) b ≡ listed (take set_width b) ∷ lists_from n (drop set_width b)
unfolding lists_from
lists_suc n b = refl

all_listed : (i n j : ℕ) → j < n → get_or (lists_from n (image_sets_from i n)) j (0 ∷ []) ≡ image_values (i + j)
all_listed i zero j h = absurd (omega arith)
all_listed i (suc n) j h =
    let front : List ℕ = set_bytes (image_values i) in
    let rest : List ℕ = image_sets_from (suc i) n in
    let first : listed (take set_width (front ++ rest)) ≡ image_values i = ap listed (take_at front rest set_width (set_long i)) ∙ set-listed i in
    let others : lists_from n (drop set_width (front ++ rest)) ≡ lists_from n rest = ap (lists_from n) (drop_at front rest set_width (set_long i)) in
    rw (sets_suc i n, lists_suc n (front ++ rest), first, others) (go j h (λ k g. all_listed (suc i) n k g))
  where
    go : (j : ℕ) → j < suc n → ((k : ℕ) → k < n → get_or (lists_from n (image_sets_from (suc i) n)) k (0 ∷ []) ≡ image_values (suc i + k))
        → get_or (image_values i ∷ lists_from n (image_sets_from (suc i) n)) j (0 ∷ []) ≡ image_values (i + j)
    go zero g ih = let z : i ≡ i + 0 = omega arith in ap image_values z
    go (suc k) g ih = let z : suc i + k ≡ i + suc k = omega arith in ih k (le_of_suc-le-suc g) ∙ ap image_values z

only_image : (i : ℕ) → OnlyImage neighbours i (distinct (image_values i))
unfolding OnlyImage
only_image i = go (kind i) refl
  where
    held : (k : Kind) → kind i ≡ k → (x : ℕ) → In x (distinct (image_values i)) → In x (by_kind k (fixed neighbours i ∷ []) (0 ∷ []) (code neighbours 1 ∷ code neighbours 0 ∷ []))
    held k e x m = subst (λ (l : List ℕ). In x l) (values_are i ∙ ap (λ (q : Kind). by_kind q (fixed neighbours i ∷ []) (0 ∷ []) (code neighbours 1 ∷ code neighbours 0 ∷ [])) e) (distinct_in x (image_values i) m)

    alone : (x v : ℕ) → In x (v ∷ []) → x ≡ v
    alone x v (inl e) = e
    alone x v (inr m) = absurd m

    go : (k : Kind) → kind i ≡ k
        → by_kind k ((x : ℕ) → In x (distinct (image_values i)) → x ≡ fixed neighbours i) ((x y : ℕ) → In x (distinct (image_values i)) → In y (distinct (image_values i)) → x ≡ y) ((x : ℕ) → In x (distinct (image_values i)) → In x (code neighbours 1 ∷ code neighbours 0 ∷ []))
    go Neither e = λ x m. alone x (fixed neighbours i) (held Neither e x m)
    go Public e = λ x y m n. alone x 0 (held Public e x m) ∙ sym (alone y 0 (held Public e y n))
    go Sensitive e = λ x m. held Sensitive e x m

pub image_sets_lem : Images neighbours image_sets
image_sets_lem =
    let e : image_sets ≡ image_sets_from 0 state_size = sets_are in
    record {
      long = ap length e ∙ sets_long 0 state_size;
      sizes = subst (λ (l : List ℕ). T (sized state_size l)) (sym e) (all_sized 0 state_size);
      only =
          λ i h.
          let z : 0 + i ≡ i = omega arith in
          let v : values (sets_of image_sets) i ≡ distinct (image_values i) =
          values_of image_sets i ∙ ap distinct (ap (λ (l : List ℕ). get_or (lists_from state_size l) i (0 ∷ [])) e ∙ all_listed 0 state_size i h ∙ ap image_values z) in
          subst (OnlyImage neighbours i) (sym v) (only_image i);
    }
