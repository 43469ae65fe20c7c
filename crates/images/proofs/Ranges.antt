-- A state by ranges of its places, one after the other: a test of the bytes in each, and a store that gets its bytes range by range.
-- Assumes nothing.
use mathlib.Core.Path.{◌≡◌, refl, sym, ap, ◌∙◌}
use mathlib.Core.Bool.{Bool, true, false, ◌&&◌}
use mathlib.Core.List.{List, [], ◌∷◌, ◌++◌}
use Prim.Native.Nat.{ℕ, zero, suc, ◌+◌, ◌≤◌, ◌<◌}
use native.Mathlib.Nat.{zero-add, add-zero}
use native.Mathlib.Numerals.{add-one}
use native.Mathlib.Omega.{arith}
use borrow.Rule.Slice.PartMut.{put_mid}
use lib.Dec.{eqb}
use lib.ListN.{length, get_or, set, take, drop, length-take, length-drop, length-append, drop_of_length-le}
use lib.Seq.{drop-cons, take-suc, set_at, take_all, take_at, drop_at, drop-drop, length-take-le, append_snoc, get_or-take, get_or-drop, ext_get_or}
use Rattle.std.specs.List.{list_all}
use Rattle.std.specs.Cmp.Lexicographic.{pointwise}
use Rattle.std.proofs.lemmas.List.{append-nil, append_assoc, take_more}
use Rattle.std.proofs.lemmas.List.Folds.{list_all-append}
use Rattle.model.specs.Images.{map_at, every}
use Rattle.model.proofs.PlaceLaws.{map_at-length, map_at-get_or}

-- ---- tests

pub and_true : (x : Bool) → (x && true) ≡ x
and_true true = refl
and_true false = refl

and_assoc : (x y z : Bool) → (x && (y && z)) ≡ ((x && y) && z)
and_assoc true y z = refl
and_assoc false y z = refl

-- one byte more: of the bytes before k the tests gave `good`
pub good_more : (p : ℕ → Bool) (l : List ℕ) (k : ℕ) (good x : Bool) → k < length l → good ≡ list_all p (take k l) → x ≡ p (get_or l k 0)
    → (good && x) ≡ list_all p (take (k + 1) l)
good_more p l k good x h e q =
    rw (take_more l k 0 h, list_all-append p (take k l) (get_or l k 0 ∷ []), e, q) (ap (λ (b : Bool). list_all p (take k l) && b) (sym (and_true (p (get_or l k 0)))))

all_true : (l : List ℕ) → list_all (λ v. true) l ≡ true
all_true [] = refl
all_true (x ∷ xs) = all_true xs

module _ (f : ℕ → ℕ → Bool) (s : List ℕ) where
  -- the places from i on: n of them, of whose bytes the test says what another says, then the rest
  pub tested : (p : ℕ → Bool) (i n : ℕ) → i + n ≤ length s → ((j : ℕ) → i ≤ j → j < i + n → f j (get_or s j 0) ≡ p (get_or s j 0))
      → every f i (drop i s) ≡ (list_all p (take n (drop i s)) && every f (i + n) (drop (i + n) s))
  unfolding every
  tested p i zero h e = ap (λ (j : ℕ). every f j (drop j s)) (sym (add-zero i))
  tested p i (suc n) h e =
      let q : suc i + n ≡ i + suc n = omega arith in
      rw (drop-cons s i 0 (omega arith), e i (omega arith) (omega arith))
      (ap (λ (b : Bool). p (get_or s i 0) && b)
      (tested p (suc i) n (omega arith) (λ j a b. e j (omega arith) (omega arith)) ∙ ap (λ (j : ℕ). list_all p (take n (drop (suc i) s)) && every f j (drop j s)) q)
      ∙ and_assoc (p (get_or s i 0)) (list_all p (take n (drop (suc i) s))) (every f (i + suc n) (drop (i + suc n) s)))

  -- which pass
  pub skipped : (i n : ℕ) → i + n ≤ length s → ((j : ℕ) → i ≤ j → j < i + n → f j (get_or s j 0) ≡ true) → every f i (drop i s) ≡ every f (i + n) (drop (i + n) s)
  skipped i n h e = tested (λ v. true) i n h e ∙ ap (λ (b : Bool). b && every f (i + n) (drop (i + n) s)) (all_true (take n (drop i s)))

  pub none_left : (i : ℕ) → length s ≤ i → every f i (drop i s) ≡ true
  unfolding every
  none_left i h = rw (drop_of_length-le s h)

-- each byte is that of another list, of the bytes before k and of one more
pub pointwise_more : (l page : List ℕ) (k : ℕ) (good x : Bool) → k < length l → k < length page → good ≡ pointwise eqb (take k l) (take k page)
    → x ≡ eqb (get_or l k 0) (get_or page k 0) → (good && x) ≡ pointwise eqb (take (k + 1) l) (take (k + 1) page)
pointwise_more l page k good x h g e q = rw (add-one k, e, q) (sym (go l page k h g))
  where
    go : (l page : List ℕ) (k : ℕ) → k < length l → k < length page
        → pointwise eqb (take (suc k) l) (take (suc k) page) ≡ (pointwise eqb (take k l) (take k page) && eqb (get_or l k 0) (get_or page k 0))
    go [] page k h g = absurd (omega arith)
    go (x ∷ xs) [] k h g = absurd (omega arith)
    go (x ∷ xs) (y ∷ ys) zero h g = and_true (eqb x y)
    go (x ∷ xs) (y ∷ ys) (suc k) h g =
        ap (λ (b : Bool). eqb x y && b) (go xs ys k (omega arith) (omega arith)) ∙ and_assoc (eqb x y) (pointwise eqb (take k xs) (take k ys)) (eqb (get_or xs k 0) (get_or ys k 0))

pub every-pointwise : (f : ℕ → ℕ → Bool) (i : ℕ) (l page : List ℕ) → length l ≡ length page
    → ((k : ℕ) → k < length page → f (i + k) (get_or l k 0) ≡ eqb (get_or l k 0) (get_or page k 0)) → every f i l ≡ pointwise eqb l page
unfolding every
every-pointwise f i [] [] h e = refl
every-pointwise f i [] (y ∷ ys) h e = absurd (omega arith)
every-pointwise f i (x ∷ xs) [] h e = absurd (omega arith)
every-pointwise f i (x ∷ xs) (y ∷ ys) h e =
    let one : f i x ≡ eqb x y = ap (λ (j : ℕ). f j x) (sym (add-zero i)) ∙ e 0 (omega arith) in
    rw (one, every-pointwise f (suc i) xs ys (omega arith) (λ k g. ap (λ (j : ℕ). f j (get_or xs k 0)) (omega arith) ∙ e (suc k) (omega arith)))

-- ---- writes

-- the first i places of n, then d
abbrev pub front : List ℕ → List ℕ → ℕ → List ℕ
front n d i = take i n ++ drop i d

pub front-next : (n d : List ℕ) (i : ℕ) → i < length n → i < length d → set (front n d i) i (get_or n i 0) ≡ front n d (i + 1)
front-next n d i h g =
    rw (add-one i, drop-cons d i 0 g, take-suc n i 0 h)
    (set_at (take i n) (get_or d i 0) (drop (suc i) d) (get_or n i 0) i (length-take-le i n (omega arith)) ∙ sym (append_snoc (take i n) (get_or n i 0) (drop (suc i) d)))

pub front_all : (n d : List ℕ) (i : ℕ) → length n ≤ i → length d ≤ i → front n d i ≡ n
front_all n d i h g = rw (take_all i n h, drop_of_length-le d {i = i} g) (append-nil n)

one_more : (l : List ℕ) (i n : ℕ) → ((r : List ℕ) → take (i + n) r ≡ take i r ++ take n (drop i r)) → take (suc (i + n)) l ≡ take (suc i) l ++ take n (drop (suc i) l)
one_more [] i zero h = refl
one_more [] i (suc n) h = refl
one_more (x ∷ xs) i n h = ap (λ (r : List ℕ). x ∷ r) (h xs)

take_add : (l : List ℕ) (i n : ℕ) → take (i + n) l ≡ take i l ++ take n (drop i l)
take_add l zero n = ap (λ (j : ℕ). take j l) (zero-add n)
take_add l (suc i) n = let q : suc i + n ≡ suc (i + n) = omega arith in rw q (one_more l i n (λ r. take_add r i n))

-- a store d that gets the bytes that f makes of the state s, range by range
module _ (f : ℕ → ℕ → ℕ) (s d : List ℕ) (same : length s ≡ length d) where
  -- the first i places have them
  abbrev pub Done : List ℕ → ℕ → Type 0
  Done l i = l ≡ front (map_at f 0 s) d i

  pub none_done : Done d 0
  none_done = refl

  pub range_done : (l part : List ℕ) (i n : ℕ) → i + n ≤ length s → length part ≡ n → ((j : ℕ) → j < n → get_or part j 0 ≡ f (i + j) (get_or s (i + j) 0))
      → Done l i → Done (put_mid i n l part) (i + n)
  range_done l part i n h long e q =
      let m = map_at f 0 s in
      let w : length m ≡ length s = map_at-length f 0 s in
      let is : part ≡ take n (drop i m) =
      ext_get_or 0 part (take n (drop i m)) (omega (arith, length-take n (drop i m), length-drop i m))
      (λ j g. e j (omega arith) ∙ sym (get_or-take n (drop i m) j 0 (omega arith) ∙ get_or-drop i m j 0 ∙ map_at-get_or f 0 s (i + j) (omega arith)
      ∙ ap (λ (k : ℕ). f k (get_or s (i + j) 0)) (zero-add (i + j)))) in
      let a : length (take i m) ≡ i = length-take-le i m (omega arith) in
      rw (q, take_at (take i m) (drop i d) i a, drop_at (take i m) (drop i d) i a, drop-drop n i d, is, take_add m i n)
      (sym (append_assoc (take i m) (take n (drop i m)) (drop (i + n) d)))

  pub done_long : (l : List ℕ) (i : ℕ) → i ≤ length s → Done l i → length l ≡ length d
  done_long l i h q =
      let m = map_at f 0 s in
      omega (arith, ap length q, length-append (take i m) (drop i d), length-take-le i m (omega (arith, map_at-length f 0 s)), length-drop i d)

  pub all_done : (l : List ℕ) (i : ℕ) → length s ≤ i → Done l i → l ≡ map_at f 0 s
  all_done l i h q = q ∙ front_all (map_at f 0 s) d i (omega (arith, map_at-length f 0 s)) (omega arith)
