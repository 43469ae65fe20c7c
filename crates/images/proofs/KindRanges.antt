-- A state by the ranges of its kinds: what a bit state and an image may have in each of them, and what is written there. Assumes nothing.
use mathlib.Core.Path.{◌≡◌, refl, sym, ap, ◌∙◌}
use mathlib.Core.Bool.{Bool, true, false, ◌&&◌, ◌||◌}
use mathlib.Core.List.{List, [], ◌∷◌, map}
use Prim.Native.Nat.{ℕ, zero, suc, ◌+◌, ◌-◌, ◌≤◌, ◌<◌}
use native.Mathlib.Omega.{arith}
use borrow.Author.Tests.{lt-ltb, lt-leb, eq-eqb, ne_eqb}
use lib.Dec.{eqb, leb}
use borrow.Rule.Slice.PartMut.{put_mid}
use lib.ListN.{length, get_or, replicate, take, drop, length-take, length-drop, length-replicate}
use lib.Seq.{take_all, get_or-take, get_or-drop}
use Rattle.model.specs.declared.Layout.{Layout}
use Rattle.model.specs.declared.Kind.TheVariants.{Neither, Public, Sensitive}
use Rattle.model.specs.Limits.{state_size}
use Rattle.model.specs.Places.{State, kind}
use Rattle.model.specs.Code.{code}
use Rattle.model.specs.Images.{map_at, bit_right, fixed_right, image_right, every}
use Rattle.model.proofs.PlaceLaws.{public_register, sensitive_register, public_cell, sensitive_cell, table_cell}
use Rattle.images.specs.Pages.{page_bytes}
use Rattle.std.specs.List.{list_all}
use Rattle.std.specs.Cmp.Lexicographic.{pointwise}
use Rattle.std.proofs.lemmas.List.{length-map, get_or-map}
use Rattle.images.specs.Ranges.{either, chosen, placed}
use Rattle.images.proofs.TablePage.{bytes_length, page-fixed, high_fixed}
use Rattle.images.proofs.Ranges.{and_true, every-pointwise, tested, skipped, none_left, Done, none_done, range_done, done_long, all_done}

-- ---- r0 to r3; the other ranges are in `PlaceLaws`

scratch : (j : ℕ) → j < 4 → kind j ≡ Neither
unfolding kind
scratch j h = rw (lt-ltb j 4 h)

-- either of one byte is that byte
twice : (b : Bool) → (b || b) ≡ b
twice true = refl
twice false = refl

-- ---- bit states

module _ (j v : ℕ) where
  bit_neither : kind j ≡ Neither → bit_right j v ≡ either 0 0 v
  unfolding bit_right
  bit_neither e = rw e (sym (twice (eqb v 0)))

  bit_public : kind j ≡ Public → bit_right j v ≡ true
  unfolding bit_right
  bit_public e = rw e

  bit_sensitive : kind j ≡ Sensitive → bit_right j v ≡ either 0 1 v
  unfolding bit_right
  bit_sensitive e = rw e (go v)
    where
      go : (v : ℕ) → leb v 1 ≡ (eqb v 0 || eqb v 1)
      go zero = refl
      go (suc zero) = refl
      go (suc (suc v)) = rw (lt-leb (suc (suc v)) 1 (omega arith), ne_eqb (suc (suc v)) 0 (λ q. omega arith), ne_eqb (suc (suc v)) 1 (λ q. omega arith))

joined : (a b c d x y z : Bool) {w : Bool} → w ≡ (a && x) → x ≡ (b && y) → y ≡ (c && z) → z ≡ d → (((a && b) && c) && d) ≡ w
joined a b c d x y z ex ey ez ew = rw (ex, ey, ez, ew) (go a b c d)
  where
    go : (a b c d : Bool) → (((a && b) && c) && d) ≡ (a && (b && (c && d)))
    go true true true d = refl
    go true true false d = refl
    go true false c d = refl
    go false b c d = refl

last : (f : ℕ → ℕ → Bool) (s : State) → length s ≡ state_size → (b : Bool) → (b && every f 544 (drop 544 s)) ≡ b
last f s h b = rw (none_left f s 544 (omega arith)) (and_true b)

pub bits_by_range : (s : State) (a b c d : Bool) → length s ≡ state_size → a ≡ list_all (either 0 0) (take 4 s) → b ≡ list_all (either 0 1) (take 16 (drop 16 s))
    → c ≡ list_all (either 0 1) (take 128 (drop 160 s)) → d ≡ list_all (either 0 0) (take 256 (drop 288 s)) → (((a && b) && c) && d) ≡ every bit_right 0 s
bits_by_range s a b c d h ea eb ec ed =
    let t1 = tested bit_right s (either 0 0) 0 4 (omega arith) (λ j g l. bit_neither j (get_or s j 0) (scratch j (omega arith))) in
    let t2 = skipped bit_right s 4 12 (omega arith) (λ j g l. bit_public j (get_or s j 0) (public_register j g (omega arith))) in
    let t3 = tested bit_right s (either 0 1) 16 16 (omega arith) (λ j g l. bit_sensitive j (get_or s j 0) (sensitive_register j g (omega arith))) in
    let t4 = skipped bit_right s 32 128 (omega arith) (λ j g l. bit_public j (get_or s j 0) (public_cell j g (omega arith))) in
    let t5 = tested bit_right s (either 0 1) 160 128 (omega arith) (λ j g l. bit_sensitive j (get_or s j 0) (sensitive_cell j g (omega arith))) in
    let t6 = tested bit_right s (either 0 0) 288 256 (omega arith) (λ j g l. bit_neither j (get_or s j 0) (table_cell j g)) in
    let page = list_all (either 0 0) (take 256 (drop 288 s)) in
    rw (ea, eb, ec, ed)
    (joined (list_all (either 0 0) (take 4 s)) (list_all (either 0 1) (take 16 (drop 16 s))) (list_all (either 0 1) (take 128 (drop 160 s))) page
    (every bit_right 4 (drop 4 s)) (every bit_right 32 (drop 32 s)) (every bit_right 288 (drop 288 s)) t1 (t2 ∙ t3) (t4 ∙ t5) (t6 ∙ last bit_right s h page))

-- ---- the way back: what may stand there

first_alone : (s : State) → 0 < length s → list_all (either 0 0) (take 1 (drop 0 s)) ≡ eqb (get_or s 0 0) 0
first_alone [] h = absurd (omega arith)
first_alone (x ∷ xs) h = and_true (eqb x 0 || eqb x 0) ∙ twice (eqb x 0)

module _ (L : Layout) where
  module _ (j v : ℕ) where
    image-zero : j < 1 → image_right L j v ≡ either 0 0 v
    unfolding image_right fixed_right
    image-zero h = let q : j ≡ 0 = omega arith in rw (scratch j (omega arith), lt-ltb j 4 (omega arith), eq-eqb j 0 q) (sym (twice (eqb v 0)))

    image_free : 1 ≤ j → j < 4 → image_right L j v ≡ true
    unfolding image_right fixed_right
    image_free g h = rw (scratch j h, lt-ltb j 4 h, ne_eqb j 0 (λ e. omega arith))

    image_public : kind j ≡ Public → image_right L j v ≡ true
    unfolding image_right
    image_public e = rw e

    image_sensitive : kind j ≡ Sensitive → image_right L j v ≡ either L.one L.zero v
    unfolding image_right code
    image_sensitive e = rw e

    image-page : (page : List ℕ) → page ≡ page_bytes L → 288 ≤ j → j < state_size → image_right L j v ≡ eqb v (get_or page (j - 288) 0)
    unfolding image_right
    image-page page e g h = rw (table_cell j g) (sym (high_fixed L j v (get_or page (j - 288) 0) (omega arith) (page-fixed L page j e g h)))

  pub places_by_range : (s : State) (page : List ℕ) (a b c d : Bool) → length s ≡ state_size → page ≡ page_bytes L → a ≡ eqb (get_or s 0 0) 0
      → b ≡ list_all (either L.one L.zero) (take 16 (drop 16 s)) → c ≡ list_all (either L.one L.zero) (take 128 (drop 160 s))
      → d ≡ pointwise eqb (take 256 (drop 288 s)) page → (((a && b) && c) && d) ≡ every (image_right L) 0 s
  places_by_range s page a b c d h p ea eb ec ed =
      let f = image_right L in
      let t1 = tested f s (either 0 0) 0 1 (omega arith) (λ j g l. image-zero j (get_or s j 0) (omega arith)) in
      let t2 = skipped f s 1 3 (omega arith) (λ j g l. image_free j (get_or s j 0) g (omega arith)) in
      let t3 = skipped f s 4 12 (omega arith) (λ j g l. image_public j (get_or s j 0) (public_register j g (omega arith))) in
      let t4 = tested f s (either L.one L.zero) 16 16 (omega arith) (λ j g l. image_sensitive j (get_or s j 0) (sensitive_register j g (omega arith))) in
      let t5 = skipped f s 32 128 (omega arith) (λ j g l. image_public j (get_or s j 0) (public_cell j g (omega arith))) in
      let t6 = tested f s (either L.one L.zero) 160 128 (omega arith) (λ j g l. image_sensitive j (get_or s j 0) (sensitive_cell j g (omega arith))) in
      let long : length page ≡ 256 = ap length p ∙ bytes_length L in
      let t7 : every f 288 (drop 288 s) ≡ pointwise eqb (drop 288 s) page =
      every-pointwise f 288 (drop 288 s) page (omega (arith, length-drop 288 s))
      (λ k g. image-page (288 + k) (get_or (drop 288 s) k 0) page p (omega arith) (omega arith) ∙ ap (λ (j : ℕ). eqb (get_or (drop 288 s) k 0) (get_or page j 0)) (omega arith)) in
      let coded = either L.one L.zero in
      rw (ea, eb, ec, ed, take_all 256 (drop 288 s) (omega (arith, length-drop 288 s)))
      (joined (eqb (get_or s 0 0) 0) (list_all coded (take 16 (drop 16 s))) (list_all coded (take 128 (drop 160 s))) (pointwise eqb (drop 288 s) page)
      (every f 1 (drop 1 s)) (every f 32 (drop 32 s)) (every f 288 (drop 288 s)) (t1 ∙ ap (λ (b : Bool). b && every f 1 (drop 1 s)) (first_alone s (omega arith))) (t2 ∙ t3 ∙ t4) (t5 ∙ t6) t7)

-- ---- what is written

zeros : (n j : ℕ) → ◌≡◌ {A = ℕ} (get_or (replicate n 0) j 0) 0
zeros zero j = refl
zeros (suc n) zero = refl
zeros (suc n) (suc j) = zeros n j

module _ (key x y : ℕ) where
  module _ (j b : ℕ) where
    placed_neither : kind j ≡ Neither → placed key x y j b ≡ 0
    unfolding placed
    placed_neither e = rw e

    placed-copied : kind j ≡ Public → placed key x y j b ≡ b
    unfolding placed
    placed-copied e = rw e

    placed-chosen : kind j ≡ Sensitive → placed key x y j b ≡ chosen key x y b
    unfolding placed
    placed-chosen e = rw e

  module _ (s d : State) (h : length s ≡ state_size) (g : length d ≡ state_size) where
    -- the first i places of a store d have what is placed there
    abbrev pub Placed : State → ℕ → Type 0
    Placed l i = Done (placed key x y) s d (omega arith) l i

    pub none_placed : Placed d 0
    none_placed = none_done (placed key x y) s d (omega arith)

    placed_long : (l : State) (i : ℕ) → i ≤ state_size → Placed l i → length l ≡ length d
    placed_long l i m q = done_long (placed key x y) s d (omega arith) l i (omega arith) q

    module _ (l part : State) (i n : ℕ) (m : i + n ≤ state_size) where
      pub zeros_placed : part ≡ replicate n 0 → ((j : ℕ) → i ≤ j → j < i + n → kind j ≡ Neither) → Placed l i → Placed (put_mid i n l part) (i + n)
      zeros_placed e k q =
          range_done (placed key x y) s d (omega arith) l part i n (omega arith) (ap length e ∙ length-replicate n 0)
          (λ j a. rw e (zeros n j ∙ sym (placed_neither (i + j) (get_or s (i + j) 0) (k (i + j) (omega arith) (omega arith))))) q

      pub copy_placed : part ≡ take n (drop i s) → ((j : ℕ) → i ≤ j → j < i + n → kind j ≡ Public) → Placed l i → Placed (put_mid i n l part) (i + n)
      copy_placed e k q =
          range_done (placed key x y) s d (omega arith) l part i n (omega arith) (omega (arith, ap length e, length-take n (drop i s), length-drop i s))
          (λ j a. rw e (get_or-take n (drop i s) j 0 a ∙ get_or-drop i s j 0 ∙ sym (placed-copied (i + j) (get_or s (i + j) 0) (k (i + j) (omega arith) (omega arith))))) q

      pub choice_placed : part ≡ map (chosen key x y) (take n (drop i s)) → ((j : ℕ) → i ≤ j → j < i + n → kind j ≡ Sensitive) → Placed l i → Placed (put_mid i n l part) (i + n)
      choice_placed e k q =
          let f = chosen key x y in
          let w : length (take n (drop i s)) ≡ n = omega (arith, length-take n (drop i s), length-drop i s) in
          range_done (placed key x y) s d (omega arith) l part i n (omega arith) (ap length e ∙ length-map (take n (drop i s)) f ∙ w)
          (λ j a.
          rw e (get_or-map f (take n (drop i s)) j 0 0 (omega arith) ∙ ap f (get_or-take n (drop i s) j 0 a ∙ get_or-drop i s j 0)
          ∙ sym (placed-chosen (i + j) (get_or s (i + j) 0) (k (i + j) (omega arith) (omega arith))))) q

    pub all_placed : (l : State) → Placed l 544 → l ≡ map_at (placed key x y) 0 s
    all_placed l q = all_done (placed key x y) s d (omega arith) l 544 (omega arith) q

    -- r0 to r3, public and sensitive registers, public and sensitive cells, then the table page
    module _ (p1 p2 p3 p4 p5 p6 : State) where
      abbrev pub five : State
      five = put_mid 160 128 (put_mid 32 128 (put_mid 16 16 (put_mid 4 12 (put_mid 0 4 d p1) p2) p3) p4) p5

      pub placed_by_range : p1 ≡ replicate (length (take 4 d)) 0 → p2 ≡ take 12 (drop 4 s) → p3 ≡ map (chosen key x y) (take 16 (drop 16 s)) → p4 ≡ take 128 (drop 32 s)
          → p5 ≡ map (chosen key x y) (take 128 (drop 160 s)) → p6 ≡ replicate (length (take 256 (drop 288 five))) 0 → put_mid 288 256 five p6 ≡ map_at (placed key x y) 0 s
      placed_by_range e1 e2 e3 e4 e5 e6 =
          let short : length (take 4 d) ≡ 4 = omega (arith, length-take 4 d) in
          let w1 : Placed (put_mid 0 4 d p1) 4 = zeros_placed d p1 0 4 (omega arith) (rw short at e1) (λ j a b. scratch j b) none_placed in
          let w2 : Placed (put_mid 4 12 _ p2) 16 = copy_placed _ p2 4 12 (omega arith) e2 (λ j a b. public_register j a b) w1 in
          let w3 : Placed (put_mid 16 16 _ p3) 32 = choice_placed _ p3 16 16 (omega arith) e3 (λ j a b. sensitive_register j a b) w2 in
          let w4 : Placed (put_mid 32 128 _ p4) 160 = copy_placed _ p4 32 128 (omega arith) e4 (λ j a b. public_cell j a b) w3 in
          let w5 : Placed five 288 = choice_placed _ p5 160 128 (omega arith) e5 (λ j a b. sensitive_cell j a b) w4 in
          let page : length (take 256 (drop 288 five)) ≡ 256 = omega (arith, length-take 256 (drop 288 five), length-drop 288 five, placed_long five 288 (omega arith) w5) in
          all_placed _ (zeros_placed five p6 288 256 (omega arith) (rw page at e6) (λ j a b. table_cell j a) w5)
