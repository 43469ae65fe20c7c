-- Sets as bytes: the 17 bytes of a place, how many values they list and which, and what becomes of the lists when bytes are written.
-- Assumes nothing.
use mathlib.Core.Path.{◌≡◌, refl, sym, ap, ◌∙◌}
use mathlib.Core.List.{List, [], ◌∷◌, ◌++◌, map}
use Prim.Native.Nat.{ℕ, zero, suc, ◌+◌, ◌-◌, ◌*◌, ◌≤◌, ◌<◌, min}
use native.Mathlib.Nat.{not-suc-le-zero, le_of_suc-le-suc}
use native.Mathlib.Decide.{ℕ_discrete}
use native.Mathlib.Omega.{arith}
use borrow.Rule.Slice.PartMut.{put_mid}
use lib.ListN.{length, get_or, set, take, drop, length-take, length-drop, length-set, get_or-eq_default}
use lib.Seq.{length-take-le, take_all, take-take, take-suc-set, take-set-le, take-set-lt, drop-set-lt, drop-set-add, set_out, get_or-take, get_or-drop, drop-drop, get_or-set_same, get_or-set_other, ext_get_or, set-set, set_comm, set-get_or}
use Rattle.std.proofs.lemmas.List.{drop-take}
use Rattle.std.proofs.lemmas.Slice.{between-put_mid, take-put_mid_below, drop-put_mid}
use Rattle.model.specs.Limits.{state_size}
use Rattle.model.proofs.TestLaws.{below}
use Rattle.sets.specs.Walk.{max_values, set_width, listed, lists_from, lists_of, values}
use Rattle.sets.proofs.Reports.{lists_length}
use Rattle.choices.specs.Gathering.{begun}

-- ---- what the bytes of one place list

-- the bytes of place i
abbrev pub block : List ℕ → ℕ → List ℕ
block b i = take set_width (drop (set_width * i) b)

-- n bytes after the count
module _ (u : List ℕ) (n : ℕ) (e : length u ≡ suc n) where
  pub listed-few : get_or u 0 0 ≤ n → length (listed u) ≡ get_or u 0 0
  listed-few h = length-take-le (get_or u 0 0) (drop 1 u) (omega (arith, length-drop 1 u))

  pub listed_most : n ≤ get_or u 0 0 → length (listed u) ≡ n
  listed_most h = ap length (take_all (get_or u 0 0) (drop 1 u) (omega (arith, length-drop 1 u))) ∙ omega (arith, length-drop 1 u)

  pub listed_bounds : (length (listed u) ≤ n) × (length (listed u) ≤ get_or u 0 0)
  listed_bounds = below (get_or u 0 0) n (λ h. (omega (arith, listed-few (omega arith)), omega (arith, listed-few (omega arith)))) (λ h. (omega (arith, listed_most h), omega (arith, listed_most h)))

  pub listed_at : (j : ℕ) → j < length (listed u) → get_or (listed u) j 0 ≡ get_or u (1 + j) 0
  listed_at j h = get_or-take (get_or u 0 0) (drop 1 u) j 0 (omega (arith, listed_bounds.1)) ∙ get_or-drop 1 u j 0

-- the count and one value more
pub listed_new : (u : List ℕ) (x : ℕ) → suc (get_or u 0 0) < length u → listed (set (set u (1 + get_or u 0 0) x) 0 (get_or u 0 0 + 1)) ≡ listed u ++ x ∷ []
listed_new [] x h = absurd (omega arith)
listed_new (n ∷ vs) x h =
    let z : 1 + n ≡ suc n = omega arith in
    let w : n + 1 ≡ suc n = omega arith in
    rw (z, w) (take-suc-set vs n x (omega arith))

-- the first 17 bytes list the same where the count is a set's
pub listed-front : (u : List ℕ) → get_or u 0 0 ≤ max_values → listed (take set_width u) ≡ listed u
listed-front [] h = refl
listed-front (n ∷ vs) h = take-take n max_values vs h

-- one value alone
pub listed_alone : (u : List ℕ) (v : ℕ) → 1 < length u → listed (set (set u 0 1) 1 v) ≡ v ∷ []
listed_alone [] v h = absurd (omega arith)
listed_alone (n ∷ []) v h = absurd (omega arith)
listed_alone (n ∷ w ∷ u) v h = refl

-- ---- the lists of all places

at_list : (n : ℕ) (b : List ℕ) (i : ℕ) → i < n → values (lists_from n b) i ≡ listed (block b i)
unfolding lists_from
at_list zero b i h = absurd (not-suc-le-zero h)
at_list (suc n) b zero h = refl
at_list (suc n) b (suc i) h =
    let z : set_width + set_width * i ≡ set_width * suc i = omega arith in
    at_list n (drop set_width b) i (le_of_suc-le-suc h) ∙ ap (λ (l : List ℕ). listed (take set_width l)) (drop-drop (set_width * i) set_width b ∙ ap (λ (k : ℕ). drop k b) z)

pub values-past : (b : List ℕ) (i : ℕ) → state_size ≤ i → values (lists_of b) i ≡ 0 ∷ []
values-past b i h = get_or-eq_default (lists_of b) (0 ∷ []) {n = i} (omega (arith, lists_length state_size b))

pub lists_kept : (b : List ℕ) (i : ℕ) (xs : List ℕ) → state_size ≤ i → lists_of b ≡ set (lists_of b) i xs
lists_kept b i xs h = sym (set_out (lists_of b) i xs (omega (arith, lists_length state_size b)))

module _ (b : List ℕ) (l : length b ≡ set_width * state_size) (i : ℕ) (h : i < state_size) where
  pub block-length : length (block b i) ≡ set_width
  block-length = length-take-le set_width (drop (set_width * i) b) (omega (arith, length-drop (set_width * i) b))

  pub values_at : values (lists_of b) i ≡ listed (block b i)
  values_at = at_list state_size b i h

  pub byte_at : (j : ℕ) → j < set_width → get_or (block b i) j 0 ≡ get_or b (set_width * i + j) 0
  byte_at j g = get_or-take set_width (drop (set_width * i) b) j 0 g ∙ get_or-drop (set_width * i) b j 0

  count_at : get_or (block b i) 0 0 ≡ get_or b (set_width * i) 0
  count_at = let z : set_width * i + 0 ≡ set_width * i = omega arith in byte_at 0 (omega arith) ∙ ap (λ (k : ℕ). get_or b k 0) z

  pub size_at : min max_values (get_or b (set_width * i) 0) ≡ length (values (lists_of b) i)
  size_at = omega (arith, ap length values_at, length-take (get_or (block b i) 0 0) (drop 1 (block b i)), length-drop 1 (block b i), block-length, count_at)

  pub values_le : length (values (lists_of b) i) ≤ max_values
  values_le = omega (arith, ap length values_at, (listed_bounds (block b i) max_values block-length).0)

  pub value_at : (j : ℕ) → j < length (values (lists_of b) i) → get_or b (set_width * i + 1 + j) 0 ≡ get_or (values (lists_of b) i) j 0
  value_at j g =
      let z : set_width * i + (1 + j) ≡ set_width * i + 1 + j = omega arith in
      sym (ap (λ (xs : List ℕ). get_or xs j 0) values_at
      ∙ listed_at (block b i) max_values block-length j (omega (arith, ap length values_at))
      ∙ byte_at (1 + j) (omega (arith, values_le)) ∙ ap (λ (k : ℕ). get_or b k 0) z)

-- ---- a byte written

-- byte r of place q
module _ (b : List ℕ) (q r x : ℕ) (h : r < set_width) where
  pub block_same : block (set b (set_width * q + r) x) q ≡ set (block b q) r x
  block_same = ap (take set_width) (drop-set-add (set_width * q) b r x) ∙ take-set-lt set_width (drop (set_width * q) b) r x h

  pub block_other : (i : ℕ) → (i ≡ q → ⊥) → block (set b (set_width * q + r) x) i ≡ block b i
  block_other i n = below i q before after
    where
      before : i < q → block (set b (set_width * q + r) x) i ≡ block b i
      before g = go (set_width * q + r - set_width * i) (omega arith) (omega arith)
        where
          go : (m : ℕ) → set_width * q + r ≡ set_width * i + m → set_width ≤ m → block (set b (set_width * q + r) x) i ≡ block b i
          go m e le = rw e (ap (take set_width) (drop-set-add (set_width * i) b m x) ∙ take-set-le set_width (drop (set_width * i) b) m x le)

      after : q ≤ i → block (set b (set_width * q + r) x) i ≡ block b i
      after g = ap (take set_width) (drop-set-lt (set_width * i) b (set_width * q + r) x (omega arith))

-- the lists where all places but one have the bytes that they had
pub lists_set : (b b' : List ℕ) (q : ℕ) (xs : List ℕ) → q < state_size → ((i : ℕ) → (i ≡ q → ⊥) → block b' i ≡ block b i) → listed (block b' q) ≡ xs → lists_of b' ≡ set (lists_of b) q xs
lists_set b b' q xs h other here =
    ext_get_or (0 ∷ []) (lists_of b') (set (lists_of b) q xs) (lists_length state_size b' ∙ sym (lists_length state_size b) ∙ sym (length-set (lists_of b) q xs))
    (λ i g. go i (omega (arith, lists_length state_size b')) (ℕ_discrete i q))
  where
    go : (i : ℕ) → i < state_size → Dec (i ≡ q) → values (lists_of b') i ≡ values (set (lists_of b) q xs) i
    go i g (no n) = at_list state_size b' i g ∙ ap listed (other i n) ∙ sym (at_list state_size b i g) ∙ sym (get_or-set_other (lists_of b) q i xs (0 ∷ []) n)
    go i g (yes e) = rw (e, get_or-set_same (lists_of b) q xs (0 ∷ []) (omega (arith, lists_length state_size b))) (at_list state_size b' q h ∙ here)

-- ---- the bytes of a place written over

-- the same up to k, so the same m from a on, if they end by then
same_within : (k : ℕ) (xs ys : List ℕ) → take k xs ≡ take k ys → (a m : ℕ) → a + m ≤ k → take m (drop a xs) ≡ take m (drop a ys)
same_within k xs ys e a m h =
    let shown : (zs : List ℕ) → take m (drop a zs) ≡ drop a (take (a + m) (take k zs)) = λ (zs : List ℕ). sym (drop-take a m zs) ∙ ap (drop a) (sym (take-take (a + m) k zs h)) in
    shown xs ∙ ap (λ (zs : List ℕ). drop a (take (a + m) zs)) e ∙ sym (shown ys)

module _ (b : List ℕ) (l : length b ≡ set_width * state_size) (i : ℕ) (h : i < state_size) (new : List ℕ) (n : length new ≡ set_width) where
  abbrev at : ℕ
  at = set_width * i

  abbrev over : List ℕ
  over = put_mid at (at + set_width - at) b new

  pub lists_put : lists_of over ≡ set (lists_of b) i (listed new)
  lists_put = lists_set b over i (listed new) h others (ap listed here)
    where
      here : block over i ≡ new
      here = let z : at + set_width - at ≡ set_width = omega arith in ap (λ (m : ℕ). take m (drop at over)) (sym z) ∙ between-put_mid at (at + set_width - at) b new (at + set_width) (omega arith) (omega (arith, n))

      others : (j : ℕ) → (j ≡ i → ⊥) → block over j ≡ block b j
      others j e = below j i
          (λ g. same_within at over b (take-put_mid_below at (at + set_width - at) b new at (omega arith) (omega arith)) (set_width * j) set_width (omega arith))
          (λ g. ap (take set_width) (drop-put_mid at (at + set_width - at) b new (set_width * j) (omega arith) (omega arith) (omega (arith, n))))

-- ---- the first two bytes of a place

pub begun_alone : (b : List ℕ) (i v : ℕ) → length b ≡ set_width * state_size → i < state_size → lists_of (begun b i 1 v) ≡ set (lists_of b) i (v ∷ [])
begun_alone b i v l h =
    let z : set_width * i ≡ set_width * i + 0 = omega arith in
    let b' = set b (set_width * i + 0) 1 in
    ap (λ (k : ℕ). lists_of (set (set b k 1) (set_width * i + 1) v)) z
    ∙ lists_set b (set b' (set_width * i + 1) v) i (v ∷ []) h
    (λ j n. block_other b' i 1 v (omega arith) j n ∙ block_other b i 0 1 (omega arith) j n)
    (ap listed (block_same b' i 1 v (omega arith) ∙ ap (λ (u : List ℕ). set u 1 v) (block_same b i 0 1 (omega arith))) ∙ listed_alone (block b i) v (omega (arith, block-length b l i h)))

-- written again, they are what was written last
pub begun_again : (b : List ℕ) (i c v d w : ℕ) → begun (begun b i c v) i d w ≡ begun b i d w
begun_again b i c v d w =
    let k = set_width * i in
    ap (λ (u : List ℕ). set u (k + 1) w) (set_comm (set b k c) (k + 1) k v d (λ e. omega arith) ∙ ap (λ (u : List ℕ). set u (k + 1) v) (set-set b k c d))
    ∙ set-set (set b k d) (k + 1) v w

pub begun-back : (b : List ℕ) (i : ℕ) → begun b i (get_or b (set_width * i) 0) (get_or b (set_width * i + 1) 0) ≡ b
begun-back b i =
    let k = set_width * i in
    ap (λ (u : List ℕ). set u (k + 1) (get_or b (k + 1) 0)) (set-get_or b k 0) ∙ set-get_or b (k + 1) 0

-- the bytes behind them stay
pub begun_beside : (b : List ℕ) (i c v j : ℕ) → (j ≡ 0 → ⊥) → get_or (begun b i c v) (set_width * i + 1 + j) 0 ≡ get_or b (set_width * i + 1 + j) 0
begun_beside b i c v j n =
    let k = set_width * i in
    get_or-set_other (set b k c) (k + 1) (k + 1 + j) v 0 (λ e. n (omega arith)) ∙ get_or-set_other b k (k + 1 + j) c 0 (λ e. omega arith)

-- ---- what a function makes of a list

pub map_at_lem : (f : ℕ → ℕ) (xs : List ℕ) (j : ℕ) → j < length xs → get_or (map f xs) j 0 ≡ f (get_or xs j 0)
map_at_lem f [] j h = absurd (omega arith)
map_at_lem f (x ∷ xs) zero h = refl
map_at_lem f (x ∷ xs) (suc j) h = map_at_lem f xs j (omega arith)
