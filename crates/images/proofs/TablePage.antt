-- The table page that is made of the constant tables, against the definition's: one test of all cells in each of the six layouts; and the same page
-- written behind the places of a state. Assumes nothing.
use mathlib.Core.Path.{◌≡◌, refl, sym, ap, ◌∙◌}
use mathlib.Core.List.{List, [], ◌∷◌, ◌++◌}
use mathlib.Core.Bool.{Bool, true, false, cond, ◌&&◌}
use Prim.Native.Nat.{ℕ, zero, suc, ◌+◌, ◌-◌, ◌*◌, ◌≤◌, ◌<◌}
use native.Mathlib.Nat.{zero-add, mul-le-mul, mul-le-mul_left}
use native.Mathlib.Numerals.{add-one}
use native.Mathlib.Omega.{arith}
use borrow.Author.Tests.{le-ltb}
use lib.Dec.{T, eqb, ltb, leb, leb→le, ltb→lt}
use borrow.Rule.Slice.PartMut.{put_mid}
use lib.ListN.{length, get_or, replicate, set, take, drop, length-take, length-drop, length-replicate, get_or-replicate, drop_of_length-le, take-append-drop}
use Rattle.std.proofs.lemmas.List.{append-nil}
use lib.Seq.{get_or-take, get_or-drop, ext_get_or}
use Rattle.model.specs.declared.Layout.{Layout}
use Rattle.model.specs.Limits.{state_size}
use Rattle.model.specs.Layouts.{layout_of, Known}
use Rattle.model.specs.Step.{alu}
use Rattle.model.specs.Text.{same_bytes}
use Rattle.model.specs.Code.{code, entry, page}
use Rattle.model.specs.declared.Opcode.{Opcode}
use Rattle.model.specs.declared.Opcode.TheVariants.{And, Orr}
use Rattle.model.specs.Images.{map_at, fixed, fixed_right, every}
use Rattle.model.proofs.TestLaws.{is_true, and_both, all_below, all_below_lem}
use Rattle.model.proofs.SpellingLaws.{same_bytes_lem}
use Rattle.model.proofs.EachLayout.{for_layouts, for_layouts_lem}
use Rattle.model.proofs.Finite.{table_op}
use Rattle.model.proofs.PlaceLaws.{map_at-length, map_at-get_or}
use Rattle.images.specs.declared.Tables.{Tables}
use Rattle.images.specs.Pages.{entries, IsTables, entered, copied, paged, page_bytes}

-- ---- a table's entries are small, so that none overflows when it is scaled

abbrev Small : List ℕ → Type 0
Small table = (k : ℕ) → get_or table k 0 ≤ 4

abbrev small : List ℕ → Bool
small table = every (λ i x. leb x 4) 0 table

small-tested : T (all_below (λ o. small (entries true (table_op o)) && small (entries false (table_op o))) 3)
unfolding all_below every entries entry code alu
small-tested = tt

small_at : (i : ℕ) (table : List ℕ) → T (every (λ i x. leb x 4) i table) → (k : ℕ) → get_or table k 0 ≤ 4
unfolding every
small_at i [] h k = omega arith
small_at i (x ∷ xs) h zero = leb→le x 4 (and_both (leb x 4) (every (λ i x. leb x 4) (suc i) xs) h).0
small_at i (x ∷ xs) h (suc k) = small_at (suc i) xs (and_both (leb x 4) (every (λ i x. leb x 4) (suc i) xs) h).1 k

entries-length : (spaced : Bool) (op : Opcode) → length (entries spaced op) ≡ 16
unfolding entries
entries-length spaced op = map_at-length (λ i x. entry (layout_of 0 (cond spaced 1 0)) op i) 0 (replicate 16 0)

entries-small : (o : ℕ) → o < 3 → (spaced : Bool) (table : List ℕ) → table ≡ entries spaced (table_op o) → Small table
entries-small o h spaced table e = rw e (small_at 0 (entries spaced (table_op o)) (go spaced))
  where
    both : T (small (entries true (table_op o))) × T (small (entries false (table_op o)))
    both =
        and_both (small (entries true (table_op o))) (small (entries false (table_op o)))
        (all_below_lem (λ o. small (entries true (table_op o)) && small (entries false (table_op o))) 3 o small-tested h)

    go : (s : Bool) → T (small (entries s (table_op o)))
    go true = both.0
    go false = both.1

scaled_small : (u x : ℕ) → u ≤ 4 → x ≤ 4 → u * x ≤ 16
scaled_small u x h g = mul-le-mul {n₂ = 4} {m₂ = 4} h g

-- ---- copying

module _ (L : Layout) (and orr xor : List ℕ) where
  pub none_copied : (l : List ℕ) → l ≡ copied L and orr xor l 0
  unfolding copied
  none_copied l = refl

  -- one more entry of each
  pub copied_next : (old before new : List ℕ) (k : ℕ) → before ≡ copied L and orr xor old k
      → new ≡ entered L (get_or and k 0) (get_or orr k 0) (get_or xor k 0) (L.one * k) before → new ≡ copied L and orr xor old (k + 1)
  unfolding copied
  copied_next old before new k e f = rw (add-one k, f, e)

-- ---- the page

-- what is tested: the page that is made of zeros, and room for the tables
abbrev right : Layout → Bool
right L = same_bytes (paged L (replicate 256 0)) (page_bytes L) && leb L.one 4 && ltb (L.xor + 15 * L.one) 256 && leb L.orr L.xor

tested : T (for_layouts right)
unfolding all_below entered copied paged entries page_bytes map_at page entry code alu
tested = tt

module _ (L : Layout) (K : Known L) where
  found : T (same_bytes (paged L (replicate 256 0)) (page_bytes L)) × (L.one ≤ 4) × (L.xor + 15 * L.one < 256) × (L.orr ≤ L.xor)
  found =
      let a = same_bytes (paged L (replicate 256 0)) (page_bytes L) in
      let b = leb L.one 4 in
      let c = ltb (L.xor + 15 * L.one) 256 in
      let d = leb L.orr L.xor in
      let w3 = and_both (a && b && c) d (for_layouts_lem right tested K) in
      let w2 = and_both (a && b) c w3.0 in
      let w1 = and_both a b w2.0 in
      (w1.0, leb→le _ _ w1.1, ltb→lt _ _ w2.1, leb→le _ _ w3.1)

  pub page-made : paged L (replicate 256 0) ≡ page_bytes L
  page-made = same_bytes_lem (paged L (replicate 256 0)) (page_bytes L) (is_true _ found.0)

  one_small : L.one ≤ 4
  one_small = found.1

  -- so that an entry is a byte when it is scaled
  pub scaled_fits : (t : Tables) → IsTables L.spaced t → (k : ℕ) → (L.one * get_or t.and k 0 ≤ 16) × (L.one * get_or t.orr k 0 ≤ 16) × (L.one * get_or t.xor k 0 ≤ 16)
  scaled_fits t T k = (
    scaled_small L.one _ one_small (entries-small 0 (omega arith) L.spaced t.and T.and k),
    scaled_small L.one _ one_small (entries-small 1 (omega arith) L.spaced t.orr T.orr k),
    scaled_small L.one _ one_small (entries-small 2 (omega arith) L.spaced t.xor T.xor k),
  )

  -- where an entry stands
  pub entry_fits : (k : ℕ) → k < 16 → L.one * k + L.xor < 256
  entry_fits k h = let w : L.one * k ≤ L.one * 15 = mul-le-mul_left L.one (omega arith) in omega (arith, found.2)

  -- the table of xor is the last
  pub orr_first : L.orr ≤ L.xor
  orr_first = found.3

-- from the constant tables
pub paged-tables : (L : Layout) (t : Tables) (l page : List ℕ) (k : ℕ) → k ≡ 16 → IsTables L.spaced t → page ≡ copied L t.and t.orr t.xor l k → set (set page 240 L.zero) 241 L.one ≡ paged L l
unfolding paged
paged-tables L t l page k z T e =
    ap (λ (r : List ℕ). set (set r 240 L.zero) 241 L.one)
    (e ∙ ap (copied L t.and t.orr t.xor l) z ∙ ap (λ (a : List ℕ). copied L a t.orr t.xor l 16) T.and ∙ ap (λ (o : List ℕ). copied L (entries L.spaced And) o t.xor l 16) T.orr
    ∙ ap (λ (x : List ℕ). copied L (entries L.spaced And) (entries L.spaced Orr) x l 16) T.xor)

pub bytes_length : (L : Layout) → length (page_bytes L) ≡ 256
unfolding page_bytes
bytes_length L = map_at-length (λ i x. page L i) 0 (replicate 256 0)

page_byte : (L : Layout) (l : List ℕ) (i : ℕ) → l ≡ page_bytes L → i < 256 → get_or l i 0 ≡ page L i
unfolding page_bytes
page_byte L l i e h = ap (λ (l : List ℕ). get_or l i 0) e ∙ map_at-get_or (λ i x. page L i) 0 (replicate 256 0) i h ∙ ap (page L) (zero-add i)

-- in the table page what is fixed is the page
pub page-fixed : (L : Layout) (l : List ℕ) (i : ℕ) → l ≡ page_bytes L → 288 ≤ i → i < state_size → get_or l (i - 288) 0 ≡ fixed L i
unfolding fixed
page-fixed L l i e h g = page_byte L l (i - 288) e (omega arith) ∙ sym (rw (le-ltb i 4 (omega arith)))

-- the cells of the table page in a store
pub page_cells : (m : List ℕ) → length m ≡ state_size → length (take 256 (drop 288 m)) ≡ 256
page_cells m h = omega (arith, length-take 256 (drop 288 m), length-drop 288 m)

-- ---- the table page written behind the places of a state w, in a store that has 0 there

module _ (L : Layout) (K : Known L) (m w page : List ℕ) (hm : length m ≡ state_size) (hw : length w ≡ state_size)
    (low : (i : ℕ) → i < 288 → get_or m i 0 ≡ get_or w i 0) (high : (i : ℕ) → 288 ≤ i → i < state_size → (get_or m i 0 ≡ 0) × (get_or w i 0 ≡ fixed L i))
    (e : page ≡ paged L (take 256 (drop 288 m))) where
  places : take 288 m ≡ take 288 w
  places =
      ext_get_or 0 (take 288 m) (take 288 w) (omega (arith, length-take 288 m, length-take 288 w))
      (λ i h. let g : i < 288 = omega (arith, length-take 288 m) in get_or-take 288 m i 0 g ∙ low i g ∙ sym (get_or-take 288 w i 0 g))

  clear : take 256 (drop 288 m) ≡ replicate 256 0
  clear =
      ext_get_or 0 (take 256 (drop 288 m)) (replicate 256 0) (omega (arith, length-take 256 (drop 288 m), length-drop 288 m, length-replicate {A = ℕ} 256 0))
      (λ i h.
      let g : i < 256 = omega (arith, length-take 256 (drop 288 m), length-drop 288 m) in
      get_or-take 256 (drop 288 m) i 0 (omega arith) ∙ get_or-drop 288 m i 0 ∙ (high (288 + i) (omega arith) (omega arith)).0 ∙ sym (get_or-replicate 256 i 0 0 g))

  behind : page ++ drop 256 (drop 288 m) ≡ drop 288 w
  behind =
      let made : page ≡ page_bytes L = e ∙ ap (paged L) clear ∙ page-made L K in
      let long : length page ≡ 256 = ap length made ∙ bytes_length L in
      rw (drop_of_length-le (drop 288 m) {i = 256} (omega (arith, length-drop 288 m)), append-nil page)
      (ext_get_or 0 page (drop 288 w) (omega (arith, length-drop 288 w))
      (λ i h.
      let j : i ≡ 288 + i - 288 = omega arith in
      ap (λ (k : ℕ). get_or page k 0) j ∙ page-fixed L page (288 + i) made (omega arith) (omega arith) ∙ sym (high (288 + i) (omega arith) (omega arith)).1
      ∙ sym (get_or-drop 288 w i 0)))

  pub with_page : put_mid 288 256 m page ≡ w
  with_page = rw (places, behind) (take-append-drop 288 w)

-- ---- what may stand there

other : (t u v : Bool) → t ≡ false → v ≡ cond t u v
other t u v e = rw e

-- past r3 what is fixed must stand there
pub high_fixed : (L : Layout) (i x y : ℕ) → 4 ≤ i → y ≡ fixed L i → eqb x y ≡ fixed_right L i x
unfolding fixed_right
high_fixed L i x y h e = ap (eqb x) e ∙ other (ltb i 4) (cond (eqb i 0) (eqb x 0) true) (eqb x (fixed L i)) (le-ltb i 4 h)
