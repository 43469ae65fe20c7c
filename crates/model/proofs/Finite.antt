-- The finite part: all numbers that a macro shows or leaves and that a bit could change, computed for every layout, every table and all
-- bits by one test, and what it says of each. Assumes nothing.
use mathlib.Core.Path.{◌≡◌, refl}
use mathlib.Core.Bool.{Bool, true, false, cond, ◌&&◌}
use mathlib.Core.List.{List, [], ◌∷◌}
use Prim.Native.Nat.{ℕ, zero, suc, ◌+◌, ◌*◌, ◌%◌, ◌<◌}
use native.Mathlib.Omega.{arith}
use borrow.Author.Tests.{ltb-true}
use lib.Dec.{T, eqb, ltb, eqb→eq}
use lib.Bits.{bit_and, bit_or, bit_xor}
use lib.Count.{ones}
use lib.ListN.{get_or}
use Rattle.model.specs.declared.Mark.TheVariants.{Marked}
use Rattle.model.specs.declared.Opcode.{Opcode}
use Rattle.model.specs.declared.Opcode.TheVariants.{Not, And, Orr, Xor}
use Rattle.model.specs.declared.Layout.{Layout}
use Rattle.model.specs.Layouts.{neighbours, Known, named}
use Rattle.model.specs.Step.{weight, distance, alu}
use Rattle.model.specs.Code.{code, page, and_table, orr_table, xor_table, code_table}
use Rattle.model.proofs.TestLaws.{and_both, all_below, all_below_lem}
use Rattle.model.proofs.EachLayout.{for_layouts, for_layouts_lem}

-- ---- the three tables, by number

abbrev pub table_op : ℕ → Opcode
table_op zero = And
table_op (suc zero) = Orr
table_op (suc (suc o)) = Xor

abbrev pub table_at : Layout → ℕ → ℕ
table_at L zero = and_table L
table_at L (suc zero) = orr_table L
table_at L (suc (suc o)) = xor_table L

-- the Hamming weight of the address of every entry that is looked up, in every layout
abbrev pub table_weight : ℕ → ℕ
table_weight zero = 3
table_weight (suc zero) = 4
table_weight (suc (suc o)) = 4

-- ---- what a macro computes on codes

abbrev pub low : Layout → ℕ → ℕ
low L x = bit_and x L.mask

abbrev pub twice : ℕ → ℕ
twice x = x * 2 % 256

abbrev pub shifted : Bool → ℕ → ℕ
shifted true x = twice x
shifted false x = twice (twice x)

abbrev pub scaled : Layout → ℕ → ℕ
scaled L x = shifted L.spaced (low L x)

abbrev pub joined_index : Layout → ℕ → ℕ → ℕ
joined_index L x y = bit_or (scaled L x) (low L y)

abbrev pub slot : Layout → ℕ → ℕ → ℕ → ℕ
slot L o a b = joined_index L (code L a) (code L b) + table_at L o

-- the cell of the table page's place i
abbrev pub cell_of : ℕ → ℕ
cell_of i = 256 + i % 256

abbrev pub flipped : Layout → ℕ → ℕ
flipped L x = bit_xor x L.mask

-- ---- the test

pub record Pair : Type 0 where
  pub left : ℕ
  pub right : ℕ

abbrev pub pair : ℕ → ℕ → Pair
pair x y = record { left = x; right = y }

-- 1 where m is below n
abbrev under : ℕ → ℕ → ℕ
under m n = cond (ltb m n) 1 0

-- layout L, table o, the arguments' bits a and b: what comes out, and what must
pairs : Layout → ℕ → ℕ → ℕ → List Pair
pairs L o a b =
    let x = code L a in
    let y = code L b in
    let c = alu Marked (table_op o) a b in
    pair (weight x) 1
    ∷ pair (distance 0 x) 1
    ∷ pair (distance x 0) 1
    ∷ pair (weight (low L x)) 1
    ∷ pair (distance x (low L x)) 0
    ∷ pair (weight (twice (low L x))) 1
    ∷ pair (distance (low L x) (twice (low L x))) 2
    ∷ pair (weight (twice (twice (low L x)))) 1
    ∷ pair (distance (twice (low L x)) (twice (twice (low L x)))) 2
    ∷ pair (weight (joined_index L x y)) 2
    ∷ pair (distance (scaled L x) (joined_index L x y)) 1
    ∷ pair (weight (flipped L x)) 1
    ∷ pair (distance x (flipped L x)) 2
    ∷ pair (flipped L x) (code L (alu Marked Not a 0))
    ∷ pair (under (alu Marked Not a 0) 2) 1
    ∷ pair (under (slot L o a b) 256) 1
    ∷ pair (weight (cell_of (slot L o a b))) (table_weight o)
    ∷ pair (page L (slot L o a b)) (code L c)
    ∷ pair (under c 2) 1
    ∷ pair (cond (eqb x (code L 1)) 1 0) a
    ∷ pair (under x 256) 1
    ∷ pair (under L.mask 256) 1
    ∷ pair (under (table_at L o) 256) 1
    ∷ pair (page L (code_table + a)) x
    ∷ pair (distance (cell_of (table_at L o)) (cell_of (slot L o a b))) 2
    ∷ pair (distance (cell_of (slot L o a b)) (cell_of (table_at L o))) 2
    ∷ pair (page L (table_at L o)) 0
    ∷ []

abbrev pub agree : List Pair → Bool
agree [] = true
agree (p ∷ ps) = eqb p.left p.right && agree ps

-- a test of each of the six layouts, of every table and both arguments' bits
abbrev for_all : (Layout → ℕ → ℕ → ℕ → Bool) → Bool
for_all f = for_layouts (λ L. all_below (λ o. all_below (λ a. all_below (λ b. f L o a b) 2) 2) 3)

passed : T (for_all (λ L o a b. agree (pairs L o a b)))
unfolding all_below pairs code alu page ones distance
passed = tt

-- ---- from the test to each fact

-- that of document 01 is one of the six
pub near : Known neighbours
near = named 0 0 tt

for_all_lem : (f : Layout → ℕ → ℕ → ℕ → Bool) → T (for_all f) → {L : Layout} → Known L → (o a b : ℕ) → o < 3 → a < 2 → b < 2 → T (f L o a b)
for_all_lem f h {L} K o a b ho ha hb =
    let layout : T (all_below (λ o. all_below (λ a. all_below (λ b. f L o a b) 2) 2) 3) =
    for_layouts_lem (λ L. all_below (λ o. all_below (λ a. all_below (λ b. f L o a b) 2) 2) 3) h K in
    let table : T (all_below (λ a. all_below (λ b. f L o a b) 2) 2) = all_below_lem (λ o. all_below (λ a. all_below (λ b. f L o a b) 2) 2) 3 o layout ho in
    all_below_lem (λ b. f L o a b) 2 b (all_below_lem (λ a. all_below (λ b. f L o a b) 2) 2 a table ha) hb

agree_at : (ps : List Pair) → T (agree ps) → (i : ℕ) → (get_or ps i (pair 0 0)).left ≡ (get_or ps i (pair 0 0)).right
agree_at [] h i = refl
agree_at (p ∷ ps) h zero = eqb→eq p.left p.right (and_both (eqb p.left p.right) (agree ps) h).0
agree_at (p ∷ ps) h (suc i) = agree_at ps (and_both (eqb p.left p.right) (agree ps) h).1 i

fact : {L : Layout} → Known L → (o a b : ℕ) → o < 3 → a < 2 → b < 2
    → (i : ℕ) → (get_or (pairs L o a b) i (pair 0 0)).left ≡ (get_or (pairs L o a b) i (pair 0 0)).right
fact {L} K o a b ho ha hb i = agree_at (pairs L o a b) (for_all_lem (λ L o a b. agree (pairs L o a b)) passed K o a b ho ha hb) i

under_lt : (m n : ℕ) → ◌≡◌ {A = ℕ} (under m n) 1 → m < n
under_lt m n e = go (ltb m n) refl e
  where
    go : (t : Bool) → ltb m n ≡ t → ◌≡◌ {A = ℕ} (cond t 1 0) 1 → m < n
    go true q e = ltb-true m n q
    go false q e = absurd (omega arith)

-- of one bit
module _ (L : Layout) (K : Known L) (a : ℕ) (h : a < 2) where
  one : (i : ℕ) → (get_or (pairs L 0 a a) i (pair 0 0)).left ≡ (get_or (pairs L 0 a a) i (pair 0 0)).right
  one i = fact K 0 a a (omega arith) h h i

  pub code-weight : weight (code L a) ≡ 1
  unfolding pairs
  code-weight = one 0

  pub code_loaded : distance 0 (code L a) ≡ 1
  unfolding pairs
  code_loaded = one 1

  pub code_cleared : distance (code L a) 0 ≡ 1
  unfolding pairs
  code_cleared = one 2

  pub low-weight : weight (low L (code L a)) ≡ 1
  unfolding pairs
  low-weight = one 3

  pub low-distance : distance (code L a) (low L (code L a)) ≡ 0
  unfolding pairs
  low-distance = one 4

  pub twice-weight : weight (twice (low L (code L a))) ≡ 1
  unfolding pairs
  twice-weight = one 5

  pub twice-distance : distance (low L (code L a)) (twice (low L (code L a))) ≡ 2
  unfolding pairs
  twice-distance = one 6

  pub twice_twice_weight : weight (twice (twice (low L (code L a)))) ≡ 1
  unfolding pairs
  twice_twice_weight = one 7

  pub twice_twice_distance : distance (twice (low L (code L a))) (twice (twice (low L (code L a)))) ≡ 2
  unfolding pairs
  twice_twice_distance = one 8

  pub flipped-weight : weight (flipped L (code L a)) ≡ 1
  unfolding pairs
  flipped-weight = one 11

  pub flipped-distance : distance (code L a) (flipped L (code L a)) ≡ 2
  unfolding pairs
  flipped-distance = one 12

  pub flipped-code : flipped L (code L a) ≡ code L (alu Marked Not a 0)
  unfolding pairs
  flipped-code = one 13

  pub not_bit : alu Marked Not a 0 < 2
  unfolding pairs
  not_bit = under_lt (alu Marked Not a 0) 2 (one 14)

  -- what the way back makes of a code; and that it is a byte
  pub code-back : cond (eqb (code L a) (code L 1)) 1 0 ≡ a
  unfolding pairs
  code-back = one 19

  pub code-low : code L a < 256
  unfolding pairs
  code-low = under_lt (code L a) 256 (one 20)

  -- where it stands in the table page
  pub code_stands : page L (code_table + a) ≡ code L a
  unfolding pairs
  code_stands = one 23

-- of the layout alone
module _ (L : Layout) (K : Known L) where
  pub mask_low : L.mask < 256
  unfolding pairs
  mask_low = under_lt L.mask 256 (fact K 0 0 0 (omega arith) (omega arith) (omega arith) 21)

  pub table_low : (o : ℕ) → o < 3 → table_at L o < 256
  unfolding pairs
  table_low o h = under_lt (table_at L o) 256 (fact K o 0 0 h (omega arith) (omega arith) 22)

  -- a table's first entry is 0
  pub table_first : (o : ℕ) → o < 3 → page L (table_at L o) ≡ 0
  unfolding pairs
  table_first o h = fact K o 0 0 h (omega arith) (omega arith) 26

-- of two bits and a table
module _ (L : Layout) (K : Known L) (o a b : ℕ) (ho : o < 3) (ha : a < 2) (hb : b < 2) where
  pub index-weight : weight (joined_index L (code L a) (code L b)) ≡ 2
  unfolding pairs
  index-weight = fact K o a b ho ha hb 9

  pub index-distance : distance (scaled L (code L a)) (joined_index L (code L a) (code L b)) ≡ 1
  unfolding pairs
  index-distance = fact K o a b ho ha hb 10

  pub slot-low : slot L o a b < 256
  unfolding pairs
  slot-low = under_lt (slot L o a b) 256 (fact K o a b ho ha hb 15)

  pub slot-weight : weight (cell_of (slot L o a b)) ≡ table_weight o
  unfolding pairs
  slot-weight = fact K o a b ho ha hb 16

  -- the bus from the table's start to the entry, and back (request 07)
  pub slot_there : distance (cell_of (table_at L o)) (cell_of (slot L o a b)) ≡ 2
  unfolding pairs
  slot_there = fact K o a b ho ha hb 24

  pub slot-back : distance (cell_of (slot L o a b)) (cell_of (table_at L o)) ≡ 2
  unfolding pairs
  slot-back = fact K o a b ho ha hb 25

  pub slot_holds : page L (slot L o a b) ≡ code L (alu Marked (table_op o) a b)
  unfolding pairs
  slot_holds = fact K o a b ho ha hb 17

  pub table_bit : alu Marked (table_op o) a b < 2
  unfolding pairs
  table_bit = under_lt (alu Marked (table_op o) a b) 2 (fact K o a b ho ha hb 18)
