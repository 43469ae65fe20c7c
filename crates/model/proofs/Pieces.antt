-- The pieces of the macros, done line after line on a state whose first four places are written out, and their rows by public numbers
-- alone. Each is computed; what a bit could change is the finite part's. Assumes nothing.
use mathlib.Core.Path.{◌≡◌, refl, ap, ◌∙◌}
use mathlib.Core.Bool.{Bool, true, false, cond}
use mathlib.Core.List.{List, [], ◌∷◌}
use Prim.Native.Nat.{ℕ, zero, suc, ◌+◌, ◌%◌, ◌<◌}
use native.Mathlib.Nat.{zero-add}
use native.Mathlib.Omega.{arith}
use lib.Bits.{xor_zero_r, xor_self, bit_or}
use lib.Count.{ones}
use lib.Dec.{lit<}
use lib.ListN.{length, get_or, set}
use lib.Seq.{get_or-set_same, set-set}
use Rattle.model.specs.declared.Mark.TheVariants.{Marked}
use Rattle.model.specs.declared.Opcode.TheVariants.{And}
use Rattle.model.specs.declared.Operand.{Operand}
use Rattle.model.specs.declared.Operand.TheVariants.{Literal, Register}
use Rattle.model.specs.declared.Layout.{Layout}
use Rattle.model.specs.Layouts.{Known}
use Rattle.model.specs.Places.{State, place, address, has_address, value}
use Rattle.model.specs.Step.{Row, row, after, result, argument, alu, weight, distance, on_bus, bus_after, distances}
use Rattle.model.specs.Run.{ran}
use Rattle.model.specs.Code.{code, code_table}
use Rattle.model.specs.Expansion.{marked_line, precharged, code_bit, shifts, scale, combine, fetch, flip, write_back}
use Rattle.model.proofs.Straight.{exec, exec_then}
use Rattle.model.proofs.Finite.{low, shifted, scaled, joined_index, flipped, cell_of, slot, table_at, table_weight, code-weight, code_loaded, code_cleared, low-weight, low-distance, twice-weight, twice-distance, twice_twice_weight, twice_twice_distance, flipped-weight, flipped-distance, index-weight, index-distance, slot-weight, slot_there, slot-back}

-- a state by its first four places, of which r0 is 0
abbrev pub held : ℕ → ℕ → ℕ → List ℕ → State
held x y z r = 0 ∷ x ∷ y ∷ z ∷ r

abbrev pub plus4 : ℕ → ℕ
plus4 n = suc (suc (suc (suc n)))

pub distance-zero : (x : ℕ) → distance x 0 ≡ weight x
unfolding distance
distance-zero x = ap ones (xor_zero_r x)

pub distance_same : (x : ℕ) → distance x x ≡ 0
unfolding distance ones
distance_same x = ap ones (xor_self x)

-- the distances where the bus goes from b to x, to y and to z
abbrev pub over : ℕ → ℕ → ℕ → ℕ → List ℕ
over b x y z = distance b x ∷ distance x y ∷ distance y z ∷ []

-- of a line without an address, of one that reads at x, and of one that writes at x
abbrev pub still : ℕ → List ℕ
still b = over b b b b

abbrev pub reading : ℕ → ℕ → List ℕ
reading b x = over b x x x

abbrev pub writing : ℕ → ℕ → List ℕ
writing b x = over b b b x

-- the bus after an operand whose address, where it has one, is u
abbrev pub reach : Operand → ℕ → ℕ → ℕ
reach o u b = cond (has_address o) u b

-- a row by its line, the new and the old value, the three addresses, and the distances
abbrev pub shows : ℕ → ℕ → ℕ → ℕ → ℕ → ℕ → List ℕ → Row
shows k new old u v w ds = k ∷ weight new ∷ distance old new ∷ weight u ∷ weight v ∷ weight w ∷ ds

-- a row by its six numbers, and the distances
abbrev pub six : ℕ → ℕ → ℕ → ℕ → ℕ → ℕ → List ℕ → Row
six k n c u v w ds = k ∷ n ∷ c ∷ u ∷ v ∷ w ∷ ds

-- ---- the scratch registers r1 to r3

pub data Scratch : ℕ → Type 0 where
  r1 : Scratch 1
  r2 : Scratch 2
  r3 : Scratch 3

-- what one of them holds, and the state with v in it
abbrev pub got : {n : ℕ} → Scratch n → ℕ → ℕ → ℕ → ℕ
got r1 x y z = x
got r2 x y z = y
got r3 x y z = z

abbrev pub kept : {n : ℕ} → Scratch n → ℕ → ℕ → ℕ → ℕ → List ℕ → State
kept r1 v x y z r = held v y z r
kept r2 v x y z r = held x v z r
kept r3 v x y z r = held x y v r

-- ---- charge and load: an operand whose argument and address do not turn on the scratch registers

pub record Source (a : Operand) (r : List ℕ) (v u : ℕ) : Type 0 where
  pub reads : (x y z : ℕ) → argument Marked a (held x y z r) ≡ v
  pub stands : (x y z : ℕ) → address a (held x y z r) ≡ u

charge_exec : {n : ℕ} (S : Scratch n) (a : Operand) (k x y z : ℕ) (r : List ℕ) (b v u : ℕ) → Source a r v u
    → exec (precharged (Register n) a) k (held x y z r) b ≡ ran (suc (suc k)) (kept S v x y z r) (reach a u b)
    (shows k 0 (got S x y z) 0 0 0 (still b) ∷ shows (suc k) v 0 u 0 0 (reading b (reach a u b)) ∷ [])
unfolding exec row distances bus_after on_bus has_address after result alu argument value place address
charge_exec r1 a k x y z r b v u A = simp (A.reads, A.stands)
charge_exec r2 a k x y z r b v u A = simp (A.reads, A.stands)
charge_exec r3 a k x y z r b v u A = simp (A.reads, A.stands)

pub charge_shown : {n : ℕ} (S : Scratch n) (a : Operand) (k x y z : ℕ) (r : List ℕ) (b v u : ℕ) → Source a r v u
    → exec (precharged (Register n) a) k (held x y z r) b ≡ ran (suc (suc k)) (kept S v x y z r) (reach a u b)
    (six k 0 (weight (got S x y z)) 0 0 0 (still b) ∷ shows (suc k) v 0 u 0 0 (reading b (reach a u b)) ∷ [])
unfolding ones
charge_shown S a k x y z r b v u A = charge_exec S a k x y z r b v u A ∙ rw (distance-zero (got S x y z))

-- ---- code a bit: where the table page, past r3, holds the codes

pub record Coder (L : Layout) (r : List ℕ) : Type 0 where
  pub codes : (v : ℕ) → v < 2 → get_or r (524 + v) 0 ≡ code L v

-- the cell that has the code of a bit v
abbrev pub code_cell : ℕ → ℕ
code_cell v = 256 + (v + code_table) % 256

-- the rows of a bit v in a register, coded
unfoldable pub code_bit_shown : Layout → ℕ → ℕ → ℕ → List Row
code_bit_shown L k b v = shows k v v 0 0 0 (still b) ∷ shows (suc k) (code L v) v (code_cell v) 0 0 (reading b (code_cell v)) ∷ []

pub code_bit_exec : (L : Layout) {n : ℕ} (S : Scratch n) (k x y z : ℕ) (r : List ℕ) (b : ℕ) → Coder L r → (v : ℕ) → v < 2
    → exec (code_bit true n) k (kept S v x y z r) b ≡ ran (suc (suc k)) (kept S (code L v) x y z r) (code_cell v) (code_bit_shown L k b v)
unfolding code_bit code_bit_shown exec row distances bus_after on_bus has_address after result alu argument value place address
code_bit_exec L r1 k x y z r b C zero h = simp (C.codes 0 (lit< tt))
code_bit_exec L r1 k x y z r b C (suc zero) h = simp (C.codes 1 (lit< tt))
code_bit_exec L r1 k x y z r b C (suc (suc v)) h = absurd (omega arith)
code_bit_exec L r2 k x y z r b C zero h = simp (C.codes 0 (lit< tt))
code_bit_exec L r2 k x y z r b C (suc zero) h = simp (C.codes 1 (lit< tt))
code_bit_exec L r2 k x y z r b C (suc (suc v)) h = absurd (omega arith)
code_bit_exec L r3 k x y z r b C zero h = simp (C.codes 0 (lit< tt))
code_bit_exec L r3 k x y z r b C (suc zero) h = simp (C.codes 1 (lit< tt))
code_bit_exec L r3 k x y z r b C (suc (suc v)) h = absurd (omega arith)

-- ---- scale, join, flip: on registers alone, so the bus stays

abbrev shifts_end : Bool → ℕ → ℕ
shifts_end true k = suc k
shifts_end false k = suc (suc k)

abbrev pub scale_end : Layout → ℕ → ℕ
scale_end L k = shifts_end L.spaced (suc k)

abbrev shifts_shown : Bool → ℕ → ℕ → List Row
shifts_shown true k b = six k 1 2 0 0 0 (still b) ∷ []
shifts_shown false k b = six k 1 2 0 0 0 (still b) ∷ six (suc k) 1 2 0 0 0 (still b) ∷ []

unfoldable pub scale_shown : Layout → ℕ → ℕ → List Row
scale_shown L k b = six k 1 0 0 0 0 (still b) ∷ shifts_shown L.spaced (suc k) b

-- by how far apart the bits are
shifts-shown : (L : Layout) (K : Known L) (a : ℕ) → a < 2 → (c : Bool) (k y z : ℕ) (r : List ℕ) (b : ℕ)
    → exec (shifts c) k (held (low L (code L a)) y z r) b ≡ ran (shifts_end c k) (held (shifted c (low L (code L a))) y z r) b (shifts_shown c k b)
unfolding shifts exec row distances bus_after on_bus has_address after result alu argument value place address ones
shifts-shown L K a h true k y z r b = rw (twice-weight L K a h, twice-distance L K a h)
shifts-shown L K a h false k y z r b = rw (twice-weight L K a h, twice-distance L K a h, twice_twice_weight L K a h, twice_twice_distance L K a h)

mask-shown : (L : Layout) (K : Known L) (a : ℕ) → a < 2 → (k y z : ℕ) (r : List ℕ) (b : ℕ)
    → exec (marked_line And (Register 1) (Register 1) (Literal L.mask) ∷ []) k (held (code L a) y z r) b
    ≡ ran (suc k) (held (low L (code L a)) y z r) b (six k 1 0 0 0 0 (still b) ∷ [])
unfolding exec row distances bus_after on_bus has_address after result alu argument value place address ones
mask-shown L K a h k y z r b = rw (low-weight L K a h, low-distance L K a h)

pub scale-shown : (L : Layout) (K : Known L) (a : ℕ) → a < 2 → (k y z : ℕ) (r : List ℕ) (b : ℕ)
    → exec (scale L) k (held (code L a) y z r) b ≡ ran (scale_end L k) (held (scaled L (code L a)) y z r) b (scale_shown L k b)
unfolding scale scale_shown
scale-shown L K a h k y z r b =
    exec_then (marked_line And (Register 1) (Register 1) (Literal L.mask) ∷ []) (shifts L.spaced) k (held (code L a) y z r) b
    (mask-shown L K a h k y z r b) (shifts-shown L K a h L.spaced (suc k) y z r b)

abbrev pub combine_end : ℕ → ℕ
combine_end k = suc (suc k)

unfoldable pub combine_shown : ℕ → ℕ → List Row
combine_shown k b = six k 1 0 0 0 0 (still b) ∷ six (suc k) 2 1 0 0 0 (still b) ∷ []

combine-exec : (L : Layout) (k x y z : ℕ) (r : List ℕ) (b : ℕ) → exec (combine L) k (held x y z r) b ≡ ran (combine_end k) (held (bit_or x (low L y)) (low L y) z r) b
    (shows k (low L y) y 0 0 0 (still b) ∷ shows (suc k) (bit_or x (low L y)) x 0 0 0 (still b) ∷ [])
unfolding combine exec row distances bus_after on_bus has_address after result alu argument value place address
combine-exec L k x y z r b = refl

pub combine-shown : (L : Layout) (K : Known L) (m n : ℕ) → m < 2 → n < 2 → (k z : ℕ) (r : List ℕ) (b : ℕ)
    → exec (combine L) k (held (scaled L (code L m)) (code L n) z r) b
    ≡ ran (combine_end k) (held (joined_index L (code L m) (code L n)) (low L (code L n)) z r) b (combine_shown k b)
unfolding combine_shown ones
combine-shown L K m n hm hn k z r b =
    combine-exec L k (scaled L (code L m)) (code L n) z r b
    ∙ rw (low-weight L K n hn, low-distance L K n hn, index-weight L K 0 m n (lib.Dec.lit< tt) hm hn, index-distance L K 0 m n (lib.Dec.lit< tt) hm hn)

abbrev pub flip_end : ℕ → ℕ
flip_end k = suc k

unfoldable pub flip_shown : ℕ → ℕ → List Row
flip_shown k b = six k 1 2 0 0 0 (still b) ∷ []

flip-exec : (L : Layout) (k x y z : ℕ) (r : List ℕ) (b : ℕ)
    → exec (flip L) k (held x y z r) b ≡ ran (flip_end k) (held (flipped L x) y z r) b (shows k (flipped L x) x 0 0 0 (still b) ∷ [])
unfolding flip exec row distances bus_after on_bus has_address after result alu argument value place address
flip-exec L k x y z r b = refl

pub flip-shown : (L : Layout) (K : Known L) (a : ℕ) → a < 2 → (k y z : ℕ) (r : List ℕ) (b : ℕ)
    → exec (flip L) k (held (code L a) y z r) b ≡ ran (flip_end k) (held (flipped L (code L a)) y z r) b (flip_shown k b)
unfolding flip_shown ones
flip-shown L K a h k y z r b = flip-exec L k (code L a) y z r b ∙ rw (flipped-weight L K a h, flipped-distance L K a h)

-- ---- fetch: the entry at the index in r1, the bus at the table's start before and after

abbrev pub fetch_end : ℕ → ℕ
fetch_end k = suc (suc (suc k))

-- the rows, t being the table's start and n the Hamming weight of the entry's address; y and z are those of r2 and r3 before
unfoldable pub fetch_shown : ℕ → ℕ → ℕ → ℕ → ℕ → ℕ → List Row
fetch_shown k b y z t n =
    six k 0 z (weight (cell_of t)) 0 0 (reading b (cell_of t))
    ∷ six (suc k) 1 1 n 0 0 (2 ∷ 0 ∷ 0 ∷ [])
    ∷ six (suc (suc k)) 0 y (weight (cell_of t)) 0 0 (2 ∷ 0 ∷ 0 ∷ [])
    ∷ []

fetch-exec : (t k x y z : ℕ) (r : List ℕ) (b i v j : ℕ) → 288 + (x + t) % 256 ≡ plus4 i → get_or r i 0 ≡ v → 288 + t % 256 ≡ plus4 j → get_or r j 0 ≡ 0
    → exec (fetch t) k (held x y z r) b ≡ ran (fetch_end k) (held x 0 v r) (cell_of t)
    (shows k 0 z (cell_of t) 0 0 (reading b (cell_of t))
    ∷ shows (suc k) v 0 (cell_of (x + t)) 0 0 (reading (cell_of t) (cell_of (x + t)))
    ∷ shows (suc (suc k)) 0 y (cell_of t) 0 0 (reading (cell_of (x + t)) (cell_of t))
    ∷ [])
unfolding fetch exec row distances bus_after on_bus has_address after result alu argument value place address
fetch-exec t k x y z r b i v j e f g h = simp (zero-add t, e, f, g, h)

pub fetch-shown : (L : Layout) (K : Known L) (o m n c : ℕ) → o < 3 → m < 2 → n < 2 → c < 2 → (k y z v w : ℕ) (r : List ℕ) (b i j : ℕ)
    → weight y ≡ v → weight z ≡ w → 288 + slot L o m n % 256 ≡ plus4 i → get_or r i 0 ≡ code L c → 288 + table_at L o % 256 ≡ plus4 j → get_or r j 0 ≡ 0
    → exec (fetch (table_at L o)) k (held (joined_index L (code L m) (code L n)) y z r) b
    ≡ ran (fetch_end k) (held (joined_index L (code L m) (code L n)) 0 (code L c) r) (cell_of (table_at L o)) (fetch_shown k b v w (table_at L o) (table_weight o))
unfolding fetch_shown ones
fetch-shown L K o m n c ho hm hn hc k y z v w r b i j ey ez e f g h =
    let t = cell_of (table_at L o) in
    fetch-exec (table_at L o) k (joined_index L (code L m) (code L n)) y z r b i (code L c) j e f g h
    ∙ rw (
      distance-zero y ∙ ey,
      distance-zero z ∙ ez,
      code-weight L K c hc,
      code_loaded L K c hc,
      slot-weight L K o m n ho hm hn,
      slot_there L K o m n ho hm hn,
      slot-back L K o m n ho hm hn,
      distance_same (cell_of (slot L o m n)),
      distance_same t,
    )

-- ---- store: a destination whose place and address do not turn on the scratch registers nor on what it holds

pub record Destination (d : Operand) (r : List ℕ) (q w : ℕ) : Type 0 where
  pub within : q < length r
  pub names : (x y z : ℕ) → place d (held x y z r) ≡ plus4 q
  pub stands : (x y z : ℕ) → address d (held x y z r) ≡ w
  pub names_cleared : (x y z : ℕ) → place d (held x y z (set r q 0)) ≡ plus4 q
  pub stands_cleared : (x y z : ℕ) → address d (held x y z (set r q 0)) ≡ w

abbrev pub write_back_end : ℕ → ℕ
write_back_end k = suc (suc k)

-- the bus is at the destination's address from the first of the two lines on
abbrev pub write_back_bus : Operand → ℕ → ℕ → ℕ
write_back_bus d w b = reach d w (reach d w b)

unfoldable pub write_back_shown : Operand → ℕ → ℕ → ℕ → List Row
write_back_shown d k b w = six k 0 1 0 0 (weight w) (writing b (reach d w b)) ∷ six (suc k) 1 1 0 0 (weight w) (writing (reach d w b) (write_back_bus d w b)) ∷ []

write_back_exec : {n : ℕ} (S : Scratch n) (d : Operand) (k x y z : ℕ) (r : List ℕ) (b q w : ℕ) → Destination d r q w
    → exec (write_back n d) k (held x y z r) b ≡ ran (write_back_end k) (held x y z (set r q (got S x y z))) (write_back_bus d w b)
    (shows k 0 (get_or r q 0) 0 0 w (writing b (reach d w b)) ∷ shows (suc k) (got S x y z) 0 0 0 w (writing (reach d w b) (write_back_bus d w b)) ∷ [])
unfolding write_back exec row distances bus_after on_bus has_address after result alu argument value place address
write_back_exec r1 d k x y z r b q w D = simp (D.names, D.stands, D.names_cleared, D.stands_cleared, get_or-set_same r q 0 0 D.within, set-set r q 0 x)
write_back_exec r2 d k x y z r b q w D = simp (D.names, D.stands, D.names_cleared, D.stands_cleared, get_or-set_same r q 0 0 D.within, set-set r q 0 y)
write_back_exec r3 d k x y z r b q w D = simp (D.names, D.stands, D.names_cleared, D.stands_cleared, get_or-set_same r q 0 0 D.within, set-set r q 0 z)

pub write_back_shown_lem : (L : Layout) (K : Known L) {n : ℕ} (S : Scratch n) (d : Operand) (c old : ℕ) → c < 2 → old < 2 → (k x y z : ℕ) (r : List ℕ) (b q w : ℕ)
    → got S x y z ≡ code L c → get_or r q 0 ≡ code L old → Destination d r q w
    → exec (write_back n d) k (held x y z r) b ≡ ran (write_back_end k) (held x y z (set r q (code L c))) (write_back_bus d w b) (write_back_shown d k b w)
unfolding write_back_shown ones
write_back_shown_lem L K S d c old hc ho k x y z r b q w eg eo D =
    write_back_exec S d k x y z r b q w D ∙ rw (eg, eo, code_cleared L K old ho, code-weight L K c hc, code_loaded L K c hc)
