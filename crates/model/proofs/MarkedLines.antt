-- A marked line: its macro from an image leaves the image of what the line leaves, and its rows turn on public numbers alone: the line
-- number, the addresses, the bus before, and the Hamming weights of the scratch registers. The pieces are joined. Assumes nothing.
use mathlib.Core.Path.{◌≡◌, refl, ap, ap₂, ◌∙◌}
use mathlib.Core.List.{List, [], ◌++◌}
use Prim.Native.Nat.{ℕ, suc, ◌+◌, ◌%◌, ◌<◌}
use native.Mathlib.Omega.{arith}
use lib.Count.{ones}
use lib.Dec.{T, lit<}
use lib.ListN.{get_or, set}
use Rattle.model.specs.declared.Layout.{Layout}
use Rattle.model.specs.Layouts.{Known}
use Rattle.model.specs.declared.Mark.TheVariants.{Marked}
use Rattle.model.specs.declared.Opcode.{Opcode}
use Rattle.model.specs.declared.Opcode.TheVariants.{Nop, Jmp, Not, Mov, And, Orr, Xor, Lsl, Lsr, Add, Mul, Beq, Bne}
use Rattle.model.specs.declared.Operand.{Operand}
use Rattle.model.specs.declared.Target.{Target}
use Rattle.model.specs.Places.{State, place, address}
use Rattle.model.specs.Step.{Row, argument, alu, weight, next, taken}
use Rattle.model.specs.Run.{Ran, ran}
use Rattle.model.specs.Lines.{fills}
use Rattle.model.specs.Code.{code, page}
use Rattle.model.specs.Images.{BitState, image_at, SamePublic}
use Rattle.model.specs.Expansion.{coded, load, scale, combine, fetch, flip, write_back, lookup, negate, copy, macro}
use Rattle.model.specs.Marks.{has_macro}
use Rattle.model.proofs.MacroLines.{macro-lines}
use Rattle.model.proofs.Straight.{exec, exec_then, Straight}
use Rattle.model.proofs.PlaceLaws.{map_at-get_or, bits-set}
use Rattle.model.proofs.Operands.{SensitivePlace, MarkedArgument, steady-place, address_same}
use Rattle.model.proofs.Acceptance.{mk, MarkedOperands}
use Rattle.model.proofs.Finite.{table_at, table_op, table_weight, low, scaled, joined_index, flipped, cell_of, slot, code-weight, low-weight, flipped-weight, flipped-code, not_bit, index-weight, table_low, table_first, slot-low, slot_holds, table_bit}
use Rattle.model.proofs.Pieces.{held, plus4, r1, r2, r3, scale_end, scale_shown, scale-shown, combine_end, combine_shown, combine-shown, flip_end, flip_shown, flip-shown, fetch_end, fetch_shown, fetch-shown, write_back_bus, write_back_shown, write_back_shown_lem}
use Rattle.model.proofs.ImageLaws.{zeros, rails, tail_length, Found, found, image-page, sensitive_bit, write_sensitive}
use Rattle.model.proofs.Loads.{load_end, load_bus, load_shown, loaded, load_same, load_bus_same}

-- the Hamming weights of r1, r2 and r3
pub record Weights : Type 0 where
  pub one : ℕ
  pub two : ℕ
  pub three : ℕ

abbrev pub weights : ℕ → ℕ → ℕ → Weights
weights x y z = record { one = x; two = y; three = z }

-- v is the image of the bit state s but for r1 to r3, whose Hamming weights are w
pub record Related (L : Layout) (s v : State) (w : Weights) : Type 0 where
  pub tail : List ℕ
  pub x : ℕ
  pub y : ℕ
  pub z : ℕ
  pub bits : BitState (zeros tail)
  pub source : s ≡ zeros tail
  pub image : v ≡ held x y z (rails L tail)
  pub one : weight x ≡ w.one
  pub two : weight y ≡ w.two
  pub three : weight z ≡ w.three

-- ---- what is shown, β being the bus before

unfoldable pub copy_shown : Layout → Operand → Operand → ℕ → ℕ → State → ℕ → List Row
copy_shown L d a k z s β = load_shown L a k z s β ++ write_back_shown d (load_end a k) (load_bus a s β) (address d s)

unfoldable pub negate_shown : Layout → Operand → Operand → ℕ → ℕ → State → ℕ → List Row
negate_shown L d a k x s β =
    load_shown L a k x s β ++ (flip_shown (load_end a k) (load_bus a s β) ++ write_back_shown d (flip_end (load_end a k)) (load_bus a s β) (address d s))

-- where the second load, the join, the fetch and the store begin
abbrev second_at : (L : Layout) → Operand → ℕ → ℕ
second_at L a k = scale_end L (load_end a k)

abbrev combine_at : (L : Layout) → Operand → Operand → ℕ → ℕ
combine_at L a b k = load_end b (second_at L a k)

abbrev fetch_at : (L : Layout) → Operand → Operand → ℕ → ℕ
fetch_at L a b k = combine_end (combine_at L a b k)

abbrev write_back_at : (L : Layout) → Operand → Operand → ℕ → ℕ
write_back_at L a b k = fetch_end (fetch_at L a b k)

-- the bus after both loads
abbrev both_bus : Operand → Operand → State → ℕ → ℕ
both_bus a b s β = load_bus b s (load_bus a s β)

unfoldable pub lookup_shown : (L : Layout) → ℕ → Operand → Operand → Operand → ℕ → State → Weights → ℕ → List Row
lookup_shown L o d a b k s w β =
    load_shown L a k w.one s β ++ (scale_shown L (load_end a k) (load_bus a s β) ++ (load_shown L b (second_at L a k) w.two s (load_bus a s β)
    ++ (combine_shown (combine_at L a b k) (both_bus a b s β) ++ (fetch_shown (fetch_at L a b k) (both_bus a b s β) 1 w.three (table_at L o) (table_weight o)
    ++ write_back_shown d (write_back_at L a b k) (cell_of (table_at L o)) (address d s)))))

-- the rows of a marked line's part that begins at k
unfoldable pub shown : (L : Layout) → Opcode → Operand → Operand → Operand → ℕ → State → Weights → ℕ → List Row
unfolding copy_shown negate_shown lookup_shown
shown L Nop d a b k s w β = []
shown L Jmp d a b k s w β = []
shown L Not d a b k s w β = negate_shown L d a k w.one s β
shown L Mov d a b k s w β = copy_shown L d a k w.three s β
shown L And d a b k s w β = lookup_shown L 0 d a b k s w β
shown L Orr d a b k s w β = lookup_shown L 1 d a b k s w β
shown L Xor d a b k s w β = lookup_shown L 2 d a b k s w β
shown L Lsl d a b k s w β = []
shown L Lsr d a b k s w β = []
shown L Add d a b k s w β = []
shown L Mul d a b k s w β = []
shown L Beq d a b k s w β = []
shown L Bne d a b k s w β = []

-- the bus afterwards: at the destination's address, where it has one, else at that of the last load or at the table's start
abbrev loaded_bus : Operand → Operand → State → ℕ → ℕ
loaded_bus d a s β = write_back_bus d (address d s) (load_bus a s β)

abbrev lookup_bus : Layout → ℕ → Operand → State → ℕ
lookup_bus L o d s = write_back_bus d (address d s) (cell_of (table_at L o))

unfoldable pub macro_bus : Layout → Opcode → Operand → Operand → State → ℕ → ℕ
macro_bus L Nop d a s β = β
macro_bus L Jmp d a s β = β
macro_bus L Not d a s β = loaded_bus d a s β
macro_bus L Mov d a s β = loaded_bus d a s β
macro_bus L And d a s β = lookup_bus L 0 d s
macro_bus L Orr d a s β = lookup_bus L 1 d s
macro_bus L Xor d a s β = lookup_bus L 2 d s
macro_bus L Lsl d a s β = β
macro_bus L Lsr d a s β = β
macro_bus L Add d a s β = β
macro_bus L Mul d a s β = β
macro_bus L Beq d a s β = β
macro_bus L Bne d a s β = β

-- the Hamming weights of the scratch registers afterwards
unfoldable pub weighed : Opcode → Weights → Weights
weighed Nop w = w
weighed Jmp w = w
weighed Not w = weights 1 w.two w.three
weighed Mov w = weights w.one w.two 1
weighed And w = weights 2 0 1
weighed Orr w = weights 2 0 1
weighed Xor w = weights 2 0 1
weighed Lsl w = w
weighed Lsr w = w
weighed Add w = w
weighed Mul w = w
weighed Beq w = w
weighed Bne w = w

-- ---- what is left

-- a macro's run: its rows, its bus, and that it leaves the image of s
pub record Done (L : Layout) (g : Ran) (s : State) (w : Weights) (β : ℕ) (rows : List Row) : Type 0 where
  pub shows : g.rows ≡ rows
  pub leads : g.bus ≡ β
  pub related : Related L s g.state w

module _ (L : Layout) (K : Known L) (r : List ℕ) (bits : BitState (zeros r)) where
  -- the source's bit c written, and its code in the image
  done : {g : Ran} (d : Operand) (D : Found L r d) (c n k x y z : ℕ) (w : Weights) (β : ℕ) (rows : List Row) → c < 2 → n ≡ c
      → g ≡ ran k (held x y z (set (rails L r) D.at (code L c))) β rows
      → weight x ≡ w.one → weight y ≡ w.two → weight z ≡ w.three → Done L g (set (zeros r) (place d (zeros r)) n) w β rows
  done d D c n k x y z w β rows h en e wx wy wz =
      record {
        shows = ap (λ (g : Ran). g.rows) e;
        leads = ap (λ (g : Ran). g.bus) e;
        related = record {
          tail = set r D.at c;
          x = x;
          y = y;
          z = z;
          bits = bits-set (zeros r) (plus4 D.at) c bits (sensitive_bit (plus4 D.at) c D.sensitive (omega arith));
          source = ap₂ (set (zeros r)) D.names en;
          image = ap (λ (g : Ran). g.state) e ∙ ap (held x y z) (write_sensitive L r bits D.at c D.sensitive);
          one = wx;
          two = wy;
          three = wz;
        };
      }

  -- what the image has at a place of the table page
  page_holds : (i : ℕ) → i < 256 → get_or (rails L r) (284 + i) 0 ≡ page L i
  page_holds i h =
      map_at-get_or (image_at L) 4 r (284 + i) (omega (arith, tail_length L r bits)) ∙ image-page L i (get_or r (284 + i) 0)

  -- one macro from an image whose scratch registers hold x, y and z
  module _ (d : Operand) (hd : SensitivePlace d) (k x y z : ℕ) (w : Weights) (β : ℕ) (wx : weight x ≡ w.one) (wy : weight y ≡ w.two) (wz : weight z ≡ w.three) where
    copy_done : (a : Operand) → MarkedArgument a
        → Done L (exec (copy d (coded L a)) k (held x y z (rails L r)) β) (set (zeros r) (place d (zeros r)) (argument Marked a (zeros r)))
        (weights w.one w.two 1) (loaded_bus d a (zeros r) β) (copy_shown L d a k w.three (zeros r) β)
    unfolding copy copy_shown
    copy_done a ha =
        let A = loaded L K r bits a ha in
        let D = found L r bits d hd in
        let c = argument Marked a (zeros r) in
        let β₁ = load_bus a (zeros r) β in
        let w3 = ap (λ (n : ℕ). load_shown L a k n (zeros r) β) wz in
        done d D c c _ x y (code L c) _ _ _ A.bit refl
        (exec_then (load 3 (coded L a)) (write_back 3 d) k (held x y z (rails L r)) β
        (A.loads r3 k x y z β ∙ ap (ran (load_end a k) (held x y (code L c) (rails L r)) β₁) w3)
        (write_back_shown_lem L K r3 d c (get_or r D.at 0) A.bit D.bit (load_end a k) x y (code L c) (rails L r) β₁ D.at (address d (zeros r)) refl D.holds D.destination))
        wx wy (code-weight L K c A.bit)

    negate_done : (a b : Operand) → MarkedArgument a
        → Done L (exec (negate L d (coded L a)) k (held x y z (rails L r)) β) (set (zeros r) (place d (zeros r)) (alu Marked Not (argument Marked a (zeros r)) (argument Marked b (zeros r))))
        (weights 1 w.two w.three) (loaded_bus d a (zeros r) β) (negate_shown L d a k w.one (zeros r) β)
    unfolding negate negate_shown alu
    negate_done a b ha =
        let A = loaded L K r bits a ha in
        let D = found L r bits d hd in
        let n = argument Marked a (zeros r) in
        let c = alu Marked Not n 0 in
        let β₁ = load_bus a (zeros r) β in
        let w1 = ap (λ (n : ℕ). load_shown L a k n (zeros r) β) wx in
        done d D c (alu Marked Not n (argument Marked b (zeros r))) _ (flipped L (code L n)) y z _ _ _ (not_bit L K n A.bit) refl
        (exec_then (load 1 (coded L a)) (flip L ++ write_back 1 d) k (held x y z (rails L r)) β
        (A.loads r1 k x y z β ∙ ap (ran (load_end a k) (held (code L n) y z (rails L r)) β₁) w1)
        (exec_then (flip L) (write_back 1 d) (load_end a k) (held (code L n) y z (rails L r)) β₁
        (flip-shown L K n A.bit (load_end a k) y z (rails L r) β₁)
        (write_back_shown_lem L K r1 d c (get_or r D.at 0) (not_bit L K n A.bit) D.bit (flip_end (load_end a k)) (flipped L (code L n)) y z (rails L r) β₁ D.at (address d (zeros r))
        (flipped-code L K n A.bit) D.holds D.destination)))
        (flipped-weight L K n A.bit) wy wz

    lookup_done : (o : ℕ) → o < 3 → (a b : Operand) → MarkedArgument a → MarkedArgument b
        → Done L (exec (lookup L (table_at L o) d (coded L a) (coded L b)) k (held x y z (rails L r)) β)
        (set (zeros r) (place d (zeros r)) (alu Marked (table_op o) (argument Marked a (zeros r)) (argument Marked b (zeros r))))
        (weights 2 0 1) (lookup_bus L o d (zeros r)) (lookup_shown L o d a b k (zeros r) w β)
    unfolding lookup lookup_shown ones
    lookup_done o ho a b ha hb =
        let A = loaded L K r bits a ha in
        let B = loaded L K r bits b hb in
        let D = found L r bits d hd in
        let t = table_at L o in
        let m = argument Marked a (zeros r) in
        let n = argument Marked b (zeros r) in
        let c = alu Marked (table_op o) m n in
        let hc = table_bit L K o m n ho A.bit B.bit in
        let i = joined_index L (code L m) (code L n) in
        let inside = slot-low L K o m n ho A.bit B.bit in
        let first = table_low L K o ho in
        let points : 288 + slot L o m n % 256 ≡ plus4 (284 + slot L o m n) = omega arith in
        let begins : 288 + t % 256 ≡ plus4 (284 + t) = omega arith in
        let holds = page_holds (slot L o m n) inside ∙ slot_holds L K o m n ho A.bit B.bit in
        let empty = page_holds t first ∙ table_first L K o ho in
        let β₁ = load_bus a (zeros r) β in
        let β₂ = both_bus a b (zeros r) β in
        let w1 = ap (λ (n : ℕ). load_shown L a k n (zeros r) β) wx in
        let w2 = ap (λ (n : ℕ). load_shown L b (second_at L a k) n (zeros r) β₁) wy in
        done d D c c _ i 0 (code L c) _ _ _ hc refl
        (exec_then (load 1 (coded L a)) (scale L ++ (load 2 (coded L b) ++ (combine L ++ (fetch t ++ write_back 3 d)))) k (held x y z (rails L r)) β
        (A.loads r1 k x y z β ∙ ap (ran (load_end a k) (held (code L m) y z (rails L r)) β₁) w1)
        (exec_then (scale L) (load 2 (coded L b) ++ (combine L ++ (fetch t ++ write_back 3 d))) (load_end a k) (held (code L m) y z (rails L r)) β₁
        (scale-shown L K m A.bit (load_end a k) y z (rails L r) β₁)
        (exec_then (load 2 (coded L b)) (combine L ++ (fetch t ++ write_back 3 d)) (second_at L a k) (held (scaled L (code L m)) y z (rails L r)) β₁
        (B.loads r2 (second_at L a k) (scaled L (code L m)) y z β₁ ∙ ap (ran (combine_at L a b k) (held (scaled L (code L m)) (code L n) z (rails L r)) β₂) w2)
        (exec_then (combine L) (fetch t ++ write_back 3 d) (combine_at L a b k) (held (scaled L (code L m)) (code L n) z (rails L r)) β₂
        (combine-shown L K m n A.bit B.bit (combine_at L a b k) z (rails L r) β₂)
        (exec_then (fetch t) (write_back 3 d) (fetch_at L a b k) (held i (low L (code L n)) z (rails L r)) β₂
        (fetch-shown L K o m n c ho A.bit B.bit hc (fetch_at L a b k) (low L (code L n)) z 1 w.three (rails L r) β₂ (284 + slot L o m n) (284 + t)
        (low-weight L K n B.bit) wz points holds begins empty)
        (write_back_shown_lem L K r3 d c (get_or r D.at 0) hc D.bit (write_back_at L a b k) i 0 (code L c) (rails L r) (cell_of t) D.at (address d (zeros r)) refl D.holds D.destination))))))
        (index-weight L K o m n ho A.bit B.bit) refl (code-weight L K c hc)

  pub macro_done : (op : Opcode) (d a b : Operand) → MarkedOperands op d a b → (k x y z : ℕ) (w : Weights) (β : ℕ) → weight x ≡ w.one → weight y ≡ w.two → weight z ≡ w.three
      → Done L (exec (macro L op d (coded L a) (coded L b)) k (held x y z (rails L r)) β)
      (set (zeros r) (place d (zeros r)) (alu Marked op (argument Marked a (zeros r)) (argument Marked b (zeros r)))) (weighed op w) (macro_bus L op d a (zeros r) β) (shown L op d a b k (zeros r) w β)
  unfolding macro weighed shown macro_bus alu has_macro fills
  macro_done Nop d a b M k x y z w β wx wy wz = absurd M.able
  macro_done Jmp d a b M k x y z w β wx wy wz = absurd M.able
  macro_done Not d a b M k x y z w β wx wy wz = negate_done d (M.destination tt) k x y z w β wx wy wz a b (M.first tt)
  macro_done Mov d a b M k x y z w β wx wy wz = copy_done d (M.destination tt) k x y z w β wx wy wz a (M.first tt)
  macro_done And d a b M k x y z w β wx wy wz = lookup_done d (M.destination tt) k x y z w β wx wy wz 0 (lit< tt) a b (M.first tt) (M.second tt)
  macro_done Orr d a b M k x y z w β wx wy wz = lookup_done d (M.destination tt) k x y z w β wx wy wz 1 (lit< tt) a b (M.first tt) (M.second tt)
  macro_done Xor d a b M k x y z w β wx wy wz = lookup_done d (M.destination tt) k x y z w β wx wy wz 2 (lit< tt) a b (M.first tt) (M.second tt)
  macro_done Lsl d a b M k x y z w β wx wy wz = absurd M.able
  macro_done Lsr d a b M k x y z w β wx wy wz = absurd M.able
  macro_done Add d a b M k x y z w β wx wy wz = absurd M.able
  macro_done Mul d a b M k x y z w β wx wy wz = absurd M.able
  macro_done Beq d a b M k x y z w β wx wy wz = absurd M.able
  macro_done Bne d a b M k x y z w β wx wy wz = absurd M.able

-- ---- the same is shown in states that agree in the public places, and the bus is the same

module _ (L : Layout) (s t : State) (h : SamePublic s t) where
  loaded_same : (d a : Operand) → SensitivePlace d → MarkedArgument a → (β : ℕ) → loaded_bus d a s β ≡ loaded_bus d a t β
  loaded_same d a hd ha β = rw (address_same s t h d (steady-place d hd), load_bus_same s t h a ha β)

  lookup_same : (o : ℕ) (d a b : Operand) → SensitivePlace d → MarkedArgument a → MarkedArgument b → (k : ℕ) (w : Weights) (β : ℕ)
      → lookup_shown L o d a b k s w β ≡ lookup_shown L o d a b k t w β
  unfolding lookup_shown
  lookup_same o d a b hd ha hb k w β =
      let β₁ = load_bus a t β in
      rw (
        address_same s t h d (steady-place d hd),
        load_same L s t h a ha k w.one β,
        load_bus_same s t h a ha β,
        load_same L s t h b hb (second_at L a k) w.two β₁,
        load_bus_same s t h b hb β₁,
      )

  pub shown_same : (op : Opcode) (d a b : Operand) → MarkedOperands op d a b → (k : ℕ) (w : Weights) (β : ℕ) → shown L op d a b k s w β ≡ shown L op d a b k t w β
  unfolding shown copy_shown negate_shown fills
  shown_same Nop d a b M k w β = refl
  shown_same Jmp d a b M k w β = refl
  shown_same Not d a b M k w β = rw (address_same s t h d (steady-place d (M.destination tt)), load_same L s t h a (M.first tt) k w.one β, load_bus_same s t h a (M.first tt) β)
  shown_same Mov d a b M k w β = rw (address_same s t h d (steady-place d (M.destination tt)), load_same L s t h a (M.first tt) k w.three β, load_bus_same s t h a (M.first tt) β)
  shown_same And d a b M k w β = lookup_same 0 d a b (M.destination tt) (M.first tt) (M.second tt) k w β
  shown_same Orr d a b M k w β = lookup_same 1 d a b (M.destination tt) (M.first tt) (M.second tt) k w β
  shown_same Xor d a b M k w β = lookup_same 2 d a b (M.destination tt) (M.first tt) (M.second tt) k w β
  shown_same Lsl d a b M k w β = refl
  shown_same Lsr d a b M k w β = refl
  shown_same Add d a b M k w β = refl
  shown_same Mul d a b M k w β = refl
  shown_same Beq d a b M k w β = refl
  shown_same Bne d a b M k w β = refl

  pub bus_same : (op : Opcode) (d a b : Operand) → MarkedOperands op d a b → (β : ℕ) → macro_bus L op d a s β ≡ macro_bus L op d a t β
  unfolding macro_bus fills
  bus_same Nop d a b M β = refl
  bus_same Jmp d a b M β = refl
  bus_same Not d a b M β = loaded_same d a (M.destination tt) (M.first tt) β
  bus_same Mov d a b M β = loaded_same d a (M.destination tt) (M.first tt) β
  bus_same And d a b M β = rw (address_same s t h d (steady-place d (M.destination tt)))
  bus_same Orr d a b M β = rw (address_same s t h d (steady-place d (M.destination tt)))
  bus_same Xor d a b M β = rw (address_same s t h d (steady-place d (M.destination tt)))
  bus_same Lsl d a b M β = refl
  bus_same Lsr d a b M β = refl
  bus_same Add d a b M β = refl
  bus_same Mul d a b M β = refl
  bus_same Beq d a b M β = refl
  bus_same Bne d a b M β = refl

-- ---- a macro is straight

pub macro_straight : (L : Layout) (op : Opcode) (d a b : Operand) → Straight (macro L op d a b)
unfolding next taken
macro_straight =
    macro-lines (record { moves = λ d a k s. refl; masks = λ n m k s. refl; shifts = λ k s. refl; joins = λ k s. refl; flips = λ m k s. refl })

-- a marked line goes on to the next
pub next_marked : (op : Opcode) (d a b : Operand) (t : Target) → T (has_macro op) → (k : ℕ) (s : State) → next (mk Marked op d a b t) k s ≡ suc k
unfolding has_macro next taken
next_marked Nop d a b t h k s = refl
next_marked Jmp d a b t h k s = absurd h
next_marked Not d a b t h k s = refl
next_marked Mov d a b t h k s = refl
next_marked And d a b t h k s = refl
next_marked Orr d a b t h k s = refl
next_marked Xor d a b t h k s = refl
next_marked Lsl d a b t h k s = refl
next_marked Lsr d a b t h k s = refl
next_marked Add d a b t h k s = refl
next_marked Mul d a b t h k s = refl
next_marked Beq d a b t h k s = absurd h
next_marked Bne d a b t h k s = absurd h

-- and has a destination
pub marked_destination : (op : Opcode) (d a b : Operand) → MarkedOperands op d a b → SensitivePlace d
unfolding has_macro fills
marked_destination Nop d a b M = absurd M.able
marked_destination Jmp d a b M = absurd M.able
marked_destination Not d a b M = M.destination tt
marked_destination Mov d a b M = M.destination tt
marked_destination And d a b M = M.destination tt
marked_destination Orr d a b M = M.destination tt
marked_destination Xor d a b M = M.destination tt
marked_destination Lsl d a b M = M.destination tt
marked_destination Lsr d a b M = M.destination tt
marked_destination Add d a b M = M.destination tt
marked_destination Mul d a b M = M.destination tt
marked_destination Beq d a b M = absurd M.able
marked_destination Bne d a b M = absurd M.able
