-- What macros are made of, on bounds that hold images: a scratch register worked on, and a place precharged and written. Of the sets no
-- more is known than their bounds: a register is independent of the place that it was loaded from, so the macros' runs say nothing here.
-- Assumes nothing.
use mathlib.Core.Path.{◌≡◌, refl, ap, ◌∙◌, subst}
use mathlib.Core.Bool.{true, false, not}
use mathlib.Core.List.{List, [], ◌∷◌, ◌++◌}
use mathlib.Core.Logic.{inl}
use Prim.Native.Nat.{ℕ, zero, suc, ◌+◌, ◌%◌, ◌≤◌, ◌<◌}
use native.Mathlib.Omega.{arith}
use lib.Bits.{bit_and}
use lib.Count.{ones}
use lib.Dec.{T, T_not, lit≤}
use lib.ListN.{length, get_or}
use Rattle.model.specs.declared.Layout.{Layout}
use Rattle.model.specs.declared.Mark.TheVariants.{Marked}
use Rattle.model.specs.declared.Opcode.{Opcode}
use Rattle.model.specs.declared.Opcode.TheVariants.{Mov, And}
use Rattle.model.specs.declared.Operand.{Operand}
use Rattle.model.specs.declared.Operand.TheVariants.{Empty, Literal, Register, TableCell}
use Rattle.model.specs.declared.Line.{Line}
use Rattle.model.specs.declared.Kind.TheVariants.{Public}
use Rattle.model.specs.Limits.{state_size}
use Rattle.model.specs.Places.{State, place, value, address, has_address, kind}
use Rattle.model.specs.Step.{row, result, next, alu, argument, taken, weight, distance, on_bus, bus_after, distances}
use Rattle.model.specs.Layouts.{Known}
use Rattle.model.specs.Code.{code, code_table}
use Rattle.model.specs.Expansion.{marked_line, move, precharged, code_bit}
use Rattle.model.proofs.Operands.{Steady}
use Rattle.model.proofs.Finite.{code_stands}
use Rattle.model.proofs.Pieces.{six, over, reach, code_cell, distance-zero, distance_same}
use Rattle.sets.specs.Walk.{base, branches}
use Rattle.sets.specs.Claims.{In}
use Rattle.sets.proofs.Bounds.{Bound, Fits, Sole, sole_past, Turns}
use Rattle.sets.proofs.Chains.{put, put_same, turn-put, turn_again, Step, Chain, end, line, chain_append}
use Rattle.sets.proofs.ImageBounds.{of_bits, each_bits, in_bits, of_bit, codes, code_in, sole_of, Even, single_even, bits_even, codes_even, shown-put, place-fixed, address-fixed, base_sole, Scratch, scratch_read, Ready, zero_at, page_in, public_in, ready_scratch}

-- an opcode that goes on to the next line
abbrev Onward : Opcode → Type 0
Onward op = T (not (branches op)) × ((x y : ℕ) → taken op x y ≡ false)

-- a marked line that in every state within the bound writes one of Q at q and shows the same: h is the distance from the old value, u, v and w
-- are the ones of the addresses, and ds the distances on the bus, which it takes from X to Y
marked_step : {B C : Bound} {X : List ℕ} (op : Opcode) (d a b : Operand) (q : ℕ) (Q : List ℕ) (h u v w : ℕ) (ds Y : List ℕ) → Onward op → Sole B (base d) → Even Q → length Q ≤ 16 → Turns B q Q C
    → ((s : State) → Fits B s → (place d s ≡ q) × In (result (marked_line op d a b) s) Q × (distance (get_or s q 0) (result (marked_line op d a b) s) ≡ h)
    × (weight (address a s) ≡ u) × (weight (address b s) ≡ v) × (weight (address d s) ≡ w))
    → ((s : State) → Fits B s → (c : ℕ) → In c X → (distances (marked_line op d a b) s c ≡ ds) × In (bus_after (marked_line op d a b) s c) Y)
    → Step B X (marked_line op d a b) C Y
unfolding row next
marked_step op d a b q Q h u v w ds Y on so E few R f e =
    record {
      at = q;
      written = Q;
      shows = λ k. six k E.count h u v w ds;
      does = λ k. record {
        aim = so;
        args = λ t. absurd (T_not (branches op) on.0 t);
        dest = λ s F. (f s F).0;
        res = λ s F. (f s F).1;
        shown = λ s F c m. let g = f s F in rw (g.0, E.each (result (marked_line op d a b) s) g.1, g.2, g.3, g.4, g.5, (e s F c m).0);
        leads = λ s F c m. (e s F c m).1;
        goes = λ s F. rw (on.1 (argument Marked a s) (argument Marked b s));
        count = few;
      };
      turns = R;
    }

-- lines from bound B to bound C, which holds images but for r1 to r3, and the bus from X to Y
pub record Led (L : Layout) (U : State) (B : Bound) (X : List ℕ) (ls : List Line) (C : Bound) (Y : List ℕ) : Type 0 where
  pub chain : Chain B X ls C Y
  pub ready : Ready L U C

infixr 20 ◌then◌
pub ◌then◌ : {L : Layout} {U : State} {B C D : Bound} {X Y Z : List ℕ} {xs ys : List Line} → Led L U B X xs C Y → Led L U C Y ys D Z → Led L U B X (xs ++ ys) D Z
x then y = record { chain = chain_append x.chain y.chain; ready = y.ready }

-- ---- what a line does to the bus

-- without an address nothing
quiet : (op : Opcode) (d a b : Operand) → has_address d ≡ false → has_address a ≡ false → has_address b ≡ false → (s : State) (X : List ℕ) (c : ℕ) → In c X
    → (distances (marked_line op d a b) s c ≡ 0 ∷ 0 ∷ 0 ∷ []) × In (bus_after (marked_line op d a b) s c) X
unfolding distances bus_after on_bus
quiet op d a b ed ea eb s X c m = (rw (ed, ea, eb, distance_same c), rw (ed, ea, eb) m)

-- a move from an address u, where there is one, to an address w
pub move_bus : Operand → Operand → ℕ → ℕ → ℕ → ℕ
move_bus d a u w c = reach d w (reach a u c)

moves_on : (d a : Operand) (s : State) (c u w : ℕ) → address a s ≡ u → address d s ≡ w → (x : ℕ) → In x (c ∷ [])
    → (distances (move d a) s x ≡ over c (reach a u c) (reach a u c) (move_bus d a u w c)) × In (bus_after (move d a) s x) (move_bus d a u w c ∷ [])
unfolding distances bus_after on_bus has_address move_bus
moves_on d a s c u w ea ed x m = let e = sole_of x c m in (rw (e, ea, ed), inl (rw (e, ea, ed)))

-- ---- a register worked on

-- every value of place r is one of Q
abbrev pub Holds : Bound → ℕ → List ℕ → Type 0
Holds B r Q = (x : ℕ) → In x (B r) → In x Q

-- what an opcode makes of f of a bit and g of another
abbrev made : Opcode → (ℕ → ℕ) → (ℕ → ℕ) → ℕ → ℕ → ℕ
made op f g a b = alu Marked op (f a) (g b)

module _ (op : Opcode) (f g : ℕ → ℕ) (w h : ℕ) (n : (a b : ℕ) → a < 2 → b < 2 → (weight (made op f g a b) ≡ w) × (distance (f a) (made op f g a b) ≡ h)) where
  made_in : (x y : ℕ) → In x (of_bit f) → In y (of_bit g) → In (alu Marked op x y) (of_bits (made op f g)) × (distance x (alu Marked op x y) ≡ h)
  made_in x y c e =
      each_bits (λ a c. f a) (λ x. In (alu Marked op x y) (of_bits (made op f g)) × (distance x (alu Marked op x y) ≡ h))
      (λ a c ha hc. each_bits (λ b c. g b) (λ y. In (alu Marked op (f a) y) (of_bits (made op f g)) × (distance (f a) (alu Marked op (f a) y) ≡ h))
      (λ b c hb hc. (in_bits (made op f g) a b ha hb, (n a b ha hb).1)) y e) x c

  -- with a literal or another register
  pub works : {L : Layout} {U : State} {B : Bound} {X : List ℕ} → Ready L U B → (r : ℕ) (o : Operand) → Onward op → Scratch r → has_address o ≡ false → Holds B r (of_bit f)
      → ((s : State) → Fits B s → In (argument Marked o s) (of_bit g) × (weight (address o s) ≡ 0))
      → Led L U B X (marked_line op (Register r) (Register r) o ∷ []) (put r (of_bits (made op f g)) B) X
  unfolding result place address has_address ones base
  works {B = B} {X = X} R r o on sc none c e =
      let Q = of_bits (made op f g) in
      let E = bits_even (made op f g) w (λ a b ha hb. (n a b ha hb).0) in
      record {
        chain = line (marked_step op (Register r) (Register r) o r Q h 0 0 0 (0 ∷ 0 ∷ 0 ∷ []) X on (sole_past B state_size (lit≤ tt)) E (lit≤ tt) turn-put
            (λ s F. let m = made_in (get_or s r 0) (argument Marked o s) (c (get_or s r 0) (F.each r (omega arith))) (e s F).0 in rw (scratch_read r sc s) (refl, m.0, m.1, refl, (e s F).1, refl))
            (λ s F. quiet op (Register r) (Register r) o refl refl none s X)) end;
        ready = ready_scratch R r Q sc E;
      }

-- ---- a register loaded by one line, and what reading the table page does to the bus

pub takes : {L : Layout} {U : State} {B : Bound} {X : List ℕ} → Ready L U B → (r : ℕ) → Scratch r → (a : Operand) (Q : List ℕ) (h u : ℕ) (ds Y : List ℕ) → Even Q → length Q ≤ 16
    → ((s : State) → Fits B s → In (argument Marked a s) Q × (distance (get_or s r 0) (argument Marked a s) ≡ h) × (weight (address a s) ≡ u))
    → ((s : State) → Fits B s → (c : ℕ) → In c X → (distances (move (Register r) a) s c ≡ ds) × In (bus_after (move (Register r) a) s c) Y)
    → Led L U B X (move (Register r) a ∷ []) (put r Q B) Y
unfolding result alu place address ones taken base
takes {B = B} R r sc a Q h u ds Y E few f e =
    record {
      chain = line (marked_step Mov (Register r) a Empty r Q h u 0 0 ds Y (tt, λ x y. refl) (sole_past B state_size (lit≤ tt)) E few turn-put
          (λ s F. (refl, (f s F).0, (f s F).1, (f s F).2, refl, refl)) e) end;
      ready = ready_scratch R r Q sc E;
    }

pub table_bus : (r n t : ℕ) (s : State) (c x : ℕ) → address (TableCell n t) s ≡ x
    → (distances (move (Register r) (TableCell n t)) s c ≡ distance c x ∷ 0 ∷ 0 ∷ []) × (bus_after (move (Register r) (TableCell n t)) s c ≡ x)
unfolding distances bus_after on_bus has_address
table_bus r n t s c x e = (rw (e, distance_same x), e)

-- ---- a place that is not public precharged, and written from an operand at u that reads one of Q

-- the bus after it: c before, w being the place's address
pub charged_bus : Operand → Operand → ℕ → ℕ → ℕ → ℕ
charged_bus d a u w c = move_bus d a u w (move_bus d (Register 0) 0 w c)

pub precharge : {L : Layout} {U : State} {B : Bound} → Ready L U B → (d a : Operand) (Q : List ℕ) (c u : ℕ)
    → Steady d → (kind (place d U) ≡ Public → ⊥) → place d U < state_size → Even (B (place d U)) → Even Q → length Q ≤ 16
    → ((s : State) → Fits (put (place d U) (0 ∷ []) B) s → In (argument Marked a s) Q × (address a s ≡ u))
    → Chain B (c ∷ []) (precharged d a) (put (place d U) Q B) (charged_bus d a u (address d U) c ∷ [])
unfolding charged_bus result alu argument value address ones distance taken
precharge {U = U} {B = B} R d a Q c u st np wi old E few src =
    let q = place d U in
    let w = address d U in
    let S = public_in R in
    let S' = shown-put S q (0 ∷ []) np in
    let c₁ = move_bus d (Register 0) 0 w c in
    let emptied : (s : State) → Fits (put q (0 ∷ []) B) s → get_or s q 0 ≡ 0 = λ s F. sole_of (get_or s q 0) 0 (subst (In (get_or s q 0)) (put_same q (0 ∷ []) B) (F.each q wi)) in
    line (marked_step Mov d (Register 0) Empty q (0 ∷ []) old.count 0 0 (weight w) _ (c₁ ∷ []) (tt, λ x y. refl) (base_sole S d st) (single_even 0) (lit≤ tt) turn-put
    (λ s F. (place-fixed S d st s F, inl (zero_at R s F), rw (zero_at R s F) (distance-zero (get_or s q 0) ∙ old.each (get_or s q 0) (F.each q wi)), refl, refl, ap weight (address-fixed S d st s F)))
    (λ s F. moves_on d (Register 0) s c 0 w refl (address-fixed S d st s F)))
    (line (marked_step Mov d a Empty q Q E.count (weight u) 0 (weight w) _ (move_bus d a u w c₁ ∷ []) (tt, λ x y. refl) (base_sole S' d st) E few (turn_again B q (0 ∷ []) Q)
    (λ s F. (place-fixed S' d st s F, (src s F).0, rw (emptied s F) (E.each (argument Marked a s) (src s F).0), ap weight (src s F).1, refl, ap weight (address-fixed S' d st s F)))
    (λ s F. moves_on d a s c₁ u w (src s F).1 (address-fixed S' d st s F)))
    end)

-- ---- a public bit in a scratch register, coded

pub code-bit : {L : Layout} {U : State} {B : Bound} → Known L → Ready L U B → (r : ℕ) → Scratch r → (v c : ℕ) → v < 2
    → Led L U (put r (v ∷ []) B) (c ∷ []) (code_bit true r) (put r (codes L) B) (move_bus (Register r) (TableCell r code_table) (code_cell v) 0 c ∷ [])
unfolding code_bit result alu taken place address has_address base ones
code-bit {L = L} {U = U} {B = B} K R r sc v c h =
    let X = put r (v ∷ []) B in
    let E = codes_even L K in
    let holds : (s : State) → Fits X s → get_or s r 0 ≡ v = λ s F. sole_of (get_or s r 0) v (subst (In (get_or s r 0)) (put_same r (v ∷ []) B) (F.each r (omega arith))) in
    let coded : (s : State) → Fits X s → argument Marked (TableCell r code_table) s ≡ code L v = λ s F. rw (holds s F) (entry s F) in
    record {
      chain = line (marked_step And (Register r) (Register r) (Literal 1) r (v ∷ []) (distance v v) 0 0 0 (0 ∷ 0 ∷ 0 ∷ []) (c ∷ []) (tt, λ x y. refl) (sole_past X state_size (lit≤ tt)) (single_even v) (lit≤ tt)
          (turn_again B r (v ∷ []) (v ∷ []))
          (λ s F. rw (scratch_read r sc s, holds s F, low v h) (refl, inl refl, refl, refl, refl, refl))
          (λ s F. quiet And (Register r) (Register r) (Literal 1) refl refl refl s (c ∷ [])))
          (line (marked_step Mov (Register r) (TableCell r code_table) Empty r (codes L) (distance v (code L v)) (weight (code_cell v)) 0 0 _ _ (tt, λ x y. refl)
          (sole_past X state_size (lit≤ tt)) E (lit≤ tt) (turn_again B r (v ∷ []) (codes L))
          (λ s F. rw (coded s F, holds s F) (refl, code_in L v h, refl, refl, refl, refl))
          (λ s F. moves_on (Register r) (TableCell r code_table) s c (code_cell v) 0 (rw (holds s F)) refl))
          end);
      ready = ready_scratch R r (codes L) sc E;
    }
  where
    low : (v : ℕ) → v < 2 → bit_and v 1 ≡ v
    low zero h = refl
    low (suc zero) h = refl
    low (suc (suc v)) h = absurd (omega arith)

    entry : (s : State) → Fits (put r (v ∷ []) B) s → get_or s (288 + (v + code_table) % 256) 0 ≡ code L v
    entry s F =
        let i : (v + code_table) % 256 ≡ code_table + v = omega arith in
        rw i (page_in (ready_scratch R r (v ∷ []) sc (single_even v)) (code_table + v) (omega arith) (get_or s (288 + (code_table + v)) 0) (F.each (288 + (code_table + v)) (omega arith)) ∙ code_stands L K v h)
