-- The macros under the walk, piece by piece: no leak and no refusal at any line, and images are left. Assumes nothing.
use mathlib.Core.Path.{◌≡◌, refl, sym, ap, ◌∙◌}
use mathlib.Core.Bool.{Bool, true, false}
use mathlib.Core.List.{List, [], ◌∷◌}
use mathlib.Core.Logic.{inl}
use Prim.Native.Nat.{ℕ, ◌+◌, ◌%◌, ◌≤◌, ◌<◌}
use native.Mathlib.Nat.{zero-add}
use native.Mathlib.Omega.{arith}
use lib.Count.{ones}
use lib.Dec.{lit<, lit≤}
use lib.ListN.{length, get_or}
use Rattle.model.specs.declared.Layout.{Layout}
use Rattle.model.specs.declared.Mark.TheVariants.{Marked}
use Rattle.model.specs.declared.Opcode.{Opcode}
use Rattle.model.specs.declared.Opcode.TheVariants.{Nop, Jmp, Not, Mov, And, Orr, Xor, Lsl, Lsr, Add, Mul, Beq, Bne}
use Rattle.model.specs.declared.Operand.{Operand}
use Rattle.model.specs.declared.Operand.TheVariants.{Empty, Literal, Register, Cell, PublicCell, SensitiveCell, TableCell}
use Rattle.model.specs.declared.Line.{Line}
use Rattle.model.specs.Layouts.{Known}
use Rattle.model.specs.Lines.{fills}
use Rattle.model.specs.Places.{State, is_public, kind_of, place, value, address, has_address}
use Rattle.model.specs.Step.{alu, meaning, argument, taken, weight, distance}
use Rattle.model.specs.Code.{code}
use Rattle.model.specs.Marks.{has_macro}
use Rattle.model.specs.Expansion.{coded, marked_line, move, precharged, code_bit, load, shifts, scale, combine, fetch, flip, write_back, lookup, negate, copy, macro}
use Rattle.model.proofs.PlaceLaws.{apart}
use Rattle.model.proofs.Operands.{SensitivePlace, SensitiveArgument, PublicOperand, MarkedArgument, public_bit, sensitive_bit, steady-place, steady_public, sensitive_of, value_at, value_same}
use Rattle.model.proofs.Loads.{coded-kind, coded_public}
use Rattle.model.proofs.Acceptance.{MarkedOperands}
use Rattle.model.proofs.Finite.{table_at, table_op, table_weight, low, twice, shifted, scaled, joined_index, flipped, cell_of, slot, low-weight, low-distance, twice-weight, twice-distance, twice_twice_weight, twice_twice_distance, flipped-weight, flipped-distance, flipped-code, not_bit, index-weight, index-distance, table_low, table_first, slot-low, slot-weight, slot_there, slot-back, slot_holds, table_bit}
use Rattle.model.proofs.Pieces.{distance-zero}
use Rattle.sets.specs.Claims.{In}
use Rattle.sets.proofs.Bounds.{Bound, Fits}
use Rattle.sets.proofs.Chains.{put, put_other}
use Rattle.sets.proofs.ImageBounds.{of_bits, each_bits, in_bits, of_bit, codes, code_in, sole_of, Even, single_even, codes_even, same_of, address-fixed, Scratch, scratch_read, scratch_public, Ready, zero_at, public_in, sensitive_in, page_in, ready_scratch, ready_sensitive}
use Rattle.sets.proofs.Steps.{Led, ◌then◌, Holds, works, takes, table_bus, precharge, code-bit}

r1 : Scratch 1
r1 = omega arith

r2 : Scratch 2
r2 = omega arith

r3 : Scratch 3
r3 = omega arith

module _ (L : Layout) (K : Known L) (U : State) where
  -- ---- load, write back

  -- what an argument of a marked line reads, and where
  module _ {B : Bound} (R : Ready L U B) (s : State) (F : Fits B s) where
    place_source : (a : Operand) → is_public (kind_of a) ≡ false → SensitivePlace a → In (argument Marked a s) (codes L) × (address a s ≡ address a U)
    unfolding argument meaning
    place_source a p h =
        let o = sensitive_of a h s in
        (rw (p, value_at a h s) (sensitive_in R (place a s) o (get_or s (place a s) 0) (F.each (place a s) o.within)), address-fixed (public_in R) a (steady-place a h) s F)

    source : (a : Operand) → is_public (kind_of a) ≡ false → SensitiveArgument a → In (argument Marked (coded L a) s) (codes L) × (address (coded L a) s ≡ address a U)
    unfolding coded argument value address
    source Empty p h = absurd h
    source (Literal n) p h = (code_in L n (omega arith), refl)
    source (Register n) p h = place_source (Register n) p h
    source (Cell n) p h = place_source (Cell n) p h
    source (PublicCell r k) p h = absurd h
    source (SensitiveCell r k) p h = place_source (SensitiveCell r k) p h
    source (TableCell r k) p h = absurd h

    -- a public place has the value that it has in U
    public_source : (a : Operand) → PublicOperand a → In (argument Marked a s) (argument Marked a U ∷ []) × (address a s ≡ address a U)
    unfolding argument
    public_source a h = (inl (ap (meaning Marked (kind_of a)) (sym (value_same U s (same_of (public_in R) s F) a h))), address-fixed (public_in R) a (steady_public a h) s F)

  -- lines from a bus of one value to a bus of one value
  abbrev Leads : Bound → ℕ → List Line → Bound → Type 0
  Leads B c ls C = (e : ℕ) × Led L U B (c ∷ []) ls C (e ∷ [])

  module _ {B : Bound} (R : Ready L U B) (c : ℕ) where
    -- a scratch register precharged, and loaded with one of Q
    charges : (r : ℕ) → Scratch r → (a : Operand) (Q : List ℕ) (u : ℕ) → Even Q → length Q ≤ 16
        → ((s : State) → Fits (put r (0 ∷ []) B) s → In (argument Marked a s) Q × (address a s ≡ u)) → Leads B c (precharged (Register r) a) (put r Q B)
    unfolding place
    charges r h a Q u E few src =
        (_, record { chain = precharge R (Register r) a Q c u tt (scratch_public r h) (omega arith) (R.even r h) E few src; ready = ready_scratch R r Q h E })

    loads : (r : ℕ) → Scratch r → (a : Operand) → MarkedArgument a → Leads B c (load r (coded L a)) (put r (codes L) B)
    unfolding load code_bit argument meaning
    loads r h a (sensitive_bit p g) =
        rw (coded-kind L a, p) (charges r h (coded L a) (codes L) (address a U) (codes_even L K) (lit≤ tt) (λ s F. source (ready_scratch R r (0 ∷ []) h (single_even 0)) s F a p g))
    loads r h a (public_bit p g) =
        let v = argument Marked a U in
        let low : v < 2 = rw p (omega arith) in
        let l = charges r h a (v ∷ []) (address a U) (single_even v) (lit≤ tt) (λ s F. public_source (ready_scratch R r (0 ∷ []) h (single_even 0)) s F a g) in
        rw (coded_public L a p, p) (_, l.1 then code-bit K R r h v l.0 low)

    stores : (r : ℕ) → Scratch r → Holds B r (codes L) → (d : Operand) → SensitivePlace d → Leads B c (write_back r d) (put (place d U) (codes L) B)
    unfolding write_back place address
    stores r h m d g =
        let q = place d U in
        let o = sensitive_of d g U in
        let E = codes_even L K in (
          _,
          record {
            chain = precharge R d (Register r) (codes L) c 0 (steady-place d g) (λ p. apart p o.is) o.within
                (record { count = E.count; each = λ x m. E.each x (sensitive_in R q o x m) }) E (lit≤ tt)
                (λ s F. (rw (scratch_read r h s) (m (get_or s r 0) (rw (put_other q (0 ∷ []) B r (λ e. omega (arith, o.past))) at (F.each r (omega arith)))), refl));
            ready = ready_sensitive R q o.is E;
          },
        )

  -- ---- scale, combine, flip, fetch

  abbrev lowest : ℕ → ℕ
  lowest a = low L (code L a)

  abbrev index : ℕ → ℕ → ℕ
  index a b = joined_index L (code L a) (code L b)

  module _ {B : Bound} {X : List ℕ} (R : Ready L U B) where
    masks : (r : ℕ) → Scratch r → Holds B r (codes L) → Led L U B X (marked_line And (Register r) (Register r) (Literal L.mask) ∷ []) (put r (of_bit lowest) B) X
    unfolding alu taken argument value address has_address ones
    masks r h c = works And (code L) (λ b. L.mask) 1 0 (λ a b ha hb. (low-weight L K a ha, low-distance L K a ha)) R r (Literal L.mask) (tt, λ x y. refl) h refl c (λ s F. (inl refl, refl))

    doubles : (f : ℕ → ℕ) → ((a : ℕ) → a < 2 → (weight (twice (f a)) ≡ 1) × (distance (f a) (twice (f a)) ≡ 2)) → Holds B 1 (of_bit f)
        → Led L U B X (marked_line Lsl (Register 1) (Register 1) (Literal 1) ∷ []) (put 1 (of_bit (λ a. twice (f a))) B) X
    unfolding alu taken argument value address has_address ones
    doubles f n c = works Lsl f (λ b. 1) 1 2 (λ a b ha hb. n a ha) R 1 (Literal 1) (tt, λ x y. refl) r1 refl c (λ s F. (inl refl, refl))

    joins : Holds B 1 (of_bit (λ a. scaled L (code L a))) → Holds B 2 (of_bit lowest) → Led L U B X (marked_line Orr (Register 1) (Register 1) (Register 2) ∷ []) (put 1 (of_bits index) B) X
    unfolding alu taken argument value place address has_address ones
    joins c e =
        works Orr (λ a. scaled L (code L a)) lowest 2 1 (λ a b ha hb. (index-weight L K 0 a b (lit< tt) ha hb, index-distance L K 0 a b (lit< tt) ha hb))
        R 1 (Register 2) (tt, λ x y. refl) r1 refl c (λ s F. (e (get_or s 2 0) (F.each 2 (lit< tt)), refl))

    flips : Holds B 1 (codes L) → Led L U B X (flip L) (put 1 (of_bit (λ a. flipped L (code L a))) B) X
    unfolding flip alu taken argument value address has_address ones
    flips c =
        works Xor (code L) (λ b. L.mask) 1 2 (λ a b ha hb. (flipped-weight L K a ha, flipped-distance L K a ha)) R 1 (Literal L.mask) (tt, λ x y. refl) r1 refl c (λ s F. (inl refl, refl))

  -- through r0 a table's start is read, which is 0
  start_read : {B : Bound} → Ready L U B → (o : ℕ) → o < 3 → (s : State) → Fits B s
      → (argument Marked (TableCell 0 (table_at L o)) s ≡ 0) × (address (TableCell 0 (table_at L o)) s ≡ cell_of (table_at L o))
  unfolding argument value place address
  start_read R o h s F =
      let t = table_at L o in
      let low = table_low L K o h in
      let stays : (0 + t) % 256 ≡ t = omega arith in
      let first = page_in R t low (get_or s (288 + t) 0) (F.each (288 + t) (omega arith)) in
      (rw (zero_at R s F, stays, first) (table_first L K o h), rw (zero_at R s F, zero-add t))

  -- the cells of a table that hold an entry
  abbrev entries : ℕ → List ℕ
  entries o = of_bits (λ a b. cell_of (slot L o a b))

  -- the entry of table o at the index in r1
  entry_read : {B : Bound} → Ready L U B → (o : ℕ) → o < 3 → Holds B 1 (of_bits index) → (s : State) → Fits B s
      → let x = address (TableCell 1 (table_at L o)) s in
      In (argument Marked (TableCell 1 (table_at L o)) s) (codes L) × (weight x ≡ table_weight o) × (distance (cell_of (table_at L o)) x ≡ 2) × In x (entries o)
  unfolding argument value place address
  entry_read R o h c s F =
      each_bits index
      (λ x. let y = cell_of (x + table_at L o) in
      In (get_or s (288 + (x + table_at L o) % 256) 0) (codes L) × (weight y ≡ table_weight o) × (distance (cell_of (table_at L o)) y ≡ 2) × In y (entries o))
      (λ a b ha hb.
      let i = slot L o a b in
      let inside = slot-low L K o a b h ha hb in
      let stays : i % 256 ≡ i = omega arith in
      let entry = page_in R i inside (get_or s (288 + i) 0) (F.each (288 + i) (omega arith)) in (
        rw (stays, entry, slot_holds L K o a b h ha hb) (code_in L (alu Marked (table_op o) a b) (table_bit L K o a b h ha hb)),
        slot-weight L K o a b h ha hb,
        slot_there L K o a b h ha hb,
        in_bits (λ a b. cell_of (slot L o a b)) a b ha hb,
      ))
      (get_or s 1 0) (c (get_or s 1 0) (F.each 1 (lit< tt)))

  -- a scratch register cleared by a table's start, which the bus reaches over n bits wherever it stood
  clears : {B : Bound} {X : List ℕ} → Ready L U B → (r : ℕ) → Scratch r → (o : ℕ) → o < 3 → (n : ℕ) → ((b : ℕ) → In b X → distance b (cell_of (table_at L o)) ≡ n)
      → Led L U B X (move (Register r) (TableCell 0 (table_at L o)) ∷ []) (put r (0 ∷ []) B) (cell_of (table_at L o) ∷ [])
  clears R r sc o h n f =
      let t = table_at L o in
      let x = cell_of t in
      let old = R.even r sc in
      takes R r sc (TableCell 0 t) (0 ∷ []) old.count (weight x) (n ∷ 0 ∷ 0 ∷ []) (x ∷ []) (single_even 0) (lit≤ tt)
      (λ s F. let g = start_read R o h s F in
      (inl g.0, rw g.0 (distance-zero (get_or s r 0) ∙ old.each (get_or s r 0) (F.each r (omega arith))), ap weight g.1))
      (λ s F b i. let g = table_bus r 0 t s b x (start_read R o h s F).1 in (g.0 ∙ ap (λ (y : ℕ). y ∷ 0 ∷ 0 ∷ []) (f b i), inl g.1))

  -- r3 precharged and loaded with the entry, and the bus brought back
  fetches : {B : Bound} → Ready L U B → (c o : ℕ) → o < 3 → Holds B 1 (of_bits index)
      → Leads B c (fetch (table_at L o)) (put 2 (0 ∷ []) (put 3 (codes L) (put 3 (0 ∷ []) B)))
  unfolding fetch distance
  fetches R c o h m =
      let t = table_at L o in
      let x = cell_of t in
      let E = codes_even L K in
      let p = clears {X = c ∷ []} R 3 r3 o h (distance c x) (λ b i. ap (λ (y : ℕ). distance y x) (sole_of b c i)) in
      let e = takes {X = x ∷ []} p.ready 3 r3 (TableCell 1 t) (codes L) E.count (table_weight o) (2 ∷ 0 ∷ 0 ∷ []) (entries o) E (lit≤ tt)
      (λ s F. let g = entry_read p.ready o h m s F in
      (g.0, rw (sole_of (get_or s 3 0) 0 (F.each 3 (lit< tt))) (E.each (argument Marked (TableCell 1 t) s) g.0), g.1))
      (λ s F b i. let g = entry_read p.ready o h m s F in
      let y = table_bus 3 1 t s b (address (TableCell 1 t) s) refl in
      (y.0 ∙ rw (sole_of b x i, g.2), rw y.1 g.3)) in
      let z = clears {X = entries o} e.ready 2 r2 o h 2 (each_bits (λ a b. cell_of (slot L o a b)) (λ y. distance y x ≡ 2) (λ a b ha hb. slot-back L K o a b h ha hb)) in
      (x, p then e then z)

  module _ {B : Bound} {X : List ℕ} (R : Ready L U B) where
    combines : Holds B 1 (of_bit (λ a. scaled L (code L a))) → Holds B 2 (codes L) → Led L U B X (combine L) (put 1 (of_bits index) (put 2 (of_bit lowest) B)) X
    unfolding combine
    combines c e = let m = masks R 2 r2 e in m then joins m.ready c (λ x m. m)

    -- by how far apart the bits are: some bound, in which r1 holds the first code in its place
    shifts_lead : (c : Bool) → Holds B 1 (of_bit lowest) → (C : Bound) × Led L U B X (shifts c) C X × Holds C 1 (of_bit (λ a. shifted c (lowest a)))
    unfolding shifts
    shifts_lead true c = (_, doubles R lowest (λ a h. (twice-weight L K a h, twice-distance L K a h)) c, λ x m. m)
    shifts_lead false c =
        let d = doubles R lowest (λ a h. (twice-weight L K a h, twice-distance L K a h)) c in
        (_, d then doubles d.ready (λ a. twice (lowest a)) (λ a h. (twice_twice_weight L K a h, twice_twice_distance L K a h)) (λ x m. m), λ x m. m)

  scales : {B : Bound} {X : List ℕ} → Ready L U B → Holds B 1 (codes L) → (C : Bound) × Led L U B X (scale L) C X × Holds C 1 (of_bit (λ a. scaled L (code L a)))
  unfolding scale
  scales R c =
      let m = masks R 1 r1 c in
      let s = shifts_lead m.ready L.spaced (λ x m. m) in
      (s.0, m then s.1, s.2)

  -- ---- the macros

  abbrev Passes : Bound → ℕ → List Line → Type 0
  Passes B c ls = (C : Bound) × Leads B c ls C

  flipped-codes : (x : ℕ) → In x (of_bit (λ a. flipped L (code L a))) → In x (codes L)
  flipped-codes = each_bits (λ a b. flipped L (code L a)) (λ x. In x (codes L)) (λ a b ha hb. rw (flipped-code L K a ha) (code_in L (alu Marked Not a 0) (not_bit L K a ha)))

  module _ {B : Bound} (R : Ready L U B) (c : ℕ) (d : Operand) (hd : SensitivePlace d) where
    copy_passes : (a : Operand) → MarkedArgument a → Passes B c (copy d (coded L a))
    unfolding copy
    copy_passes a ha =
        let l = loads R c 3 r3 a ha in
        let s = stores l.1.ready l.0 3 r3 (λ x m. m) d hd in
        (_, (_, l.1 then s.1))

    negate_passes : (a : Operand) → MarkedArgument a → Passes B c (negate L d (coded L a))
    unfolding negate
    negate_passes a ha =
        let l = loads R c 1 r1 a ha in
        let f = flips l.1.ready (λ x m. m) in
        let s = stores f.ready l.0 1 r1 flipped-codes d hd in
        (_, (_, l.1 then f then s.1))

    lookup_passes : (o : ℕ) → o < 3 → (a b : Operand) → MarkedArgument a → MarkedArgument b → Passes B c (lookup L (table_at L o) d (coded L a) (coded L b))
    unfolding lookup
    lookup_passes o h a b ha hb =
        let l = loads R c 1 r1 a ha in
        let s = scales l.1.ready (λ x m. m) in
        let m = loads s.1.ready l.0 2 r2 b hb in
        let j = combines m.1.ready s.2 (λ x m. m) in
        let f = fetches j.ready m.0 o h (λ x m. m) in
        let w = stores f.1.ready f.0 3 r3 (λ x m. m) d hd in
        (_, (_, l.1 then s.1 then m.1 then j then f.1 then w.1))

  pub macro_passes : {B : Bound} → Ready L U B → (c : ℕ) (op : Opcode) (d a b : Operand) → MarkedOperands op d a b → Passes B c (macro L op d (coded L a) (coded L b))
  unfolding macro has_macro fills
  macro_passes R c Nop d a b M = absurd M.able
  macro_passes R c Jmp d a b M = absurd M.able
  macro_passes R c Not d a b M = negate_passes R c d (M.destination tt) a (M.first tt)
  macro_passes R c Mov d a b M = copy_passes R c d (M.destination tt) a (M.first tt)
  macro_passes R c And d a b M = lookup_passes R c d (M.destination tt) 0 (lit< tt) a b (M.first tt) (M.second tt)
  macro_passes R c Orr d a b M = lookup_passes R c d (M.destination tt) 1 (lit< tt) a b (M.first tt) (M.second tt)
  macro_passes R c Xor d a b M = lookup_passes R c d (M.destination tt) 2 (lit< tt) a b (M.first tt) (M.second tt)
  macro_passes R c Lsl d a b M = absurd M.able
  macro_passes R c Lsr d a b M = absurd M.able
  macro_passes R c Add d a b M = absurd M.able
  macro_passes R c Mul d a b M = absurd M.able
  macro_passes R c Beq d a b M = absurd M.able
  macro_passes R c Bne d a b M = absurd M.able
