-- What the expansion of an accepted program is: correct lines, at most `longest` for each source line, whose targets are in it, and a stored
-- program again. Piece by piece, then by induction over the program. Assumes nothing.
use mathlib.Core.Path.{◌≡◌, refl, sym, ap, ap₂, ◌∙◌}
use mathlib.Core.Bool.{Bool, true, false, not, ◌&&◌}
use mathlib.Core.List.{List, [], ◌∷◌, ◌++◌, flat_map}
use Prim.Native.Nat.{ℕ, zero, suc, ◌*◌, ◌≤◌}
use native.Mathlib.Omega.{arith}
use borrow.Author.Tests.{le-ltb}
use lib.Dec.{T, ltb, leb, le→leb, lt→ltb, nltb→le}
use lib.ListN.{length}
use Rattle.model.specs.declared.Layout.{Layout}
use Rattle.model.specs.Layouts.{Known}
use Rattle.model.specs.declared.Mark.{Mark}
use Rattle.model.specs.declared.Mark.TheVariants.{Unmarked, Marked}
use Rattle.model.specs.declared.Opcode.{Opcode}
use Rattle.model.specs.declared.Opcode.TheVariants.{Nop, Jmp, Not, Mov, And, Orr, Xor, Lsl, Lsr, Add, Mul, Beq, Bne}
use Rattle.model.specs.declared.Operand.{Operand}
use Rattle.model.specs.declared.Operand.TheVariants.{Empty, Literal, Register, Cell, PublicCell, SensitiveCell, TableCell}
use Rattle.model.specs.declared.Target.{Target}
use Rattle.model.specs.declared.Target.TheVariants.{Empty as NoTarget, Line as ToLine}
use Rattle.model.specs.declared.Line.{Line}
use Rattle.model.specs.Limits.{max_lines, max_accepted, longest}
use Rattle.model.specs.Answers.{Report, counted}
use Rattle.model.specs.Lines.{fills, operand_right, target_right, is_literal, correct, AllCorrect, Every}
use Rattle.model.specs.Stored.{codes, line_count, lines, program_check}
use Rattle.model.specs.Code.{code, and_table, orr_table, xor_table, code_table}
use Rattle.model.specs.Places.{is_public, kind_of}
use Rattle.model.specs.Expansion.{coded, marked_line, move, code_bit, load, shifts, scale, combine, fetch, flip, write_back, lookup, negate, copy, macro, new_target, retarget, part_of, part, size, start, joined, expand}
use Rattle.model.specs.Marks.{is_above, holds16, mark_fault, marks_of, mark_check, Accepted}
use Rattle.model.proofs.TestLaws.{is_true, and_both, both_and}
use Rattle.model.proofs.Finite.{code-low, mask_low, table_low}
use Rattle.model.proofs.MacroLines.{every_append, macro-lines}
use Rattle.model.proofs.Lengths.{macro_bounds}
use Rattle.model.proofs.Parts.{joined_length}
use Rattle.model.proofs.Acceptance.{clear, AllRight, marks-right, accepted_right}
use Rattle.model.proofs.StoredLaws.{CheckAnswer, accepts, refuses, check_answer, program_checked, never_counted, length-lines, whole_lines, whole_check, correct_fields}

-- ---- the code of a bit, by whether it is 0

pub code-zero : (L : Layout) (n : ℕ) → n ≡ 0 → L.zero ≡ code L n
unfolding code
code-zero L n e = rw e

pub code_more : (L : Layout) (n : ℕ) → (n ≡ 0 → ⊥) → L.one ≡ code L n
unfolding code
code_more L zero h = absurd (h refl)
code_more L (suc n) h = refl

-- ---- how long a part is

pub size_most : (L : Layout) (l : Line) → size L l ≤ longest
unfolding size part_of
size_most L l = go l.mark
  where
    go : (m : Mark) → length (part_of L m (λ t. t) l) ≤ longest
    go Unmarked = omega arith
    go Marked = (macro_bounds L l.opcode l.destination (coded L l.first) (coded L l.second)).1

pub start_bound : (L : Layout) (p : List Line) (i : ℕ) → start L p i ≤ longest * length p
unfolding start
start_bound L [] i = omega arith
start_bound L (l ∷ p) zero = omega arith
start_bound L (l ∷ p) (suc i) = omega (arith, size_most L l, start_bound L p i)

-- no line starts past the expansion's end, which is the start of the line past the last
pub start_within : (L : Layout) (p : List Line) (i n : ℕ) → n ≡ length p → start L p i ≤ start L p n
unfolding start
start_within L [] i n e = omega arith
start_within L (l ∷ p) zero n e = omega arith
start_within L (l ∷ p) (suc i) zero e = absurd (omega arith)
start_within L (l ∷ p) (suc i) (suc n) e = omega (arith, start_within L p i n (omega arith))

pub expand-length : (L : Layout) (p : List Line) (n : ℕ) → n ≡ length p → length (expand L p) ≡ start L p n
unfolding expand
expand-length L p n e = sym (joined_length L (start L p) p n (omega arith))

-- ---- the lines of a part are correct

append-correct : (a b : List Line) → AllCorrect a → AllCorrect b → AllCorrect (a ++ b)
append-correct [] b h g = g
append-correct (l ∷ a) b h g = (h.0, append-correct a b h.1 g)

move-correct : (d a : Operand) → T (operand_right true d) → T (not (is_literal d)) → T (operand_right true a) → T (correct (move d a))
unfolding correct
move-correct d a hd nd ha =
    let x = operand_right true d in
    let y = not (is_literal d) in
    let z = operand_right true a in
    both_and (x && y && z && true) true (both_and (x && y && z) true (both_and (x && y) z (both_and x y hd nd) ha) tt) tt

load-correct : (n : ℕ) (a : Operand) → T (ltb n 32) → T (operand_right true a) → AllCorrect (load n a)
unfolding load code_bit correct operand_right is_literal
load-correct n a hn ha = (move-correct (Register n) (Register 0) hn tt tt, (move-correct (Register n) a hn tt ha, by (is_public (kind_of a))))
  where
    masked : T (correct (marked_line And (Register n) (Register n) (Literal 1)))
    masked = rw (is_true (ltb n 32) hn) tt

    by : (c : Bool) → AllCorrect (code_bit c n)
    by true = (masked, (move-correct (Register n) (TableCell n code_table) hn tt (both_and (ltb n 32) true hn tt), tt))
    by false = tt

-- the mask is a right literal
mask-right : (L : Layout) → Known L → T (leb L.mask 255 && true)
mask-right L K = both_and (leb L.mask 255) true (le→leb L.mask 255 (omega (arith, mask_low L K))) tt

scale-correct : (L : Layout) (K : Known L) → AllCorrect (scale L)
unfolding scale correct
scale-correct L K = (mask-right L K, go L.spaced)
  where
    go : (c : Bool) → AllCorrect (shifts c)
    go true = (tt, tt)
    go false = (tt, (tt, tt))

combine-correct : (L : Layout) (K : Known L) → AllCorrect (combine L)
unfolding combine correct
combine-correct L K = (mask-right L K, (tt, tt))

fetch-correct : (t : ℕ) → T (ltb t 256) → AllCorrect (fetch t)
unfolding fetch operand_right is_literal
fetch-correct t h = (move-correct (Register 3) (TableCell 0 t) tt tt h, (move-correct (Register 3) (TableCell 1 t) tt tt h, (move-correct (Register 2) (TableCell 0 t) tt tt h, tt)))

flip-correct : (L : Layout) (K : Known L) → AllCorrect (flip L)
unfolding flip correct
flip-correct L K = (mask-right L K, tt)

write_back_correct : (n : ℕ) (d : Operand) → T (ltb n 32) → T (operand_right true d) → T (not (is_literal d)) → AllCorrect (write_back n d)
unfolding write_back operand_right
write_back_correct n d hn hd nd = (move-correct d (Register 0) hd nd tt, (move-correct d (Register n) hd nd hn, tt))

module _ (L : Layout) (K : Known L) (d a : Operand) (hd : T (operand_right true d)) (nd : T (not (is_literal d))) (ha : T (operand_right true a)) where
  lookup-correct : (t : ℕ) (b : Operand) → T (operand_right true b) → T (ltb t 256) → AllCorrect (lookup L t d a b)
  unfolding lookup
  lookup-correct t b hb ht =
      let last : List Line = fetch t ++ write_back 3 d in
      let later : List Line = load 2 b ++ (combine L ++ last) in
      append-correct (load 1 a) (scale L ++ later) (load-correct 1 a tt ha) (append-correct (scale L) later (scale-correct L K)
      (append-correct (load 2 b) (combine L ++ last) (load-correct 2 b tt hb) (append-correct (combine L) last (combine-correct L K)
      (append-correct (fetch t) (write_back 3 d) (fetch-correct t ht) (write_back_correct 3 d tt hd nd)))))

  negate-correct : AllCorrect (negate L d a)
  unfolding negate
  negate-correct = append-correct (load 1 a) (flip L ++ write_back 1 d) (load-correct 1 a tt ha) (append-correct (flip L) (write_back 1 d) (flip-correct L K) (write_back_correct 1 d tt hd nd))

  copy-correct : AllCorrect (copy d a)
  unfolding copy
  copy-correct = append-correct (load 3 a) (write_back 3 d) (load-correct 3 a tt ha) (write_back_correct 3 d tt hd nd)

macro-correct : (L : Layout) (K : Known L) (o : Opcode) (d a b : Operand) → T (operand_right (fills o).destination d) → T (not (is_literal d)) → T (operand_right (fills o).first a) → T (operand_right (fills o).second b)
    → AllCorrect (macro L o d a b)
unfolding macro fills
macro-correct L K Nop d a b hd nd ha hb = tt
macro-correct L K Jmp d a b hd nd ha hb = tt
macro-correct L K Not d a b hd nd ha hb = negate-correct L K d a hd nd ha
macro-correct L K Mov d a b hd nd ha hb = copy-correct L K d a hd nd ha
macro-correct L K And d a b hd nd ha hb = lookup-correct L K d a hd nd ha (and_table L) b hb (lt→ltb (and_table L) 256 (table_low L K 0 (omega arith)))
macro-correct L K Orr d a b hd nd ha hb = lookup-correct L K d a hd nd ha (orr_table L) b hb (lt→ltb (orr_table L) 256 (table_low L K 1 (omega arith)))
macro-correct L K Xor d a b hd nd ha hb = lookup-correct L K d a hd nd ha (xor_table L) b hb (lt→ltb (xor_table L) 256 (table_low L K 2 (omega arith)))
macro-correct L K Lsl d a b hd nd ha hb = tt
macro-correct L K Lsr d a b hd nd ha hb = tt
macro-correct L K Add d a b hd nd ha hb = tt
macro-correct L K Mul d a b hd nd ha hb = tt
macro-correct L K Beq d a b hd nd ha hb = tt
macro-correct L K Bne d a b hd nd ha hb = tt

code_byte : (L : Layout) (K : Known L) (n : ℕ) → T (leb (code L n) 255)
unfolding code
code_byte L K zero = le→leb L.zero 255 (omega (arith, code-low L K 0 (omega arith)))
code_byte L K (suc n) = le→leb L.one 255 (omega (arith, code-low L K 1 (omega arith)))

coded-right : (L : Layout) (K : Known L) (must : Bool) (o : Operand) → T (operand_right must o) → T (operand_right must (coded L o))
unfolding operand_right coded
coded-right L K must Empty h = h
coded-right L K must (Literal n) h = both_and must (leb (code L n) 255) (and_both must (leb n 255) h).0 (code_byte L K n)
coded-right L K must (Register n) h = h
coded-right L K must (Cell n) h = h
coded-right L K must (PublicCell r k) h = h
coded-right L K must (SensitiveCell r k) h = h
coded-right L K must (TableCell r k) h = h

module _ (L : Layout) (K : Known L) (starts : ℕ → ℕ) (few : (k : ℕ) → starts k ≤ max_lines) where
  moved-right : (must : Bool) (t : Target) → T (target_right must t) → T (target_right must (new_target starts t))
  unfolding target_right new_target
  moved-right must NoTarget h = h
  moved-right must (ToLine t) h = both_and must (leb (starts t) max_lines) (and_both must (leb t max_lines) h).0 (le→leb (starts t) max_lines (few t))

  retarget-correct : (l : Line) → T (correct l) → T (correct (retarget starts l))
  unfolding correct
  retarget-correct l h =
      let before : Bool =
      operand_right (fills l.opcode).destination l.destination && not (is_literal l.destination)
      && operand_right (fills l.opcode).first l.first && operand_right (fills l.opcode).second l.second in
      let w = and_both before (target_right (fills l.opcode).target l.target) h in
      both_and before (target_right (fills l.opcode).target (new_target starts l.target)) w.0 (moved-right (fills l.opcode).target l.target w.1)

  part-correct : (l : Line) → T (correct l) → AllCorrect (part L starts l)
  unfolding part_of
  part-correct l h = go l.mark
    where
      go : (m : Mark) → AllCorrect (part_of L m starts l)
      go Unmarked = (retarget-correct l h, tt)
      go Marked =
          let f = correct_fields l h in
          macro-correct L K l.opcode l.destination (coded L l.first) (coded L l.second) f.destination (rw f.place tt)
          (coded-right L K (fills l.opcode).first l.first f.first) (coded-right L K (fills l.opcode).second l.second f.second)

  joined-correct : (n : ℕ) (p : List Line) → AllRight n p → AllCorrect (joined L starts p)
  unfolding AllRight joined
  joined-correct n [] h = tt
  joined-correct n (l ∷ p) h = append-correct (part L starts l) (joined L starts p) (part-correct l h.0) (joined-correct n p h.2)

-- the expansion of an accepted program, as a stored program
module _ (L : Layout) (K : Known L) (p : List Line) (A : Accepted p) where
  pub expansion_most : length (expand L p) ≤ longest * max_accepted
  expansion_most = omega (arith, expand-length L p (length p) refl, start_bound L p (length p), (accepted_right p A).few)

  pub expansion_correct : AllCorrect (expand L p)
  unfolding expand
  expansion_correct = joined-correct L K (start L p) (λ k. omega (arith, start_bound L p k, (accepted_right p A).few)) (length p) p (accepted_right p A).right

  pub expansion_check : program_check (flat_map codes (expand L p)) ≡ counted (length (expand L p))
  expansion_check = whole_check (expand L p) expansion_correct (omega (arith, expansion_most))

  pub expansion_lines : lines (flat_map codes (expand L p)) ≡ expand L p
  expansion_lines = whole_lines (expand L p) expansion_correct

-- ---- targets

-- no target is above n
abbrev pub Within : ℕ → List Line → Type 0
Within n = Every (λ l. T (not (is_above n l.target)))

-- no target of a macro is above n, since it has none
macro_within : (n : ℕ) (L : Layout) (o : Opcode) (d a b : Operand) → Within n (macro L o d a b)
unfolding is_above
macro_within n = macro-lines (record { moves = λ d a. tt; masks = λ k m. tt; shifts = tt; joins = tt; flips = λ m. tt })

module _ (L : Layout) (starts : ℕ → ℕ) (n : ℕ) (few : (k : ℕ) → starts k ≤ n) where
  moved_within : (t : Target) → T (not (is_above n (new_target starts t)))
  unfolding is_above new_target
  moved_within NoTarget = tt
  moved_within (ToLine t) = rw (le-ltb n (starts t) (few t)) tt

  joined_within : (p : List Line) → Within n (joined L starts p)
  unfolding joined part_of
  joined_within [] = tt
  joined_within (l ∷ p) = every_append _ (part L starts l) (joined L starts p) (go l.mark) (joined_within p)
    where
      go : (m : Mark) → Within n (part_of L m starts l)
      go Unmarked = (moved_within l.target, tt)
      go Marked = macro_within n L l.opcode l.destination (coded L l.first) (coded L l.second)

-- every target of an expansion is one of its lines or its end
pub expansion_within : (L : Layout) (p : List Line) → Within (length (expand L p)) (expand L p)
unfolding expand
expansion_within L p = joined_within L (start L p) (length (expand L p)) (λ k. omega (arith, expand-length L p (length p) refl, start_within L p k (length p) refl)) p

-- ---- starts that agree up to the line count give the same expansion

none_above : (n : ℕ) (l : Line) → mark_fault n l ≡ 0 → T (not (is_above n l.target))
unfolding holds16
none_above n l e = (clear n l e).c16

module _ (L : Layout) (f g : ℕ → ℕ) (n : ℕ) (same : (k : ℕ) → k ≤ n → f k ≡ g k) where
  moved_same : (t : Target) → T (not (is_above n t)) → new_target f t ≡ new_target g t
  unfolding new_target is_above
  moved_same NoTarget h = refl
  moved_same (ToLine t) h = ap ToLine (same t (nltb→le n t h))

  part_same : (l : Line) → mark_fault n l ≡ 0 → part L f l ≡ part L g l
  unfolding part_of
  part_same l e = go l.mark
    where
      go : (m : Mark) → part_of L m f l ≡ part_of L m g l
      go Unmarked = rw (moved_same l.target (none_above n l e))
      go Marked = refl

  pub joined_same : (p : List Line) → AllRight n p → joined L f p ≡ joined L g p
  unfolding joined AllRight
  joined_same [] h = refl
  joined_same (l ∷ p) h = ap₂ (λ (a b : List Line). a ++ b) (part_same l h.1) (joined_same p h.2)

-- ---- a stored program that passes the mark check is accepted

marks-passed : (p : List Line) (n : ℕ) → AllCorrect p → marks_of p ≡ counted n → Accepted p × (n ≡ length p)
unfolding Accepted
marks-passed p n h e =
    let q : n ≡ length p = (marks-right p n h e).count in
    ((h, e ∙ ap counted q), q)

pub mark_checked_lem : (p : List ℕ) (n : ℕ) → mark_check p ≡ counted n → Accepted (lines p) × (n ≡ line_count p)
unfolding mark_check
mark_checked_lem p n e = go (check_answer p) refl
  where
    go : {r : Report} → CheckAnswer p r → program_check p ≡ r → Accepted (lines p) × (n ≡ line_count p)
    go (accepts q) w =
        let c = program_checked p (line_count p) (w ∙ q) in
        let m = marks-passed (lines p) n c.all_right (rw (w ∙ q) at e) in
        (m.0, m.1 ∙ length-lines p)
    go (refuses k i q) w = absurd (never_counted (rw (w ∙ q) at e))

pub mark_accepted : (p : List ℕ) (n : ℕ) → mark_check p ≡ counted n → Accepted (lines p)
mark_accepted p n e = (mark_checked_lem p n e).0
