-- What the two checks refuse with: never 17, and at a line of 16 bits. A text has no more lines than bytes. Assumes nothing.
use Prim.Native.Nat.{ℕ, zero, suc, ◌+◌, ◌≤◌, ◌<◌}
use mathlib.Core.Bool.{Bool, true, false, cond}
use mathlib.Core.Path.{◌≡◌, refl, ap}
use mathlib.Core.List.{List, [], ◌∷◌, map}
use mathlib.Core.Option.{Option, none, some}
use native.Mathlib.Omega.{arith}
use lib.Dec.{ltb, leb, eqb}
use lib.ListN.{length}
use borrow.Author.Tests.{ltb-false}
use Rattle.model.specs.declared.Line.{Line}
use Rattle.model.specs.Limits.{max_accepted, max_lines, line_reach}
use Rattle.model.specs.Lines.{filled, fills}
use Rattle.model.specs.Answers.{Report, done, refused, and_then}
use Rattle.model.specs.Stored.{opcode_of, Field, Parsed, numbers, wrong, or_wrong, same_filled, no_literal, parsed, lines, parsed_numbers, at_line, fault_at, line_count, check_from, program_check, fault}
use Rattle.model.specs.Text.{newline, comma, mark_field, opcode_field, operand_field, target_field, count_of, skip, up_to, past, parsed_text, front_line, Reading, then_reads, reading}
use Rattle.model.specs.Marks.{holds10, holds11, holds12, holds14, holds15, holds16, mark_fault, first_bad, marks_of, mark_check}
use Rattle.model.proofs.RoundTrip.{reading-zero, reading_suc}
use Rattle.published.specs.Published.{cut_lines, onto, TextLine, text_line, text_lines, Seen, none_seen, after, seen_from, holds24, holds25, line_fault, first_fault, read_text, send_out_check, take_in_check}
use Rattle.published.proofs.SeenLaws.{fault-cons, fault-nil}

-- a refusal with a number up to a bound, at a line below another
abbrev pub Within : ℕ → ℕ → Report → Type 0
Within top line (done values) = Unit {0}
Within top line (refused k l) = (k ≤ top) × (l < line)

either : (top line : ℕ) (t : Bool) (x y : Report) → Within top line x → Within top line y → Within top line (cond t x y)
either top line true x y a b = a
either top line false x y a b = b

then_within : (top line : ℕ) (x y : Report) → Within top line x → Within top line y → Within top line (and_then x y)
then_within top line (done vs) y a b = b
then_within top line (refused k l) y a b = a

-- ---- reading: 1 to 8

abbrev Small : ℕ → Parsed → Type 0
Small top (numbers ns) = Unit {0}
Small top (wrong k) = k ≤ top

small_or : (top k : ℕ) (x : Option ℕ) (f : ℕ → Parsed) → k ≤ top → ((n : ℕ) → Small top (f n)) → Small top (or_wrong k x f)
small_or top k (some n) f h g = g n
small_or top k none f h g = h

small_if : (top : ℕ) (t : Bool) (x y : Parsed) → Small top x → Small top y → Small top (cond t x y)
small_if top true x y a b = a
small_if top false x y a b = b

small-parsed : (m o d a b t : Field) → Small 6 (parsed m o d a b t)
unfolding parsed
small-parsed m o d a b t =
    small_or 6 3 m.number _ (omega arith) (λ mark.
    small_or 6 4 o.number _ (omega arith) (λ opcode.
    small_if 6 (same_filled (fills (opcode_of opcode)) (filled d.filled a.filled b.filled t.filled)) _ (wrong 5)
    (small_or 6 6 (no_literal d.number) _ (omega arith) (λ destination.
    small_or 6 6 a.number _ (omega arith) (λ first.
    small_or 6 6 b.number _ (omega arith) (λ second.
    small_or 6 6 t.number _ (omega arith) (λ target. tt)))))
    (omega arith)))

small-front : (text : List ℕ) → Small 6 (front_line text)
unfolding front_line parsed_text
small-front text =
    let s : List ℕ = up_to newline text in
    small_if 6 (leb line_reach (length s)) (wrong 1) _ (omega arith)
    (small_if 6 (leb (length text) (length s)) (wrong 1) _ (omega arith)
    (small_if 6 (eqb (count_of comma s) 5) _ (wrong 2)
    (small-parsed (mark_field (up_to comma s)) (opcode_field (up_to comma (skip 1 s))) (operand_field (up_to comma (skip 2 s))) (operand_field (up_to comma (skip 3 s))) (operand_field (up_to comma (skip 4 s))) (target_field (skip 5 s)))
    (omega arith)))

reading-either : (top line : ℕ) (t : Bool) (x y : Reading) → Within top line x.answer → Within top line y.answer → Within top line (cond t x y).answer
reading-either top line true x y a b = a
reading-either top line false x y a b = b

reading_then : (x : Parsed) (n line : ℕ) (next : Reading) → Small 6 x → n < line → Within 8 line next.answer → Within 8 line (then_reads x n next).answer
reading_then (numbers ns) n line next s h a = a
reading_then (wrong k) n line next s h a = (omega arith, h)

reading_within : (more n room : ℕ) (text : List ℕ) (line : ℕ) → n + more < line → Within 8 line (reading more n room text).answer
reading_within zero n room text line h = rw (reading-zero n room text) (reading-either 8 line (eqb (length text) 0) _ _ tt (omega arith, omega arith))
reading_within (suc more) n room text line h =
    rw (reading_suc more n room text)
    (reading-either 8 line (eqb (length text) 0) _ _ tt
    (reading-either 8 line (leb room n) _ _ (omega arith, omega arith)
    (reading_then (front_line text) n line _ (small-front text) (omega arith) (reading_within more (n + 1) room (past newline text) line (omega arith)))))

-- ---- the mark check: 7, 3 to 6, 9 to 16

fault-few : (p : List ℕ) (i : ℕ) → fault_at p i ≤ 6
fault-few p i = by (at_line parsed_numbers p i) (small-parsed _ _ _ _ _ _)
  where
    by : (x : Parsed) → Small 6 x → fault x ≤ 6
    by (numbers ns) s = omega arith
    by (wrong k) s = s

check_within : (p : List ℕ) (i n line : ℕ) → i + n ≤ line → Within 16 line (check_from p i n)
unfolding check_from
check_within p i zero line h = tt
check_within p i (suc n) line h = either 16 line (eqb (fault_at p i) 0) _ _ (check_within p (i + 1) n line (omega arith)) (omega (arith, fault-few p i), omega arith)

number_if : (t : Bool) (a b : ℕ) → a ≤ 16 → b ≤ 16 → cond t a b ≤ 16
number_if true a b h g = h
number_if false a b h g = g

mark_few : (n : ℕ) (l : Line) → mark_fault n l ≤ 16
unfolding mark_fault
mark_few n l =
    number_if (holds10 l) 10 _ (omega arith) (number_if (holds11 l) 11 _ (omega arith) (number_if (holds12 l) 12 _ (omega arith)
    (number_if (holds14 l) 14 _ (omega arith) (number_if (holds15 l) 15 _ (omega arith) (number_if (holds16 n l) 16 0 (omega arith) (omega arith))))))

bad_within : (n i : ℕ) (ls : List Line) (line : ℕ) → i + length ls ≤ line → Within 16 line (first_bad n i ls)
unfolding first_bad
bad_within n i [] line h = tt
bad_within n i (l ∷ ls) line h = either 16 line (eqb (mark_fault n l) 0) _ _ (bad_within n (i + 1) ls line (omega arith)) (mark_few n l, omega arith)

marks_within : (p : List Line) → Within 16 65536 (marks_of p)
unfolding marks_of
marks_within p = by (ltb max_accepted (length p)) refl
  where
    by : (t : Bool) → ltb max_accepted (length p) ≡ t → Within 16 65536 (cond t (refused 9 0) (first_bad (length p) 0 p))
    by true e = (omega arith, omega arith)
    by false e = bad_within (length p) 0 p 65536 (omega (arith, ltb-false max_accepted (length p) e))

program_within : (p : List ℕ) → Within 16 65536 (program_check p)
unfolding program_check
program_within p = by (ltb max_lines (line_count p)) refl
  where
    by : (t : Bool) → ltb max_lines (line_count p) ≡ t → Within 16 65536 (cond t (refused 7 max_lines) (check_from p 0 (line_count p)))
    by true e = (omega arith, omega arith)
    by false e = check_within p 0 (line_count p) 65536 (omega (arith, ltb-false max_lines (line_count p) e))

more_within : (x : Report) → Within 8 65536 x → Within 16 65536 x
more_within (done vs) h = tt
more_within (refused k l) h = (omega (arith, h.0), h.1)

pub send_within : (text : List ℕ) → Within 16 65536 (send_out_check text)
unfolding send_out_check read_text mark_check
send_within text =
    then_within 16 65536 (read_text text).answer _ (more_within (reading max_lines 0 max_lines text).answer (reading_within max_lines 0 max_lines text 65536 (omega arith)))
    (then_within 16 65536 (program_check (read_text text).stored) _ (program_within (read_text text).stored) (marks_within (lines (read_text text).stored)))

-- ---- taking in: 24 and 25, at a line of the text

abbrev pub Above : ℕ → Report → Type 0
Above line (done values) = Unit {0}
Above line (refused k l) = (k ≡ 17 → ⊥) × (l < line)

above_if : (line : ℕ) (t : Bool) (x y : Report) → Above line x → (t ≡ false → Above line y) → Above line (cond t x y)
above_if line true x y a b = a
above_if line false x y a b = b refl

not_17 : (s t : Bool) → ◌≡◌ {A = ℕ} (cond s 24 (cond t 25 0)) 17 → ⊥
not_17 true t e = omega arith
not_17 false true e = omega arith
not_17 false false e = omega arith

line_not_17 : (all s : Seen) (l : TextLine) → line_fault all s l ≡ 17 → ⊥
unfolding line_fault
line_not_17 all s l e = not_17 (holds24 all s l) (holds25 all s l) e

fault_above : (all : Seen) (i : ℕ) (s : Seen) (ls : List TextLine) (line : ℕ) → i + length ls ≤ line → Above line (first_fault all i s ls)
fault_above all i s [] line h = rw (fault-nil all i s) tt
fault_above all i s (l ∷ ls) line h =
    rw (fault-cons all i s l ls)
    (above_if line (eqb (line_fault all s l) 0) _ _ (fault_above all (i + 1) (after s l) ls line (omega arith)) (λ e. (line_not_17 all s l, omega arith)))

onto_long : (b : ℕ) (ps : List (List ℕ)) → length (onto b ps) ≤ suc (length ps)
onto_long b [] = omega arith
onto_long b (p ∷ ps) = omega arith

cut_long : (s : List ℕ) → length (cut_lines s) ≤ length s
unfolding cut_lines
cut_long [] = omega arith
cut_long (b ∷ s) = by (eqb b newline) (cut_long s)
  where
    by : (t : Bool) → length (cut_lines s) ≤ length s → length (cond t ((b ∷ []) ∷ cut_lines s) (onto b (cut_lines s))) ≤ suc (length s)
    by true h = omega arith
    by false h = omega (arith, onto_long b (cut_lines s))

map_long : (ls : List (List ℕ)) → length (map text_line ls) ≡ length ls
map_long [] = refl
map_long (l ∷ ls) = ap suc (map_long ls)

pub take_above : (text : List ℕ) (line : ℕ) → length text ≤ line → Above line (take_in_check text)
unfolding take_in_check text_lines
take_above text line h =
    fault_above (seen_from none_seen (text_lines text)) 0 none_seen (text_lines text) line (omega (arith, map_long (cut_lines text), cut_long text))
