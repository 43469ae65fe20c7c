-- 'Where each check turns a thing down', the mark check: conditions 9 to 16, of which 13 no longer occurs
-- (request 03), and the accepted programs.
-- Assumes nothing.
use Rattle.std.specs.Prelude.{◌≡◌, Bool, true, false, not, cond, ◌&&◌, ◌||◌, List, [], ◌∷◌, ℕ, ◌+◌, ltb, eqb, length}
use Rattle.model.specs.declared.Mark.{Mark}
use Rattle.model.specs.declared.Mark.TheVariants.{Unmarked, Marked}
use Rattle.model.specs.declared.Opcode.{Opcode}
use Rattle.model.specs.declared.Opcode.TheVariants.{Nop, Jmp, Not, Mov, And, Orr, Xor, Lsl, Lsr, Add, Mul, Beq, Bne}
use Rattle.model.specs.declared.Operand.{Operand}
use Rattle.model.specs.declared.Operand.TheVariants.{Empty, Literal, Register, Cell, PublicCell, SensitiveCell, TableCell}
use Rattle.model.specs.declared.Target.{Target}
use Rattle.model.specs.declared.Target.TheVariants.{Empty as NoTarget, Line as ToLine}
use Rattle.model.specs.declared.Line.{Line}
use Rattle.model.specs.Limits.{max_accepted}
use Rattle.model.specs.Answers.{Report, counted, refused, and_then}
use Rattle.model.specs.Places.{kind, kind_of, is_public, is_sensitive}
use Rattle.model.specs.Lines.{AllCorrect}
use Rattle.model.specs.Stored.{lines, program_check}

-- ---- what the conditions ask of an operand, an opcode and a target

-- r0 to r3, also as a base, a cell above 255, or `^`
unfoldable pub is_reserved : Operand → Bool
is_reserved Empty = false
is_reserved (Literal n) = false
is_reserved (Register n) = ltb n 4
is_reserved (Cell n) = ltb 255 n
is_reserved (PublicCell r k) = ltb r 4
is_reserved (SensitiveCell r k) = ltb r 4
is_reserved (TableCell r k) = true

-- r16 to r31 as a base
unfoldable pub has_sensitive_base : Operand → Bool
unfolding kind
has_sensitive_base Empty = false
has_sensitive_base (Literal n) = false
has_sensitive_base (Register n) = false
has_sensitive_base (Cell n) = false
has_sensitive_base (PublicCell r k) = is_sensitive (kind r)
has_sensitive_base (SensitiveCell r k) = is_sensitive (kind r)
has_sensitive_base (TableCell r k) = is_sensitive (kind r)

-- a literal above 1
unfoldable pub is_no_bit : Operand → Bool
is_no_bit Empty = false
is_no_bit (Literal n) = ltb 1 n
is_no_bit (Register n) = false
is_no_bit (Cell n) = false
is_no_bit (PublicCell r k) = false
is_no_bit (SensitiveCell r k) = false
is_no_bit (TableCell r k) = false

-- not, mov, and, orr, xor
unfoldable pub has_macro : Opcode → Bool
has_macro Nop = false
has_macro Jmp = false
has_macro Not = true
has_macro Mov = true
has_macro And = true
has_macro Orr = true
has_macro Xor = true
has_macro Lsl = false
has_macro Lsr = false
has_macro Add = false
has_macro Mul = false
has_macro Beq = false
has_macro Bne = false

-- a target above n
unfoldable pub is_above : ℕ → Target → Bool
is_above n NoTarget = false
is_above n (ToLine t) = ltb n t

abbrev pub is_marked : Mark → Bool
is_marked Unmarked = false
is_marked Marked = true

-- ---- the conditions of a line; n is the line count

unfoldable pub holds10 : Line → Bool
unfolding is_reserved
holds10 l = is_reserved l.destination || is_reserved l.first || is_reserved l.second

unfoldable pub holds11 : Line → Bool
unfolding kind_of
holds11 l = cond (is_marked l.mark) (is_public (kind_of l.destination)) (is_sensitive (kind_of l.destination))

-- u with a sensitive argument
unfoldable pub reads_sensitive : Mark → Operand → Operand → Bool
unfolding kind_of
reads_sensitive m a b = cond (is_marked m) false (is_sensitive (kind_of a) || is_sensitive (kind_of b))

unfoldable pub holds12 : Line → Bool
unfolding reads_sensitive has_sensitive_base
holds12 l = reads_sensitive l.mark l.first l.second
    || (has_sensitive_base l.destination || has_sensitive_base l.first || has_sensitive_base l.second)

unfoldable pub holds14 : Line → Bool
unfolding has_macro
holds14 l = is_marked l.mark && not (has_macro l.opcode)

unfoldable pub holds15 : Line → Bool
unfolding is_no_bit
holds15 l = is_marked l.mark && (is_no_bit l.first || is_no_bit l.second)

unfoldable pub holds16 : ℕ → Line → Bool
unfolding is_above
holds16 n l = is_above n l.target

-- the lowest condition that holds of a line; 0 for none
unfoldable pub mark_fault : ℕ → Line → ℕ
unfolding holds10 holds11 holds12 holds14 holds15 holds16
mark_fault n l =
    cond (holds10 l) 10
    (cond (holds11 l) 11
    (cond (holds12 l) 12
    (cond (holds14 l) 14
    (cond (holds15 l) 15
    (cond (holds16 n l) 16
    0)))))

-- ---- the check of a program

-- the first line of a program of n lines that breaks a condition, counted from i
unfoldable pub first_bad : ℕ → ℕ → List Line → Report
unfolding mark_fault
first_bad n i [] = counted n
first_bad n i (l ∷ ls) = cond (eqb (mark_fault n l) 0) (first_bad n (i + 1) ls) (refused (mark_fault n l) i)

-- 9 more than 1,024 lines, then the first bad line
unfoldable pub marks_of : List Line → Report
unfolding first_bad
marks_of p = cond (ltb max_accepted (length p)) (refused 9 0) (first_bad (length p) 0 p)

-- 7, 3 to 6, then 9 to 16
unfoldable pub mark_check : List ℕ → Report
unfolding program_check marks_of
mark_check p = and_then (program_check p) (marks_of (lines p))

-- a program of correct lines is accepted exactly when none of the conditions 9 to 16 holds
unfoldable pub Accepted : List Line → Type 0
unfolding marks_of
Accepted p = AllCorrect p × (marks_of p ≡ counted (length p))
