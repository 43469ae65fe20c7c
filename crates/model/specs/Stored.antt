-- 'Line form', stored programs: a line as six numbers in the order of the text's fields, and the check of a whole program, 7 and 3 to 6.
-- docs/STORED-LINES.md lays the numbers down. Assumes nothing.
use Rattle.std.specs.Prelude.{Bool, cond, ◌&&◌, List, [], ◌∷◌, ℕ, zero, suc, ◌+◌, ◌-◌, ◌*◌, ◌/◌, ◌%◌, ltb, eqb, length, get_or}
use Rattle.std.specs.Bool.{beq}
use Rattle.std.proofs.Math.Option.{Option, none, some}
use Rattle.model.specs.declared.Mark.{Mark}
use Rattle.model.specs.declared.Mark.TheVariants.{Unmarked, Marked}
use Rattle.model.specs.declared.Opcode.{Opcode}
use Rattle.model.specs.declared.Opcode.TheVariants.{Nop, Jmp, Not, Mov, And, Orr, Xor, Lsl, Lsr, Add, Mul, Beq, Bne}
use Rattle.model.specs.declared.Operand.{Operand}
use Rattle.model.specs.declared.Operand.TheVariants.{Empty, Literal, Register, Cell, PublicCell, SensitiveCell, TableCell}
use Rattle.model.specs.declared.Target.{Target}
use Rattle.model.specs.declared.Target.TheVariants.{Empty as NoTarget, Line as ToLine}
use Rattle.model.specs.declared.Line.{Line}
use Rattle.model.specs.Limits.{line_width, max_lines}
use Rattle.model.specs.Answers.{Report, counted, refused}
use Rattle.model.specs.Lines.{Filled, filled, fills, is_literal}

-- ---- the coding: an empty field is 0; each form of operand has a range of numbers, which begins at

abbrev pub literals : ℕ
literals = 1

abbrev pub registers : ℕ
registers = 257

abbrev pub cells : ℕ
cells = 289

abbrev pub publics : ℕ
publics = 801

abbrev pub sensitives : ℕ
sensitives = 4897

abbrev pub tables : ℕ
tables = 8993

-- how many numbers there are for a mark, an opcode, an operand and a target
abbrev pub marks : ℕ
marks = 2

abbrev pub opcodes : ℕ
opcodes = 13

abbrev pub operands : ℕ
operands = 17185

abbrev pub targets : ℕ
targets = max_lines + 2

-- from a line to its numbers
abbrev pub mark_code : Mark → ℕ
mark_code Unmarked = 0
mark_code Marked = 1

abbrev pub opcode_code : Opcode → ℕ
opcode_code Nop = 0
opcode_code Jmp = 1
opcode_code Not = 2
opcode_code Mov = 3
opcode_code And = 4
opcode_code Orr = 5
opcode_code Xor = 6
opcode_code Lsl = 7
opcode_code Lsr = 8
opcode_code Add = 9
opcode_code Mul = 10
opcode_code Beq = 11
opcode_code Bne = 12

abbrev pub operand_code : Operand → ℕ
operand_code Empty = 0
operand_code (Literal n) = literals + n
operand_code (Register n) = registers + n
operand_code (Cell n) = cells + n
operand_code (PublicCell r k) = publics + 128 * r + k
operand_code (SensitiveCell r k) = sensitives + 128 * r + k
operand_code (TableCell r k) = tables + 256 * r + k

abbrev pub target_code : Target → ℕ
target_code NoTarget = 0
target_code (ToLine t) = 1 + t

abbrev pub codes : Line → List ℕ
codes l = mark_code l.mark ∷ opcode_code l.opcode ∷ operand_code l.destination
    ∷ operand_code l.first ∷ operand_code l.second ∷ target_code l.target ∷ []

-- from numbers to a line; a number out of range gives some field too
abbrev pub mark_of : ℕ → Mark
mark_of n = cond (eqb n 0) Unmarked Marked

abbrev pub opcode_of : ℕ → Opcode
opcode_of n = get_or (Nop ∷ Jmp ∷ Not ∷ Mov ∷ And ∷ Orr ∷ Xor ∷ Lsl ∷ Lsr ∷ Add ∷ Mul ∷ Beq ∷ Bne ∷ []) n Nop

unfoldable pub operand_of : ℕ → Operand
operand_of n =
    cond (ltb n literals) Empty
    (cond (ltb n registers) (Literal (n - literals))
    (cond (ltb n cells) (Register (n - registers))
    (cond (ltb n publics) (Cell (n - cells))
    (cond (ltb n sensitives) (PublicCell ((n - publics) / 128) ((n - publics) % 128))
    (cond (ltb n tables) (SensitiveCell ((n - sensitives) / 128) ((n - sensitives) % 128))
    (TableCell ((n - tables) / 256) ((n - tables) % 256)))))))

unfoldable pub target_of : ℕ → Target
target_of n = cond (eqb n 0) NoTarget (ToLine (n - 1))

abbrev pub line_of : ℕ → ℕ → ℕ → ℕ → ℕ → ℕ → Line
line_of m o d a b t = record {
  mark = mark_of m;
  opcode = opcode_of o;
  destination = operand_of d;
  first = operand_of a;
  second = operand_of b;
  target = target_of t;
}

-- ---- conditions 3 to 6, for stored numbers and for text alike

-- a field: whether it is filled, and its number where it is right
pub record Field : Type 0 where
  pub filled : Bool
  pub number : Option ℕ

-- the six numbers of a line, or the condition that holds
pub data Parsed : Type 0 where
  numbers : List ℕ → Parsed
  wrong : ℕ → Parsed

abbrev pub or_wrong : ℕ → Option ℕ → (ℕ → Parsed) → Parsed
or_wrong k (some n) next = next n
or_wrong k none next = wrong k

abbrev pub same_filled : Filled → Filled → Bool
same_filled x y = beq x.destination y.destination && beq x.first y.first
    && beq x.second y.second && beq x.target y.target

abbrev pub no_literal : Option ℕ → Option ℕ
no_literal none = none
no_literal (some n) = cond (is_literal (operand_of n)) none (some n)

-- 3 mark, 4 opcode, 5 a field filled that must be empty or empty that must be filled, 6 operands and target, a literal as destination
unfoldable pub parsed : Field → Field → Field → Field → Field → Field → Parsed
unfolding fills operand_of is_literal
parsed m o d a b t =
    or_wrong 3 m.number (λ mark.
    or_wrong 4 o.number (λ opcode.
    cond (same_filled (fills (opcode_of opcode)) (filled d.filled a.filled b.filled t.filled))
    (or_wrong 6 (no_literal d.number) (λ destination.
    or_wrong 6 a.number (λ first.
    or_wrong 6 b.number (λ second.
    or_wrong 6 t.number (λ target.
    numbers (mark ∷ opcode ∷ destination ∷ first ∷ second ∷ target ∷ []))))))
    (wrong 5)))

-- a stored number, of which there are n
abbrev pub stored_field : ℕ → ℕ → Field
stored_field n k = record { filled = ltb 0 k; number = cond (ltb k n) (some k) none }

-- six stored numbers
abbrev pub parsed_numbers : ℕ → ℕ → ℕ → ℕ → ℕ → ℕ → Parsed
parsed_numbers m o d a b t =
    parsed (stored_field marks m) (stored_field opcodes o) (stored_field operands d) (stored_field operands a) (stored_field operands b) (stored_field targets t)

-- the condition that six numbers break; 0 for none
abbrev pub fault : Parsed → ℕ
fault (numbers l) = 0
fault (wrong k) = k

-- ---- a whole stored program

-- the lines of a stored program; a remainder too short for a line is no part of it
abbrev pub line_count : List ℕ → ℕ
line_count p = length p / line_width

-- a function of six numbers at those of line i
abbrev pub at_line {ℓ} : {A : Type ℓ} → (ℕ → ℕ → ℕ → ℕ → ℕ → ℕ → A) → List ℕ → ℕ → A
at_line f p i = f (get_or p (line_width * i) 0) (get_or p (line_width * i + 1) 0) (get_or p (line_width * i + 2) 0)
    (get_or p (line_width * i + 3) 0) (get_or p (line_width * i + 4) 0) (get_or p (line_width * i + 5) 0)

abbrev pub line_at : List ℕ → ℕ → Line
line_at p i = at_line line_of p i

abbrev pub fault_at : List ℕ → ℕ → ℕ
fault_at p i = fault (at_line parsed_numbers p i)

-- n lines from line i on
unfoldable pub lines_from : List ℕ → ℕ → ℕ → List Line
unfolding operand_of target_of
lines_from p i zero = []
lines_from p i (suc n) = line_at p i ∷ lines_from p (i + 1) n

abbrev pub lines : List ℕ → List Line
lines p = lines_from p 0 (line_count p)

-- the lowest of n lines from line i on whose numbers are no line
unfoldable pub check_from : List ℕ → ℕ → ℕ → Report
unfolding parsed
check_from p i zero = counted (line_count p)
check_from p i (suc n) = cond (eqb (fault_at p i) 0) (check_from p (i + 1) n) (refused (fault_at p i) i)

-- 7 too many lines, then 3 to 6
unfoldable pub program_check : List ℕ → Report
unfolding check_from
program_check p = cond (ltb max_lines (line_count p)) (refused 7 max_lines) (check_from p 0 (line_count p))
