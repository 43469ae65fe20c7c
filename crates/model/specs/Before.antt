-- Request 03, 'Programs accepted before expand as before': the macros, the expansion and the acceptance of document 01, as they were before a
-- public bit could stand in a marked line, and the claim. Request 07 changes a line of the table macro and adds one, with or without public bits,
-- so the macro stands here with both; those of not and mov are document 01's. Assumes nothing.
use Rattle.std.specs.Prelude.{◌≡◌, Bool, not, ◌&&◌, ◌||◌, ℕ, zero, suc, ◌+◌, ◌≤◌, T, length}
use mathlib.Core.List.{List, [], ◌∷◌, flat_map}
use Rattle.model.specs.declared.Mark.{Mark}
use Rattle.model.specs.declared.Mark.TheVariants.{Unmarked, Marked}
use Rattle.model.specs.declared.Opcode.{Opcode}
use Rattle.model.specs.declared.Opcode.TheVariants.{Nop, Jmp, Not, Mov, And, Orr, Xor, Lsl, Lsr, Add, Mul, Beq, Bne}
use Rattle.model.specs.declared.Operand.{Operand}
use Rattle.model.specs.declared.Operand.TheVariants.{Literal, Register, TableCell}
use Rattle.model.specs.declared.Line.{Line}
use Rattle.model.specs.Limits.{max_accepted}
use Rattle.model.specs.Answers.{counted}
use Rattle.model.specs.Places.{kind_of, is_public}
use Rattle.model.specs.Lines.{AllCorrect, Every}
use Rattle.model.specs.Stored.{line_count, lines, program_check}
use Rattle.model.specs.Layouts.{neighbours}
use Rattle.model.specs.Marks.{is_marked, is_above, holds10, holds11, holds12, holds14, holds15, holds16, Accepted}
use Rattle.model.specs.Expansion.{coded, marked_line, move, retarget, expand, written, expand_outcome}

-- ---- the macros of document 01, line for line

-- and, orr, xor, 14 lines, r3's precharge and the line after the lookup as request 07 has them
unfoldable pub lookup_before : ℕ → Operand → Operand → Operand → List Line
lookup_before t d a b =
    move (Register 1) (Register 0)
    ∷ move (Register 1) a
    ∷ marked_line And (Register 1) (Register 1) (Literal 3)
    ∷ marked_line Lsl (Register 1) (Register 1) (Literal 1)
    ∷ marked_line Lsl (Register 1) (Register 1) (Literal 1)
    ∷ move (Register 2) (Register 0)
    ∷ move (Register 2) b
    ∷ marked_line And (Register 2) (Register 2) (Literal 3)
    ∷ marked_line Orr (Register 1) (Register 1) (Register 2)
    ∷ move (Register 3) (TableCell 0 t)
    ∷ move (Register 3) (TableCell 1 t)
    ∷ move (Register 2) (TableCell 0 t)
    ∷ move d (Register 0)
    ∷ move d (Register 3)
    ∷ []

-- not, 5 lines
unfoldable pub negate_before : Operand → Operand → List Line
negate_before d a =
    move (Register 1) (Register 0)
    ∷ move (Register 1) a
    ∷ marked_line Xor (Register 1) (Register 1) (Literal 3)
    ∷ move d (Register 0)
    ∷ move d (Register 1)
    ∷ []

-- mov, 4 lines
unfoldable pub copy_before : Operand → Operand → List Line
copy_before d a =
    move (Register 3) (Register 0)
    ∷ move (Register 3) a
    ∷ move d (Register 0)
    ∷ move d (Register 3)
    ∷ []

-- the macro of a marked line, by its opcode, the tables at 256, 272 and 288
abbrev pub Macros : Type 0
Macros = Opcode → Operand → Operand → Operand → List Line

unfoldable pub macro_by : (ℕ → Operand → Operand → Operand → List Line) → (Operand → Operand → List Line) → (Operand → Operand → List Line) → Macros
macro_by lookup negate copy Nop d a b = []
macro_by lookup negate copy Jmp d a b = []
macro_by lookup negate copy Not d a b = negate d a
macro_by lookup negate copy Mov d a b = copy d a
macro_by lookup negate copy And d a b = lookup 0 d a b
macro_by lookup negate copy Orr d a b = lookup 16 d a b
macro_by lookup negate copy Xor d a b = lookup 32 d a b
macro_by lookup negate copy Lsl d a b = []
macro_by lookup negate copy Lsr d a b = []
macro_by lookup negate copy Add d a b = []
macro_by lookup negate copy Mul d a b = []
macro_by lookup negate copy Beq d a b = []
macro_by lookup negate copy Bne d a b = []

abbrev pub macro_before : Macros
macro_before op d a b = macro_by lookup_before negate_before copy_before op d a b

-- ---- its expansion, of any macros that are spelt out, and of what a marked line's arguments become in them

unfoldable pub part_by : Macros → (Operand → Operand) → Mark → (ℕ → ℕ) → Line → List Line
part_by macros become Unmarked starts l = retarget starts l ∷ []
part_by macros become Marked starts l = macros l.opcode l.destination (become l.first) (become l.second)

unfoldable pub start_by : Macros → (Operand → Operand) → List Line → ℕ → ℕ
unfolding part_by
start_by macros become [] i = 0
start_by macros become (l ∷ ls) zero = 0
start_by macros become (l ∷ ls) (suc i) = length (part_by macros become l.mark (λ t. t) l) + start_by macros become ls i

unfoldable pub expand_by : Macros → (Operand → Operand) → List Line → List Line
unfolding part_by start_by flat_map
expand_by macros become p = flat_map (λ l. part_by macros become l.mark (start_by macros become p) l) p

abbrev pub expand_before : List Line → List Line
expand_before p = expand_by macro_before (coded neighbours) p

-- ---- its accepted programs

-- 13: s with a public place as argument
unfoldable pub holds13 : Line → Bool
unfolding kind_of
holds13 l = is_marked l.mark && (is_public (kind_of l.first) || is_public (kind_of l.second))

-- the greatest target that a correct line had
abbrev pub targets_before : ℕ
targets_before = 16384

-- a test that holds of no line
abbrev pub Never : (Line → Bool) → List Line → Type 0
Never f = Every (λ l. T (not (f l)))

-- none of the conditions of a line held, n being the line count
abbrev pub NoneHeld : ℕ → Line → Type 0
NoneHeld n l = T (not (holds10 l)) × T (not (holds11 l)) × T (not (holds12 l)) × T (not (holds13 l)) × T (not (holds14 l)) × T (not (holds15 l)) × T (not (holds16 n l))

-- a program of correct lines of which none of the conditions 9 to 16 held
pub record AcceptedBefore (p : List Line) : Type 0 where
  pub right : AllCorrect p
  pub targets : Never (λ l. is_above targets_before l.target) p
  pub few : length p ≤ max_accepted
  pub none : Every (NoneHeld (length p)) p

-- ---- the claim

-- these programs are those accepted now of which 13 would hold in no line; they expand as before, as does every program of which 13 would
-- hold in no line, accepted or not; so the expander answers what it answered
pub record AsBefore : Type 0 where
  pub accepted : (p : List Line) → AcceptedBefore p → Accepted p × Never holds13 p
  pub were_accepted : (p : List Line) → Accepted p → Never holds13 p → AcceptedBefore p
  pub expands : (p : List Line) → Never holds13 p → expand neighbours p ≡ expand_before p
  pub answers : (p out : List ℕ) → program_check p ≡ counted (line_count p) → AcceptedBefore (lines p) → expand_outcome 0 0 p out ≡ written (expand_before (lines p)) out
