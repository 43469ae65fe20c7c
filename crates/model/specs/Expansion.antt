-- 'Code, tables, macros', the macros line for line, a line's part, the starts, the expansion, and condition 17.
-- Assumes nothing.
use Rattle.std.specs.Prelude.{Bool, true, false, cond, ℕ, zero, suc, ◌+◌, ltb, length}
use mathlib.Core.List.{List, [], ◌∷◌, ◌++◌, flat_map}
use Rattle.model.specs.declared.Mark.{Mark}
use Rattle.model.specs.declared.Mark.TheVariants.{Unmarked, Marked}
use Rattle.model.specs.declared.Opcode.{Opcode}
use Rattle.model.specs.declared.Opcode.TheVariants.{Nop, Jmp, Not, Mov, And, Orr, Xor, Lsl, Lsr, Add, Mul, Beq, Bne}
use Rattle.model.specs.declared.Operand.{Operand}
use Rattle.model.specs.declared.Operand.TheVariants.{Empty, Literal, Register, Cell, PublicCell, SensitiveCell, TableCell}
use Rattle.model.specs.declared.Target.{Target}
use Rattle.model.specs.declared.Target.TheVariants.{Empty as NoTarget, Line as ToLine}
use Rattle.model.specs.declared.Line.{Line}
use Rattle.model.specs.declared.Layout.{Layout}
use Rattle.model.specs.Answers.{counted, refused, Outcome, outcome, unless_refused, at_front}
use Rattle.model.specs.Places.{is_public, kind_of}
use Rattle.model.specs.Stored.{codes, line_count, lines}
use Rattle.model.specs.Marks.{mark_check}
use Rattle.model.specs.Layouts.{in_layout}
use Rattle.model.specs.Code.{code, and_table, orr_table, xor_table, code_table}

-- a literal of a marked line, coded
unfoldable pub coded : Layout → Operand → Operand
unfolding code
coded L Empty = Empty
coded L (Literal n) = Literal (code L n)
coded L (Register n) = Register n
coded L (Cell n) = Cell n
coded L (PublicCell r k) = PublicCell r k
coded L (SensitiveCell r k) = SensitiveCell r k
coded L (TableCell r k) = TableCell r k

-- a line of a macro, with two arguments or with one; it carries the mark of the old line
abbrev pub marked_line : Opcode → Operand → Operand → Operand → Line
marked_line op d a b = record { mark = Marked; opcode = op; destination = d; first = a; second = b; target = NoTarget }

abbrev pub move : Operand → Operand → Line
move d a = marked_line Mov d a Empty

-- ---- the pieces of the macros

-- a place precharged, which clears it, and written from an operand
abbrev pub precharged : Operand → Operand → List Line
precharged d a = move d (Register 0) ∷ move d a ∷ []

-- a public place's byte in register n: its lowest bit, and the code of that (request 03)
unfoldable pub code_bit : Bool → ℕ → List Line
code_bit false n = []
code_bit true n = marked_line And (Register n) (Register n) (Literal 1) ∷ move (Register n) (TableCell n code_table) ∷ []

-- register n precharged and loaded; the bit of a public place is coded there
unfoldable pub load : ℕ → Operand → List Line
unfolding code_bit kind_of
load n a = precharged (Register n) a ++ code_bit (is_public (kind_of a)) n

-- the first code shifted to its place in the index: by two bits, or by one where the bits are spaced
unfoldable pub shifts : Bool → List Line
shifts false = marked_line Lsl (Register 1) (Register 1) (Literal 1) ∷ marked_line Lsl (Register 1) (Register 1) (Literal 1) ∷ []
shifts true = marked_line Lsl (Register 1) (Register 1) (Literal 1) ∷ []

-- the first code masked, and shifted
unfoldable pub scale : Layout → List Line
unfolding shifts
scale L = marked_line And (Register 1) (Register 1) (Literal L.mask) ∷ shifts L.spaced

-- the second code masked, and joined to the first
unfoldable pub combine : Layout → List Line
combine L =
    marked_line And (Register 2) (Register 2) (Literal L.mask)
    ∷ marked_line Orr (Register 1) (Register 1) (Register 2)
    ∷ []

-- r3 precharged and loaded from the table that begins at t, and the bus brought back to the table's start (request 07): r0 is 0, and the
-- entry there is 0, so the first of the lines clears r3 and the last r2
unfoldable pub fetch : ℕ → List Line
fetch t =
    move (Register 3) (TableCell 0 t)
    ∷ move (Register 3) (TableCell 1 t)
    ∷ move (Register 2) (TableCell 0 t)
    ∷ []

-- both bits of the code flipped
unfoldable pub flip : Layout → List Line
flip L = marked_line Xor (Register 1) (Register 1) (Literal L.mask) ∷ []

-- the destination precharged, and written from register n
unfoldable pub write_back : ℕ → Operand → List Line
write_back n d = precharged d (Register n)

-- ---- the macros

-- and, orr, xor
unfoldable pub lookup : Layout → ℕ → Operand → Operand → Operand → List Line
lookup L t d a b = load 1 a ++ (scale L ++ (load 2 b ++ (combine L ++ (fetch t ++ write_back 3 d))))

-- not
unfoldable pub negate : Layout → Operand → Operand → List Line
negate L d a = load 1 a ++ (flip L ++ write_back 1 d)

-- mov
unfoldable pub copy : Operand → Operand → List Line
copy d a = load 3 a ++ write_back 3 d

-- the macro of a marked line; the opcodes that no accepted one has give nothing
unfoldable pub macro : Layout → Opcode → Operand → Operand → Operand → List Line
unfolding lookup negate copy
macro L Nop d a b = []
macro L Jmp d a b = []
macro L Not d a b = negate L d a
macro L Mov d a b = copy d a
macro L And d a b = lookup L (and_table L) d a b
macro L Orr d a b = lookup L (orr_table L) d a b
macro L Xor d a b = lookup L (xor_table L) d a b
macro L Lsl d a b = []
macro L Lsr d a b = []
macro L Add d a b = []
macro L Mul d a b = []
macro L Beq d a b = []
macro L Bne d a b = []

-- ---- the expansion

-- a target becomes the start of that line's expansion
unfoldable pub new_target : (ℕ → ℕ) → Target → Target
new_target starts NoTarget = NoTarget
new_target starts (ToLine t) = ToLine (starts t)

abbrev pub retarget : (ℕ → ℕ) → Line → Line
retarget starts l = record { mark = l.mark; opcode = l.opcode; destination = l.destination; first = l.first; second = l.second; target = new_target starts l.target }

-- the part of the expansion that a line becomes: an unmarked line itself, a marked one its macro
unfoldable pub part_of : Layout → Mark → (ℕ → ℕ) → Line → List Line
unfolding macro coded new_target
part_of L Unmarked starts l = retarget starts l ∷ []
part_of L Marked starts l = macro L l.opcode l.destination (coded L l.first) (coded L l.second)

abbrev pub part : Layout → (ℕ → ℕ) → Line → List Line
part L starts l = part_of L l.mark starts l

-- the length of a line's part, which the starts do not change
unfoldable pub size : Layout → Line → ℕ
unfolding part_of
size L l = length (part L (λ t. t) l)

-- a line's start: the sum of the lengths of the parts before it. At and past the line count it is the expansion's end
unfoldable pub start : Layout → List Line → ℕ → ℕ
unfolding size
start L [] i = 0
start L (l ∷ ls) zero = 0
start L (l ∷ ls) (suc i) = size L l + start L ls i

-- the joined list of the parts
unfoldable pub joined : Layout → (ℕ → ℕ) → List Line → List Line
unfolding flat_map part_of
joined L starts ls = flat_map (part L starts) ls

unfoldable pub expand : Layout → List Line → List Line
unfolding joined start
expand L p = joined L (start L p) p

-- lines at the front of a store: 17 where it has room for fewer
unfoldable pub written : List Line → List ℕ → Outcome
unfolding flat_map
written ls out =
    cond (ltb (line_count out) (length ls))
    (outcome (refused 17 0) (out ∷ []))
    (outcome (counted (length ls)) (at_front (flat_map codes ls) out ∷ []))

-- in any layout: the mark check, then 17 fewer lines than the expansion has
unfoldable pub expansion_in : Layout → List ℕ → List ℕ → Outcome
unfolding mark_check expand written
expansion_in L p out = unless_refused (mark_check p) (out ∷ []) (written (expand L (lines p)) out)

-- in the layout that is named; 23 before all else
abbrev pub expand_outcome : ℕ → ℕ → List ℕ → List ℕ → Outcome
expand_outcome position spacing p out = in_layout position spacing (out ∷ []) (λ L. expansion_in L p out)
