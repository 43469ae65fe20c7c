-- 'Line form' as text: the spelling of a line, and reading and writing. A field is right exactly when it is the spelling of a
-- number of its range. Assumes nothing.
use Rattle.std.specs.Prelude.{Bool, true, false, cond, ◌&&◌, ℕ, zero, suc, ◌+◌, ◌/◌, ◌%◌, ltb, leb, eqb, length}
use mathlib.Core.List.{List, [], ◌∷◌, ◌++◌, flat_map}
use Rattle.std.proofs.Math.Option.{Option, none, some}
use Rattle.model.specs.declared.Mark.{Mark}
use Rattle.model.specs.declared.Mark.TheVariants.{Unmarked, Marked}
use Rattle.model.specs.declared.Opcode.{Opcode}
use Rattle.model.specs.declared.Opcode.TheVariants.{Nop, Jmp, Not, Mov, And, Orr, Xor, Lsl, Lsr, Add, Mul, Beq, Bne}
use Rattle.model.specs.declared.Operand.{Operand}
use Rattle.model.specs.declared.Operand.TheVariants.{Empty, Literal, Register, Cell, PublicCell, SensitiveCell, TableCell}
use Rattle.model.specs.declared.Target.{Target}
use Rattle.model.specs.declared.Target.TheVariants.{Empty as NoTarget, Line as ToLine}
use Rattle.model.specs.declared.Line.{Line}
use Rattle.model.specs.Limits.{line_width, max_lines, line_reach}
use Rattle.model.specs.Answers.{Report, counted, refused, Outcome, outcome, unless_refused, at_front}
use Rattle.model.specs.Stored.{mark_of, opcode_of, operand_of, target_of, marks, opcodes, operands, targets, Field, Parsed, numbers, wrong, parsed, lines, program_check}

-- ---- spelling, in bytes

abbrev pub newline : ℕ
newline = 10

abbrev pub comma : ℕ
comma = 44

-- the digit of n at a power of ten, where n is not below it
unfoldable pub digit_at : ℕ → ℕ → List ℕ
digit_at p n = cond (ltb n p) [] ((48 + n / p % 10) ∷ [])

-- a number below 100,000 in decimal, with no leading zeros
unfoldable pub decimal : ℕ → List ℕ
unfolding digit_at
decimal n = digit_at 10000 n ++ (digit_at 1000 n ++ (digit_at 100 n ++ (digit_at 10 n ++ ((48 + n % 10) ∷ []))))

-- a sign, then `rN+k`
unfoldable pub indirect : ℕ → ℕ → ℕ → List ℕ
unfolding decimal
indirect sign r k = sign ∷ 114 ∷ (decimal r ++ (43 ∷ decimal k))

-- `u` and `s`
unfoldable pub spell_mark : Mark → List ℕ
spell_mark Unmarked = 117 ∷ []
spell_mark Marked = 115 ∷ []

-- `nop`, `jmp`, `not`, `mov`, `and`, `orr`, `xor`, `lsl`, `lsr`, `add`, `mul`, `beq`, `bne`
unfoldable pub spell_opcode : Opcode → List ℕ
spell_opcode Nop = 110 ∷ 111 ∷ 112 ∷ []
spell_opcode Jmp = 106 ∷ 109 ∷ 112 ∷ []
spell_opcode Not = 110 ∷ 111 ∷ 116 ∷ []
spell_opcode Mov = 109 ∷ 111 ∷ 118 ∷ []
spell_opcode And = 97 ∷ 110 ∷ 100 ∷ []
spell_opcode Orr = 111 ∷ 114 ∷ 114 ∷ []
spell_opcode Xor = 120 ∷ 111 ∷ 114 ∷ []
spell_opcode Lsl = 108 ∷ 115 ∷ 108 ∷ []
spell_opcode Lsr = 108 ∷ 115 ∷ 114 ∷ []
spell_opcode Add = 97 ∷ 100 ∷ 100 ∷ []
spell_opcode Mul = 109 ∷ 117 ∷ 108 ∷ []
spell_opcode Beq = 98 ∷ 101 ∷ 113 ∷ []
spell_opcode Bne = 98 ∷ 110 ∷ 101 ∷ []

-- nothing, `#n`, `rN`, `@n`, `!rN+k`, `%rN+k`, `^rN+k`
unfoldable pub spell_operand : Operand → List ℕ
unfolding decimal indirect
spell_operand Empty = []
spell_operand (Literal n) = 35 ∷ decimal n
spell_operand (Register n) = 114 ∷ decimal n
spell_operand (Cell n) = 64 ∷ decimal n
spell_operand (PublicCell r k) = indirect 33 r k
spell_operand (SensitiveCell r k) = indirect 37 r k
spell_operand (TableCell r k) = indirect 94 r k

unfoldable pub spell_target : Target → List ℕ
unfolding decimal
spell_target NoTarget = []
spell_target (ToLine t) = decimal t

-- six fields parted by five commas, ended by a newline
unfoldable pub spell_line : Line → List ℕ
unfolding spell_mark spell_opcode spell_operand spell_target
spell_line l =
    spell_mark l.mark ++ (comma ∷ (spell_opcode l.opcode ++ (comma ∷ (spell_operand l.destination ++ (comma ∷ (spell_operand l.first
    ++ (comma ∷ (spell_operand l.second ++ (comma ∷ (spell_target l.target ++ (newline ∷ [])))))))))))

-- ---- reading

abbrev pub same_bytes : List ℕ → List ℕ → Bool
same_bytes [] [] = true
same_bytes [] (y ∷ ys) = false
same_bytes (x ∷ xs) [] = false
same_bytes (x ∷ xs) (y ∷ ys) = eqb x y && same_bytes xs ys

-- the first of n numbers from k on whose spelling is the text
unfoldable pub spelled_from : (ℕ → List ℕ) → ℕ → ℕ → List ℕ → Option ℕ
spelled_from spell k zero text = none
spelled_from spell k (suc n) text = let later = spelled_from spell (k + 1) n text in cond (same_bytes (spell k) text) (some k) later

-- a field of text, of which there are n spellings
abbrev pub text_field : (ℕ → List ℕ) → ℕ → List ℕ → Field
text_field spell n text = record { filled = ltb 0 (length text); number = spelled_from spell 0 n text }

abbrev pub mark_field : List ℕ → Field
mark_field text = text_field (λ n. spell_mark (mark_of n)) marks text

abbrev pub opcode_field : List ℕ → Field
opcode_field text = text_field (λ n. spell_opcode (opcode_of n)) opcodes text

abbrev pub operand_field : List ℕ → Field
operand_field text = text_field (λ n. spell_operand (operand_of n)) operands text

abbrev pub target_field : List ℕ → Field
target_field text = text_field (λ n. spell_target (target_of n)) targets text

-- the bytes before the first c, and those after it; all of them, and none, where there is no c
unfoldable pub up_to : ℕ → List ℕ → List ℕ
up_to c [] = []
up_to c (b ∷ s) = cond (eqb b c) [] (b ∷ up_to c s)

unfoldable pub past : ℕ → List ℕ → List ℕ
past c [] = []
past c (b ∷ s) = cond (eqb b c) s (past c s)

-- how often c stands there
unfoldable pub count_of : ℕ → List ℕ → ℕ
count_of c [] = 0
count_of c (b ∷ s) = cond (eqb b c) (suc (count_of c s)) (count_of c s)

-- what stands after n commas
abbrev pub skip : ℕ → List ℕ → List ℕ
skip zero s = s
skip (suc n) s = skip n (past comma s)

-- a line without its newline: 2 not five commas, then 3 to 6
unfoldable pub parsed_text : List ℕ → Parsed
unfolding count_of up_to past spelled_from parsed
parsed_text s =
    cond (eqb (count_of comma s) 5)
    (parsed (mark_field (up_to comma s)) (opcode_field (up_to comma (skip 1 s))) (operand_field (up_to comma (skip 2 s)))
    (operand_field (up_to comma (skip 3 s))) (operand_field (up_to comma (skip 4 s))) (target_field (skip 5 s)))
    (wrong 2)

-- the line at the front of a text: 1 no newline in its first 41 bytes, or before the text ends
unfoldable pub front_line : List ℕ → Parsed
unfolding parsed_text up_to
front_line text =
    cond (leb line_reach (length (up_to newline text))) (wrong 1)
    (cond (leb (length text) (length (up_to newline text))) (wrong 1)
    (parsed_text (up_to newline text)))

-- the answer of a reading, and the numbers of the lines read
pub record Reading : Type 0 where
  pub answer : Report
  pub stored : List ℕ

abbrev pub ends : Report → Reading
ends answer = record { answer = answer; stored = [] }

abbrev pub reads : List ℕ → Reading → Reading
reads line next = record { answer = next.answer; stored = line ++ next.stored }

-- by what the line at the front is: refused at line n, or its numbers and then the rest
abbrev pub then_reads : Parsed → ℕ → Reading → Reading
then_reads (numbers line) n next = reads line next
then_reads (wrong k) n next = ends (refused k n)

-- n lines are read, room for so many is lent, and so many more may come: 7, 8, then 1 to 6
unfoldable pub reading : ℕ → ℕ → ℕ → List ℕ → Reading
unfolding front_line past
reading zero n room text = cond (eqb (length text) 0) (ends (counted n)) (ends (refused 7 n))
reading (suc more) n room text =
    let rest = reading more (n + 1) room (past newline text) in
    cond (eqb (length text) 0) (ends (counted n))
    (cond (leb room n) (ends (refused 8 n))
    (then_reads (front_line text) n rest))

-- reading a text into a store of lines
unfoldable pub read_outcome : List ℕ → List ℕ → Outcome
unfolding reading
read_outcome text store =
    let r = reading max_lines 0 (length store / line_width) text in
    outcome r.answer (at_front r.stored store ∷ [])

-- ---- writing

unfoldable pub text_of : List ℕ → List ℕ
unfolding flat_map spell_line
text_of p = flat_map spell_line (lines p)

-- a text at the front of a store: 17 where it has fewer bytes
unfoldable pub fitted : List ℕ → List ℕ → Outcome
fitted text out =
    cond (ltb (length out) (length text))
    (outcome (refused 17 0) (out ∷ []))
    (outcome (counted (length text)) (at_front text out ∷ []))

-- 7, 3 to 6, then 17 fewer bytes than the text has
unfoldable pub write_outcome : List ℕ → List ℕ → Outcome
unfolding program_check text_of fitted
write_outcome p out = unless_refused (program_check p) (out ∷ []) (fitted (text_of p) out)
