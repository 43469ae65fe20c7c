-- The edges that document 01 marks to be proved, in one table with one fact over it, and its printed examples. All by computation.
-- Assumes nothing.
use mathlib.Core.Path.{◌≡◌, refl}
use mathlib.Core.List.{List, [], ◌∷◌}
use Prim.Native.Nat.{ℕ, ◌+◌}
use lib.Count.{ones}
use lib.Dec.{T}
use lib.ListN.{replicate, set}
use Rattle.model.specs.declared.Mark.TheVariants.{Unmarked}
use Rattle.model.specs.declared.Opcode.TheVariants.{Not, Xor, Lsl, Add}
use Rattle.model.specs.declared.Operand.TheVariants.{Empty, Literal, Register, SensitiveCell}
use Rattle.model.specs.declared.Line.{Line}
use Rattle.model.specs.Answers.{counted, halted, outcome}
use Rattle.model.specs.Layouts.{neighbours}
use Rattle.model.specs.Places.{State, address}
use Rattle.model.specs.Stored.{lines_from, operand_of, target_of}
use Rattle.model.specs.Text.{spell_mark, spell_opcode, spell_operand, spell_target, read_outcome}
use Rattle.model.specs.Step.{weight, distance, alu, row, distances, next, after, bus_after}
use Rattle.model.specs.Run.{run_on, run, answer}
use Rattle.model.specs.Code.{code, page, and_table, orr_table, xor_table}
use Rattle.model.specs.Images.{image}
use Rattle.model.specs.Expansion.{marked_line, move, load, flip, write_back, expand}
use Rattle.model.specs.Programs.{expand_prints, trace_prints}
use Rattle.model.proofs.Finite.{Pair, pair, agree}

-- ---- the marked edges

abbrev pub r4_is_1 : State
r4_is_1 = set (replicate 544 0) 4 1

abbrev pub edges : List Pair
edges =
    pair (page neighbours (and_table neighbours + 5)) 1
    ∷ pair (page neighbours (and_table neighbours + 6)) 2
    ∷ pair (page neighbours (orr_table neighbours + 9)) 1
    ∷ pair (page neighbours (xor_table neighbours + 5)) 2
    ∷ pair (page neighbours (xor_table neighbours + 0)) 0
    ∷ pair (code neighbours 0) 2
    ∷ pair (weight 255) 8
    ∷ pair (distance 1 2) 2
    ∷ pair (alu Unmarked Add 200 100) 44
    ∷ pair (alu Unmarked Lsl 128 1) 0
    ∷ pair (weight 261) 3
    ∷ pair (address (SensitiveCell 4 127) r4_is_1) 128
    ∷ []

pub edges_hold : T (agree edges)
unfolding page code ones distance alu address
edges_hold = tt

-- ---- the printed examples: `s,not,r16,r17,,`

abbrev printed : List Line
printed = marked_line Not (Register 16) (Register 17) Empty ∷ []

pub printed-lines : expand neighbours printed ≡
    move (Register 1) (Register 0)
    ∷ move (Register 1) (Register 17)
    ∷ marked_line Xor (Register 1) (Register 1) (Literal 3)
    ∷ move (Register 16) (Register 0)
    ∷ move (Register 16) (Register 1)
    ∷ []
unfolding expand load flip write_back
printed-lines = refl

-- the trace from the image of the all-zero state, and `halted,5`
pub printed_rows : (run (expand neighbours printed) 1000 0 (image neighbours (replicate 544 0))).rows ≡
    (0 ∷ 0 ∷ 0 ∷ 0 ∷ 0 ∷ 0 ∷ 0 ∷ 0 ∷ 0 ∷ [])
    ∷ (1 ∷ 1 ∷ 1 ∷ 0 ∷ 0 ∷ 0 ∷ 0 ∷ 0 ∷ 0 ∷ [])
    ∷ (2 ∷ 1 ∷ 2 ∷ 0 ∷ 0 ∷ 0 ∷ 0 ∷ 0 ∷ 0 ∷ [])
    ∷ (3 ∷ 0 ∷ 1 ∷ 0 ∷ 0 ∷ 0 ∷ 0 ∷ 0 ∷ 0 ∷ [])
    ∷ (4 ∷ 1 ∷ 1 ∷ 0 ∷ 0 ∷ 0 ∷ 0 ∷ 0 ∷ 0 ∷ [])
    ∷ []
unfolding run_on expand image row distances next after bus_after ones load flip write_back
printed_rows = refl

pub printed-answer : answer (expand neighbours printed) (run (expand neighbours printed) 1000 0 (image neighbours (replicate 544 0))) ≡ halted 5 5
unfolding answer run_on expand image row distances next after bus_after ones load flip write_back
printed-answer = refl

-- the line's bytes, and what the two programs print of them, a line of bytes for each
abbrev input : List ℕ
input = 115 ∷ 44 ∷ 110 ∷ 111 ∷ 116 ∷ 44 ∷ 114 ∷ 49 ∷ 54 ∷ 44 ∷ 114 ∷ 49 ∷ 55 ∷ 44 ∷ 44 ∷ 10 ∷ []

pub printed_numbers : read_outcome input (replicate 7 9) ≡ outcome (counted 1) ((1 ∷ 2 ∷ 273 ∷ 274 ∷ 0 ∷ 0 ∷ 9 ∷ []) ∷ [])
unfolding read_outcome spell_mark spell_opcode spell_operand spell_target operand_of target_of
printed_numbers = refl

pub printed_expansion : expand_prints input ≡
    115 ∷ 44 ∷ 109 ∷ 111 ∷ 118 ∷ 44 ∷ 114 ∷ 49 ∷ 44 ∷ 114 ∷ 48 ∷ 44 ∷ 44 ∷ 10 ∷
    115 ∷ 44 ∷ 109 ∷ 111 ∷ 118 ∷ 44 ∷ 114 ∷ 49 ∷ 44 ∷ 114 ∷ 49 ∷ 55 ∷ 44 ∷ 44 ∷ 10 ∷
    115 ∷ 44 ∷ 120 ∷ 111 ∷ 114 ∷ 44 ∷ 114 ∷ 49 ∷ 44 ∷ 114 ∷ 49 ∷ 44 ∷ 35 ∷ 51 ∷ 44 ∷ 10 ∷
    115 ∷ 44 ∷ 109 ∷ 111 ∷ 118 ∷ 44 ∷ 114 ∷ 49 ∷ 54 ∷ 44 ∷ 114 ∷ 48 ∷ 44 ∷ 44 ∷ 10 ∷
    115 ∷ 44 ∷ 109 ∷ 111 ∷ 118 ∷ 44 ∷ 114 ∷ 49 ∷ 54 ∷ 44 ∷ 114 ∷ 49 ∷ 44 ∷ 44 ∷ 10 ∷ []
unfolding expand_prints spell_mark spell_opcode spell_operand spell_target operand_of target_of lines_from load flip write_back
printed_expansion = refl

pub printed_trace : trace_prints input ≡
    48 ∷ 44 ∷ 48 ∷ 44 ∷ 48 ∷ 44 ∷ 48 ∷ 44 ∷ 48 ∷ 44 ∷ 48 ∷ 44 ∷ 48 ∷ 44 ∷ 48 ∷ 44 ∷ 48 ∷ 10 ∷
    49 ∷ 44 ∷ 49 ∷ 44 ∷ 49 ∷ 44 ∷ 48 ∷ 44 ∷ 48 ∷ 44 ∷ 48 ∷ 44 ∷ 48 ∷ 44 ∷ 48 ∷ 44 ∷ 48 ∷ 10 ∷
    50 ∷ 44 ∷ 49 ∷ 44 ∷ 50 ∷ 44 ∷ 48 ∷ 44 ∷ 48 ∷ 44 ∷ 48 ∷ 44 ∷ 48 ∷ 44 ∷ 48 ∷ 44 ∷ 48 ∷ 10 ∷
    51 ∷ 44 ∷ 48 ∷ 44 ∷ 49 ∷ 44 ∷ 48 ∷ 44 ∷ 48 ∷ 44 ∷ 48 ∷ 44 ∷ 48 ∷ 44 ∷ 48 ∷ 44 ∷ 48 ∷ 10 ∷
    52 ∷ 44 ∷ 49 ∷ 44 ∷ 49 ∷ 44 ∷ 48 ∷ 44 ∷ 48 ∷ 44 ∷ 48 ∷ 44 ∷ 48 ∷ 44 ∷ 48 ∷ 44 ∷ 48 ∷ 10 ∷
    104 ∷ 97 ∷ 108 ∷ 116 ∷ 101 ∷ 100 ∷ 44 ∷ 53 ∷ 10 ∷ []
unfolding trace_prints spell_mark spell_opcode spell_operand spell_target operand_of target_of lines_from load flip write_back row distances next after bus_after ones
printed_trace = refl
