-- Request 03: a public place in a marked line means its lowest bit. Its examples, all by computation. Assumes nothing.
use mathlib.Core.Path.{◌≡◌, refl}
use mathlib.Core.List.{List, [], ◌∷◌}
use lib.Dec.{T}
use lib.ListN.{replicate, set}
use Rattle.model.specs.declared.Mark.TheVariants.{Unmarked, Marked}
use Rattle.model.specs.declared.Opcode.TheVariants.{Not, And, Orr, Xor, Lsl, Beq}
use Rattle.model.specs.declared.Operand.TheVariants.{Empty, Literal, Register, Cell, PublicCell, SensitiveCell, TableCell}
use Rattle.model.specs.declared.Target.TheVariants.{Line as ToLine}
use Rattle.model.specs.Layouts.{neighbours}
use Rattle.model.specs.Places.{State, address, value}
use Rattle.model.specs.Step.{meaning, argument, result, next}
use Rattle.model.specs.Code.{page, code}
use Rattle.model.specs.Marks.{mark_fault}
use Rattle.model.specs.Expansion.{marked_line, move, code_bit, load, scale, combine, fetch, flip, write_back, expand}
use Rattle.model.proofs.Acceptance.{mk}
use Rattle.model.proofs.Finite.{Pair, pair, agree}

-- ---- what an argument means

-- 255 in r3, r4, r15 and r16, and at both ends of the public cells and past them
abbrev full : State
full = set (set (set (set (set (set (set (replicate 544 0) 3 255) 4 255) 15 255) 16 255) 32 255) 159 255) 160 255

abbrev pub examples : List Pair
examples =
    pair (argument Marked (Register 3) full) 255
    ∷ pair (argument Marked (Register 4) full) 1
    ∷ pair (argument Marked (Register 15) full) 1
    ∷ pair (argument Marked (Register 16) full) 255
    ∷ pair (argument Marked (Cell 0) full) 1
    ∷ pair (argument Marked (Cell 127) full) 1
    ∷ pair (argument Marked (Cell 128) full) 255
    ∷ pair (argument Marked (PublicCell 4 1) full) 1
    ∷ pair (argument Marked (SensitiveCell 4 1) full) 255
    ∷ pair (argument Marked (Literal 255) full) 255
    ∷ pair (argument Unmarked (Register 4) full) 255
    -- under every opcode: a shift by the lowest bit of r4, and a branch that compares it with a literal, which is read whole
    ∷ pair (result (marked_line Lsl (Register 16) (Literal 3) (Register 4)) full) 6
    ∷ pair (next (mk Marked Beq Empty (Register 4) (Literal 1) (ToLine 9)) 0 full) 9
    ∷ pair (next (mk Marked Beq Empty (Register 4) (Literal 255) (ToLine 9)) 0 full) 1
    -- a base is read whole
    ∷ pair (address (PublicCell 4 0) full) 127
    -- the codes in the table page, at cells 496 and 497
    ∷ pair (page neighbours 239) 0
    ∷ pair (page neighbours 240) 2
    ∷ pair (page neighbours 241) 1
    ∷ pair (page neighbours 242) 0
    -- 13 no longer occurs: a public argument passes, and a marked branch falls to 14
    ∷ pair (mark_fault 1 (marked_line Xor (Register 16) (Register 16) (Register 4))) 0
    ∷ pair (mark_fault 1 (mk Marked Beq Empty (Register 4) (Register 5) (ToLine 0))) 14
    ∷ []

pub examples_hold : T (agree examples)
unfolding argument meaning value address result next page code mark_fault
examples_hold = tt

-- ---- the lines of `s,xor,r16,r16,r4,`, of `s,not,r16,@9,,` and of `s,mov,r16,!r4+3,,`

pub xor_lines : expand neighbours (marked_line Xor (Register 16) (Register 16) (Register 4) ∷ []) ≡
    move (Register 1) (Register 0)
    ∷ move (Register 1) (Register 16)
    ∷ marked_line And (Register 1) (Register 1) (Literal 3)
    ∷ marked_line Lsl (Register 1) (Register 1) (Literal 1)
    ∷ marked_line Lsl (Register 1) (Register 1) (Literal 1)
    ∷ move (Register 2) (Register 0)
    ∷ move (Register 2) (Register 4)
    ∷ marked_line And (Register 2) (Register 2) (Literal 1)
    ∷ move (Register 2) (TableCell 2 240)
    ∷ marked_line And (Register 2) (Register 2) (Literal 3)
    ∷ marked_line Orr (Register 1) (Register 1) (Register 2)
    ∷ move (Register 3) (TableCell 0 32)
    ∷ move (Register 3) (TableCell 1 32)
    ∷ move (Register 2) (TableCell 0 32)
    ∷ move (Register 16) (Register 0)
    ∷ move (Register 16) (Register 3)
    ∷ []
unfolding expand load code_bit scale combine fetch write_back
xor_lines = refl

pub not_lines : expand neighbours (marked_line Not (Register 16) (Cell 9) Empty ∷ []) ≡
    move (Register 1) (Register 0)
    ∷ move (Register 1) (Cell 9)
    ∷ marked_line And (Register 1) (Register 1) (Literal 1)
    ∷ move (Register 1) (TableCell 1 240)
    ∷ marked_line Xor (Register 1) (Register 1) (Literal 3)
    ∷ move (Register 16) (Register 0)
    ∷ move (Register 16) (Register 1)
    ∷ []
unfolding expand load code_bit flip write_back
not_lines = refl

pub mov_lines : expand neighbours (move (Register 16) (PublicCell 4 3) ∷ []) ≡
    move (Register 3) (Register 0)
    ∷ move (Register 3) (PublicCell 4 3)
    ∷ marked_line And (Register 3) (Register 3) (Literal 1)
    ∷ move (Register 3) (TableCell 3 240)
    ∷ move (Register 16) (Register 0)
    ∷ move (Register 16) (Register 3)
    ∷ []
unfolding expand load code_bit write_back
mov_lines = refl
