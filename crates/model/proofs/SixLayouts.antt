-- Request 04: the six layouts. Their numbers, their tables and lines in them, all by computation; and that a table macro is a line shorter
-- where the bits are spaced. Assumes nothing.
use mathlib.Core.Path.{◌≡◌, refl}
use mathlib.Core.Bool.{Bool, ◌||◌}
use mathlib.Core.List.{List, [], ◌∷◌}
use Prim.Native.Nat.{ℕ, suc, ◌+◌, ◌%◌}
use native.Mathlib.Omega.{arith}
use lib.Dec.{T, eqb}
use lib.ListN.{length}
use Rattle.model.specs.declared.Opcode.TheVariants.{Not, And, Orr, Xor, Lsl}
use Rattle.model.specs.declared.Operand.{Operand}
use Rattle.model.specs.declared.Operand.TheVariants.{Empty, Literal, Register, Cell, PublicCell, TableCell}
use Rattle.model.specs.declared.Layout.{Layout}
use Rattle.model.specs.Answers.{refused, outcome}
use Rattle.model.specs.Step.{alu}
use Rattle.model.specs.Layouts.{layout_of}
use Rattle.model.specs.Code.{code, index, entry, and_table, orr_table, xor_table, page}
use Rattle.model.specs.Images.{to_image_outcome, from_image_outcome}
use Rattle.model.specs.Expansion.{marked_line, move, code_bit, load, scale, combine, fetch, flip, write_back, lookup, expand, expand_outcome}
use Rattle.model.proofs.TestLaws.{all_below}
use Rattle.model.proofs.EachLayout.{for_layouts}
use Rattle.model.proofs.Finite.{Pair, pair, agree}
use Rattle.model.proofs.Lengths.{lookup_pieces, scale_near, scale-spaced}

-- ---- their numbers

abbrev near₁ : Layout
near₁ = layout_of 1 0

abbrev spaced₂ : Layout
spaced₂ = layout_of 2 1

abbrev pub examples : List Pair
examples =
    pair (code near₁ 1) 2
    ∷ pair (code near₁ 0) 4
    ∷ pair near₁.mask 6
    ∷ pair (orr_table near₁) 32
    ∷ pair (xor_table near₁) 64
    ∷ pair (index near₁ 2 4) 12
    ∷ pair (code spaced₂ 1) 4
    ∷ pair (code spaced₂ 0) 16
    ∷ pair spaced₂.mask 20
    ∷ pair (orr_table spaced₂) 64
    ∷ pair (xor_table spaced₂) 128
    ∷ pair (index spaced₂ 4 16) 24
    -- the entries of 1 and 0, of 0 orr 0 and of 1 xor 0, one between them, and the two codes
    ∷ pair (page near₁ (and_table near₁ + 12)) 4
    ∷ pair (page near₁ (and_table near₁ + 13)) 0
    ∷ pair (page near₁ 240) 4
    ∷ pair (page near₁ 241) 2
    ∷ pair (page spaced₂ (orr_table spaced₂ + 48)) 16
    ∷ pair (page spaced₂ (xor_table spaced₂ + 24)) 4
    ∷ pair (page spaced₂ (xor_table spaced₂ + 25)) 0
    ∷ pair (page spaced₂ 240) 16
    ∷ pair (page spaced₂ 241) 4
    ∷ []

pub examples_hold : T (agree examples)
unfolding code page entry alu
examples_hold = tt

-- entries stand 2^p apart, all between is 0: the tables of each of the six have 0 where the place is no multiple of the code of 1
abbrev apart : Layout → Bool
apart L = all_below (λ i. eqb (page L i) 0 || eqb (i % L.one) 0) 240

pub entries-apart : T (for_layouts apart)
unfolding all_below page entry code alu
entries-apart = tt

-- ---- lines in them: literals are coded; the literal 1 of a public bit and of a shift is not

-- `s,xor,@200,#1,r17,` at position 2, spaced: one shift, 13 lines
pub spaced-lines : expand spaced₂ (marked_line Xor (Cell 200) (Literal 1) (Register 17) ∷ []) ≡
    move (Register 1) (Register 0)
    ∷ move (Register 1) (Literal 4)
    ∷ marked_line And (Register 1) (Register 1) (Literal 20)
    ∷ marked_line Lsl (Register 1) (Register 1) (Literal 1)
    ∷ move (Register 2) (Register 0)
    ∷ move (Register 2) (Register 17)
    ∷ marked_line And (Register 2) (Register 2) (Literal 20)
    ∷ marked_line Orr (Register 1) (Register 1) (Register 2)
    ∷ move (Register 3) (TableCell 0 128)
    ∷ move (Register 3) (TableCell 1 128)
    ∷ move (Register 2) (TableCell 0 128)
    ∷ move (Cell 200) (Register 0)
    ∷ move (Cell 200) (Register 3)
    ∷ []
unfolding expand load scale combine fetch write_back
spaced-lines = refl

-- `s,orr,r16,r16,!r4+3,` at position 1, neighbours: two shifts, and the public bit's code from cell 496 on
pub public_lines : expand near₁ (marked_line Orr (Register 16) (Register 16) (PublicCell 4 3) ∷ []) ≡
    move (Register 1) (Register 0)
    ∷ move (Register 1) (Register 16)
    ∷ marked_line And (Register 1) (Register 1) (Literal 6)
    ∷ marked_line Lsl (Register 1) (Register 1) (Literal 1)
    ∷ marked_line Lsl (Register 1) (Register 1) (Literal 1)
    ∷ move (Register 2) (Register 0)
    ∷ move (Register 2) (PublicCell 4 3)
    ∷ marked_line And (Register 2) (Register 2) (Literal 1)
    ∷ move (Register 2) (TableCell 2 240)
    ∷ marked_line And (Register 2) (Register 2) (Literal 6)
    ∷ marked_line Orr (Register 1) (Register 1) (Register 2)
    ∷ move (Register 3) (TableCell 0 32)
    ∷ move (Register 3) (TableCell 1 32)
    ∷ move (Register 2) (TableCell 0 32)
    ∷ move (Register 16) (Register 0)
    ∷ move (Register 16) (Register 3)
    ∷ []
unfolding expand load code_bit scale combine fetch write_back
public_lines = refl

-- `s,not,r16,r17,,` at position 2, spaced
pub not_lines : expand spaced₂ (marked_line Not (Register 16) (Register 17) Empty ∷ []) ≡
    move (Register 1) (Register 0)
    ∷ move (Register 1) (Register 17)
    ∷ marked_line Xor (Register 1) (Register 1) (Literal 20)
    ∷ move (Register 16) (Register 0)
    ∷ move (Register 16) (Register 1)
    ∷ []
unfolding expand load flip write_back
not_lines = refl

-- ---- a table macro is a line shorter where the bits are spaced

pub a_line_shorter : (p t : ℕ) (d a b : Operand) → suc (length (lookup (layout_of p 1) t d a b)) ≡ length (lookup (layout_of p 0) t d a b)
unfolding combine
a_line_shorter p t d a b =
    omega (arith, lookup_pieces (layout_of p 1) t d a b, lookup_pieces (layout_of p 0) t d a b, scale-spaced (layout_of p 1) refl, scale_near (layout_of p 0) refl)

-- ---- 23 before all else: stores too small, a program and states that are none

pub outside_expand : expand_outcome 3 0 (9 ∷ []) (7 ∷ []) ≡ outcome (refused 23 0) ((7 ∷ []) ∷ [])
outside_expand = refl

pub outside_image : to_image_outcome 0 2 (2 ∷ []) (7 ∷ []) ≡ outcome (refused 23 0) ((7 ∷ []) ∷ [])
outside_image = refl

pub outside_back : from_image_outcome 255 255 (2 ∷ []) (7 ∷ []) ≡ outcome (refused 23 0) ((7 ∷ []) ∷ [])
outside_back = refl
