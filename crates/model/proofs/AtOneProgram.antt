-- Both claims of demand 3, computed at one small program for all its sensitive bits in each of the six layouts: an instance that the general proof does not lean
-- on, and that an edit of a macro breaks where it changes what the macro shows or leaves. Assumes nothing.
use mathlib.Core.Path.{refl}
use mathlib.Core.Bool.{Bool, true, false, ◌&&◌}
use mathlib.Core.List.{List, [], ◌∷◌}
use Prim.Native.Nat.{ℕ}
use lib.Count.{ones}
use lib.Dec.{T}
use lib.ListN.{replicate, set, drop}
use Rattle.model.specs.declared.Mark.TheVariants.{Unmarked}
use Rattle.model.specs.declared.Opcode.TheVariants.{Not, Mov, And, Orr, Xor, Beq}
use Rattle.model.specs.declared.Operand.TheVariants.{Empty, Literal, Register, Cell, PublicCell}
use Rattle.model.specs.declared.Target.TheVariants.{Empty as NoTarget, Line as ToLine}
use Rattle.model.specs.declared.Line.{Line}
use Rattle.model.specs.declared.Layout.{Layout}
use Rattle.model.specs.Places.{State}
use Rattle.model.specs.Lines.{correct}
use Rattle.model.specs.Text.{same_bytes}
use Rattle.model.specs.Step.{Row, row, distances, next, after, bus_after}
use Rattle.model.specs.Run.{Ran, run_on, run}
use Rattle.model.specs.Images.{image}
use Rattle.model.specs.Expansion.{marked_line, move, load, scale, combine, fetch, flip, write_back, start, expand}
use Rattle.model.specs.Marks.{Accepted}
use Rattle.model.proofs.TestLaws.{all_below}
use Rattle.model.proofs.EachLayout.{for_layouts}

-- ---- a program with every macro, where the destination is an argument, with a public literal, public bits, a cell behind a lookup, and a
-- target behind a macro

abbrev small : List Line
small =
    record { mark = Unmarked; opcode = Mov; destination = Register 4; first = Literal 5; second = Empty; target = NoTarget }
    ∷ marked_line And (Register 16) (Register 16) (Register 17)
    ∷ marked_line Orr (Register 17) (Register 17) (Register 16)
    ∷ record { mark = Unmarked; opcode = Beq; destination = Empty; first = Register 4; second = Literal 5; target = ToLine 5 }
    ∷ move (Register 16) (Literal 0)
    ∷ marked_line Xor (Register 16) (Register 16) (Register 17)
    ∷ marked_line Not (Register 16) (Register 16) Empty
    ∷ move (Register 17) (Register 17)
    ∷ marked_line Xor (Register 16) (Register 16) (Register 4)
    ∷ marked_line Orr (Register 17) (PublicCell 4 3) (Register 16)
    ∷ marked_line And (Cell 200) (Register 16) (Register 17)
    ∷ []

-- it is accepted, so the claims speak of it
pub small_accepted : Accepted small
unfolding Accepted correct
small_accepted = ((tt, (tt, (tt, (tt, (tt, (tt, (tt, (tt, (tt, (tt, (tt, tt))))))))))), refl)

-- bits in r16 and r17
abbrev bits : ℕ → ℕ → State
bits a b = set (set (replicate 544 0) 16 a) 17 b

abbrev same_rows : List Row → List Row → Bool
same_rows [] [] = true
same_rows [] (y ∷ ys) = false
same_rows (x ∷ xs) [] = false
same_rows (x ∷ xs) (y ∷ ys) = same_bytes x y && same_rows xs ys

-- the run of the expansion from the image of these bits
abbrev ran : Layout → ℕ → ℕ → Ran
ran L a b = run (expand L small) 1000 (start L small 0) (image L (bits a b))

-- the state past r3 that it ends with is the image of the source's
abbrev ends : Layout → ℕ → ℕ → Ran → Bool
ends L a b x =
    let z = run small 1000 0 (bits a b) in
    same_bytes (drop 4 x.state) (drop 4 (image L z.state))

-- so it ends, and its trace is that of another
abbrev claimed : Layout → Ran → ℕ → ℕ → Bool
claimed L y a b = let x = ran L a b in same_rows x.rows y.rows && ends L a b x

-- the traces of all bits are that of the bits 0 and 0
abbrev all_claimed : Layout → Bool
all_claimed L = let y = ran L 0 0 in ends L 0 0 y && claimed L y 0 1 && claimed L y 1 0 && claimed L y 1 1

pub small-claimed : T (for_layouts all_claimed)
unfolding all_below run_on expand image row distances next after bus_after ones load scale combine fetch flip write_back
small-claimed = tt
