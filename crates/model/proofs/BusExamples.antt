-- Request 07: rows of nine numbers, worked out by hand, on the bus of one run. All by computation.
-- Assumes nothing.
use mathlib.Core.Path.{◌≡◌, refl}
use mathlib.Core.List.{List, [], ◌∷◌}
use lib.Count.{ones}
use lib.ListN.{replicate}
use Rattle.model.specs.declared.Mark.TheVariants.{Unmarked}
use Rattle.model.specs.declared.Opcode.TheVariants.{Mov, Add, Beq}
use Rattle.model.specs.declared.Operand.TheVariants.{Empty, Literal, Register, Cell, PublicCell}
use Rattle.model.specs.declared.Target.TheVariants.{Empty as NoTarget, Line as ToLine}
use Rattle.model.specs.declared.Line.{Line}
use Rattle.model.specs.Step.{row, distances, next, after, bus_after}
use Rattle.model.specs.Run.{run_on, run}
use Rattle.model.proofs.Acceptance.{mk}

-- u,add,@5,@5,@7, then u,mov,r4,#3,, then u,mov,@0,r4,, then u,beq,,@3,!r4+1,9
abbrev addressed : List Line
addressed =
    mk Unmarked Add (Cell 5) (Cell 5) (Cell 7) NoTarget
    ∷ mk Unmarked Mov (Register 4) (Literal 3) Empty NoTarget
    ∷ mk Unmarked Mov (Cell 0) (Register 4) Empty NoTarget
    ∷ mk Unmarked Beq Empty (Cell 3) (PublicCell 4 1) (ToLine 9)
    ∷ []

-- the bus goes from 0 to 5, 7 and 5; the second line has no address and leaves it; the third moves it to 0; the branch reads cells 3 and 4
pub addressed_rows : (run addressed 9 0 (replicate 544 0)).rows ≡
    (0 ∷ 0 ∷ 0 ∷ 2 ∷ 3 ∷ 2 ∷ 2 ∷ 1 ∷ 1 ∷ [])
    ∷ (1 ∷ 2 ∷ 2 ∷ 0 ∷ 0 ∷ 0 ∷ 0 ∷ 0 ∷ 0 ∷ [])
    ∷ (2 ∷ 2 ∷ 2 ∷ 0 ∷ 0 ∷ 0 ∷ 0 ∷ 0 ∷ 2 ∷ [])
    ∷ (3 ∷ 0 ∷ 0 ∷ 2 ∷ 1 ∷ 0 ∷ 2 ∷ 3 ∷ 0 ∷ [])
    ∷ []
unfolding run_on row distances next after bus_after ones
addressed_rows = refl
