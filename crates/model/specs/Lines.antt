-- 'Line form': which fields an opcode fills, and the correct lines.
-- Assumes nothing.
use Rattle.std.specs.Prelude.{Bool, true, false, not, ◌&&◌, List, [], ◌∷◌, leb, ltb, T}
use Rattle.model.specs.declared.Opcode.{Opcode}
use Rattle.model.specs.declared.Opcode.TheVariants.{Nop, Jmp, Not, Mov, And, Orr, Xor, Lsl, Lsr, Add, Mul, Beq, Bne}
use Rattle.model.specs.declared.Operand.{Operand}
use Rattle.model.specs.declared.Operand.TheVariants.{Empty, Literal, Register, Cell, PublicCell, SensitiveCell, TableCell}
use Rattle.model.specs.declared.Target.{Target}
use Rattle.model.specs.declared.Target.TheVariants.{Empty as NoTarget, Line as ToLine}
use Rattle.model.specs.declared.Line.{Line}
use Rattle.model.specs.Limits.{max_lines}

-- which of the fields after the opcode are filled
pub record Filled : Type 0 where
  pub destination : Bool
  pub first : Bool
  pub second : Bool
  pub target : Bool

abbrev pub filled : Bool → Bool → Bool → Bool → Filled
filled d a b t = record { destination = d; first = a; second = b; target = t }

-- the paper's table: destination, first, second, target
unfoldable pub fills : Opcode → Filled
fills Nop = filled false false false false
fills Jmp = filled false false false true
fills Not = filled true true false false
fills Mov = filled true true false false
fills And = filled true true true false
fills Orr = filled true true true false
fills Xor = filled true true true false
fills Lsl = filled true true true false
fills Lsr = filled true true true false
fills Add = filled true true true false
fills Mul = filled true true true false
fills Beq = filled false true true true
fills Bne = filled false true true true

-- a field that is filled exactly where it must be, with an operand in its range
unfoldable pub operand_right : Bool → Operand → Bool
operand_right must Empty = not must
operand_right must (Literal n) = must && leb n 255
operand_right must (Register n) = must && ltb n 32
operand_right must (Cell n) = must && ltb n 512
operand_right must (PublicCell r k) = must && ltb r 32 && ltb k 128
operand_right must (SensitiveCell r k) = must && ltb r 32 && ltb k 128
operand_right must (TableCell r k) = must && ltb r 32 && ltb k 256

unfoldable pub target_right : Bool → Target → Bool
target_right must NoTarget = not must
target_right must (ToLine t) = must && leb t max_lines

unfoldable pub is_literal : Operand → Bool
is_literal Empty = false
is_literal (Literal n) = true
is_literal (Register n) = false
is_literal (Cell n) = false
is_literal (PublicCell r k) = false
is_literal (SensitiveCell r k) = false
is_literal (TableCell r k) = false

-- a correct line; a destination is any operand but a literal
unfoldable pub correct : Line → Bool
unfolding fills operand_right target_right is_literal
correct l = operand_right (fills l.opcode).destination l.destination && not (is_literal l.destination)
    && operand_right (fills l.opcode).first l.first && operand_right (fills l.opcode).second l.second
    && target_right (fills l.opcode).target l.target

-- a program of correct lines. (`parsed` of Stored judges numbers and text by the same ranges: proofs/StoredLaws)
abbrev pub AllCorrect : List Line → Type 0
AllCorrect [] = Unit {0}
AllCorrect (l ∷ ls) = T (correct l) × AllCorrect ls

-- P holds of every line
abbrev pub Every : (Line → Type 0) → List Line → Type 0
Every P [] = Unit {0}
Every P (l ∷ ls) = P l × Every P ls
