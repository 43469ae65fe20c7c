-- The numbers of a correct line are below 65,536: `encode` gives its codes.
-- Assumes nothing.
use mathlib.Core.Path.{◌≡◌, refl}
use mathlib.Core.Bool.{Bool, true, not, ◌&&◌, and-eq-true_iff}
use mathlib.Core.List.{map}
use Prim.Native.Nat.{◌%◌}
use native.Mathlib.Nat.{mod-eq_of_lt}
use native.Mathlib.Omega.{arith}
use lib.Dec.{ltb}
use borrow.Author.Tests.{ltb-true, leb-true}
use Rattle.model.specs.declared.Mark.{Mark}
use Rattle.model.specs.declared.Mark.TheVariants.{Unmarked, Marked}
use Rattle.model.specs.declared.Opcode.{Opcode}
use Rattle.model.specs.declared.Opcode.TheVariants.{Nop, Jmp, Not, Mov, And, Orr, Xor, Lsl, Lsr, Add, Mul, Beq, Bne}
use Rattle.model.specs.declared.Operand.{Operand}
use Rattle.model.specs.declared.Operand.TheVariants.{Empty, Literal, Register, Cell, PublicCell, SensitiveCell, TableCell}
use Rattle.model.specs.declared.Target.{Target}
use Rattle.model.specs.declared.Target.TheVariants.{Empty as NoTarget, Line as ToLine}
use Rattle.model.specs.declared.Line.{Line}
use Rattle.model.specs.Limits.{max_lines}
use Rattle.model.specs.Lines.{fills, operand_right, target_right, is_literal, correct}
use Rattle.model.specs.Stored.{mark_code, opcode_code, operand_code, target_code, codes}

pub mark_fits : (m : Mark) → mark_code m % 65536 ≡ mark_code m
mark_fits Unmarked = refl
mark_fits Marked = refl

pub opcode_fits : (o : Opcode) → opcode_code o % 65536 ≡ opcode_code o
opcode_fits Nop = refl
opcode_fits Jmp = refl
opcode_fits Not = refl
opcode_fits Mov = refl
opcode_fits And = refl
opcode_fits Orr = refl
opcode_fits Xor = refl
opcode_fits Lsl = refl
opcode_fits Lsr = refl
opcode_fits Add = refl
opcode_fits Mul = refl
opcode_fits Beq = refl
opcode_fits Bne = refl

left : (a b : Bool) → a && b ≡ true → a ≡ true
left a b e = ((and-eq-true_iff a b).0 e).0

right : (a b : Bool) → a && b ≡ true → b ≡ true
right a b e = ((and-eq-true_iff a b).0 e).1

operand_fits : (must : Bool) (o : Operand) → operand_right must o ≡ true → operand_code o % 65536 ≡ operand_code o
unfolding operand_right
operand_fits must Empty e = refl
operand_fits must (Literal n) e = mod-eq_of_lt (omega (arith, leb-true n 255 (right must _ e)))
operand_fits must (Register n) e = mod-eq_of_lt (omega (arith, ltb-true n 32 (right must _ e)))
operand_fits must (Cell n) e = mod-eq_of_lt (omega (arith, ltb-true n 512 (right must _ e)))
operand_fits must (PublicCell r k) e = mod-eq_of_lt (omega (arith, ltb-true r 32 (right must _ (left (must && ltb r 32) _ e)), ltb-true k 128 (right (must && ltb r 32) _ e)))
operand_fits must (SensitiveCell r k) e = mod-eq_of_lt (omega (arith, ltb-true r 32 (right must _ (left (must && ltb r 32) _ e)), ltb-true k 128 (right (must && ltb r 32) _ e)))
operand_fits must (TableCell r k) e = mod-eq_of_lt (omega (arith, ltb-true r 32 (right must _ (left (must && ltb r 32) _ e)), ltb-true k 256 (right (must && ltb r 32) _ e)))

target_fits : (must : Bool) (t : Target) → target_right must t ≡ true → target_code t % 65536 ≡ target_code t
unfolding target_right
target_fits must NoTarget e = refl
target_fits must (ToLine t) e = mod-eq_of_lt (omega (arith, leb-true t max_lines (right must _ e)))

pub codes_fit : (l : Line) → correct l ≡ true → map (λ n. n % 65536) (codes l) ≡ codes l
unfolding correct
codes_fit l e =
    let f = fills l.opcode in
    let d = operand_right f.destination l.destination in
    let n = not (is_literal l.destination) in
    let a = operand_right f.first l.first in
    let b = operand_right f.second l.second in
    let e₁ = left (d && n && a && b) _ e in
    let e₂ = left (d && n && a) b e₁ in
    let e₃ = left (d && n) a e₂ in
    rw (
      mark_fits l.mark,
      opcode_fits l.opcode,
      operand_fits f.destination l.destination (left d n e₃),
      operand_fits f.first l.first (right (d && n) a e₂),
      operand_fits f.second l.second (right (d && n && a) b e₁),
      target_fits f.target l.target (right (d && n && a && b) _ e),
    )
