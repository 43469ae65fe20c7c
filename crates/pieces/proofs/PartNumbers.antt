-- The numbers that are written: of a register, a table cell and a literal, of a line, of a literal's code.
-- Assumes nothing.
use mathlib.Core.Path.{◌≡◌, refl, sym}
use mathlib.Core.Bool.{true}
use mathlib.Core.List.{[], ◌∷◌}
use Prim.Native.Nat.{ℕ, ◌+◌, ◌-◌, ◌*◌, ◌%◌, ◌≤◌, ◌<◌}
use native.Mathlib.Nat.{mod-eq_of_lt}
use native.Mathlib.Omega.{arith}
use lib.Dec.{ltb, lt→ltb, le→leb}
use Rattle.model.specs.declared.Layout.{Layout}
use Rattle.model.specs.declared.Mark.{Mark}
use Rattle.model.specs.declared.Opcode.{Opcode}
use Rattle.model.specs.declared.Operand.TheVariants.{Literal, Register, TableCell}
use Rattle.model.specs.declared.Target.{Target}
use Rattle.model.specs.Lines.{operand_right}
use Rattle.model.specs.Code.{code}
use Rattle.model.specs.Stored.{literals, registers, tables, operand_of, mark_code, opcode_code, operand_code, target_code}
use Rattle.model.specs.Expansion.{coded}
use Rattle.model.proofs.TestLaws.{both_and}
use Rattle.model.proofs.Forms.{literal, by_form, operand_number}
use Rattle.model.proofs.StoredLaws.{operand_there}
use Rattle.coding.proofs.Codes.{mark_fits, opcode_fits}
use Rattle.pieces.specs.Writes.{encoded, line_with}

pub register_number : (n : ℕ) → n < 32 → operand_of (registers + n) ≡ Register n
unfolding operand_right
register_number n h = (operand_there true (Register n) (lt→ltb n 32 h)).same

pub table_number : (n t : ℕ) → n < 32 → t < 256 → operand_of (tables + 256 * n + t) ≡ TableCell n t
unfolding operand_right
table_number n t g h = (operand_there true (TableCell n t) (both_and (ltb n 32) (ltb t 256) (lt→ltb n 32 g) (lt→ltb t 256 h))).same

pub literal_number : (n : ℕ) → n < 256 → operand_of (literals + n) ≡ Literal n
unfolding operand_right
literal_number n h = (operand_there true (Literal n) (le→leb n 255 (omega arith))).same

-- a number of 16 bits is stored as it is
operand_stored : (n : ℕ) → n < 65536 → n ≡ operand_code (operand_of n) % 65536
operand_stored n h = sym (rw (operand_number n) (mod-eq_of_lt h))

-- the numbers of a line with numbers of 16 bits for its operands
pub line_stored : (m : Mark) (o : Opcode) (d a b t : ℕ) (y : Target) → d < 65536 → a < 65536 → b < 65536 → t ≡ target_code y % 65536
    → mark_code m ∷ opcode_code o ∷ d ∷ a ∷ b ∷ t ∷ [] ≡ encoded (line_with m o d a b y)
line_stored m o d a b t y hd ha hb e =
    let em = mark_fits m in
    let eo = opcode_fits o in
    let ed = operand_stored d hd in
    let ea = operand_stored a ha in
    let eb = operand_stored b hb in
    cc

-- ---- a literal's code

pub coded_literal : (L : Layout) (n x r : ℕ) → literals ≤ n → n < registers → x ≡ code L (n - literals) → operand_of r ≡ Literal x → operand_of r ≡ coded L (operand_of n)
unfolding coded
coded_literal L n x r g h e l = rw (literal n g h, ← e) l

pub coded_other : (L : Layout) (n : ℕ) → registers ≤ n → operand_of n ≡ coded L (operand_of n)
unfolding coded
coded_other L n h =
    by_form n (λ o. o ≡ coded L o) (λ l. absurd (omega arith)) (λ g l. absurd (omega arith)) (λ g l. refl) (λ g l. refl) (λ g l. refl) (λ g l. refl)
    (λ g. refl)
