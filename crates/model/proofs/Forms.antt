-- The operand of a number, form by form, from the range that the number lies in; that every number is its operand's; the opcode of a
-- number out of range.
-- Each law makes the tests of `operand_of` in its order. Assumes nothing.
use mathlib.Core.Path.{◌≡◌}
use mathlib.Core.List.{[], ◌∷◌}
use Prim.Native.Nat.{ℕ, ◌-◌, ◌/◌, ◌%◌, ◌<◌, ◌≤◌}
use native.Mathlib.Omega.{arith}
use lib.ListN.{get_or-eq_default}
use borrow.Author.Tests.{lt-ltb, le-ltb}
use Rattle.model.specs.declared.Opcode.TheVariants.{Nop, Jmp, Not, Mov, And, Orr, Xor, Lsl, Lsr, Add, Mul, Beq, Bne}
use Rattle.model.specs.declared.Operand.{Operand}
use Rattle.model.specs.declared.Operand.TheVariants.{Empty, Literal, Register, Cell, PublicCell, SensitiveCell, TableCell}
use Rattle.model.specs.Stored.{literals, registers, cells, publics, sensitives, tables, opcodes, operand_code, operand_of, opcode_of}
use Rattle.model.proofs.TestLaws.{below}

module _ (n : ℕ) where
  pub empty : n < literals → operand_of n ≡ Empty
  unfolding operand_of
  empty h = rw (lt-ltb n literals h)

  pub literal : literals ≤ n → n < registers → operand_of n ≡ Literal (n - literals)
  unfolding operand_of
  literal l h = rw (le-ltb n literals l, lt-ltb n registers h)

  pub register : registers ≤ n → n < cells → operand_of n ≡ Register (n - registers)
  unfolding operand_of
  register l h = rw (le-ltb n literals (omega arith), le-ltb n registers l, lt-ltb n cells h)

  pub cell : cells ≤ n → n < publics → operand_of n ≡ Cell (n - cells)
  unfolding operand_of
  cell l h = rw (le-ltb n literals (omega arith), le-ltb n registers (omega arith), le-ltb n cells l, lt-ltb n publics h)

  pub public_cell : publics ≤ n → n < sensitives → operand_of n ≡ PublicCell ((n - publics) / 128) ((n - publics) % 128)
  unfolding operand_of
  public_cell l h =
      rw (le-ltb n literals (omega arith), le-ltb n registers (omega arith), le-ltb n cells (omega arith), le-ltb n publics l, lt-ltb n sensitives h)

  pub sensitive_cell : sensitives ≤ n → n < tables → operand_of n ≡ SensitiveCell ((n - sensitives) / 128) ((n - sensitives) % 128)
  unfolding operand_of
  sensitive_cell l h =
      rw (
        le-ltb n literals (omega arith),
        le-ltb n registers (omega arith),
        le-ltb n cells (omega arith),
        le-ltb n publics (omega arith),
        le-ltb n sensitives l,
        lt-ltb n tables h,
      )

  pub table_cell : tables ≤ n → operand_of n ≡ TableCell ((n - tables) / 256) ((n - tables) % 256)
  unfolding operand_of
  table_cell l =
      rw (
        le-ltb n literals (omega arith),
        le-ltb n registers (omega arith),
        le-ltb n cells (omega arith),
        le-ltb n publics (omega arith),
        le-ltb n sensitives (omega arith),
        le-ltb n tables l,
      )

  -- what holds of an operand, form by form; each form's case knows the range
  pub by_form : (P : Operand → Type 0) → (n < literals → P Empty) → (literals ≤ n → n < registers → P (Literal (n - literals)))
      → (registers ≤ n → n < cells → P (Register (n - registers))) → (cells ≤ n → n < publics → P (Cell (n - cells)))
      → (publics ≤ n → n < sensitives → P (PublicCell ((n - publics) / 128) ((n - publics) % 128)))
      → (sensitives ≤ n → n < tables → P (SensitiveCell ((n - sensitives) / 128) ((n - sensitives) % 128)))
      → (tables ≤ n → P (TableCell ((n - tables) / 256) ((n - tables) % 256))) → P (operand_of n)
  by_form P e l r c p s t =
      below n literals (λ h. rw (empty h) (e h)) (λ g.
      below n registers (λ h. rw (literal g h) (l g h)) (λ g.
      below n cells (λ h. rw (register g h) (r g h)) (λ g.
      below n publics (λ h. rw (cell g h) (c g h)) (λ g.
      below n sensitives (λ h. rw (public_cell g h) (p g h)) (λ g.
      below n tables (λ h. rw (sensitive_cell g h) (s g h)) (λ g.
      rw (table_cell g) (t g)))))))

  -- below the registers there are only the empty field and the literals
  pub low_form : (P : Operand → Type 0) → n < registers → P Empty → ((k : ℕ) → P (Literal k)) → P (operand_of n)
  low_form P h e l = below n literals (λ g. rw (empty g) e) (λ g. rw (literal g h) (l (n - literals)))

  pub operand_number : operand_code (operand_of n) ≡ n
  operand_number =
      by_form (λ o. operand_code o ≡ n) (λ h. omega arith) (λ g h. omega arith) (λ g h. omega arith) (λ g h. omega arith)
      (λ g h. omega arith) (λ g h. omega arith) (λ g. omega arith)

-- past the thirteen numbers the opcode is the first
pub opcode_past : (n : ℕ) → opcodes ≤ n → opcode_of n ≡ Nop
opcode_past n h = get_or-eq_default (Nop ∷ Jmp ∷ Not ∷ Mov ∷ And ∷ Orr ∷ Xor ∷ Lsl ∷ Lsr ∷ Add ∷ Mul ∷ Beq ∷ Bne ∷ []) Nop h
