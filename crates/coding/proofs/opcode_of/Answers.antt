-- `coding::opcode_of` meets its contract: an arm for each opcode; any other number is past the list of opcodes. Assumes nothing.
use mathlib.Core.Path.{◌≡◌, sym}
use mathlib.Core.List.{[], ◌∷◌}
use Prim.Native.Nat.{ℕ, ◌+◌, ◌≤◌, zero-le}
use native.Mathlib.Omega.{arith}
use lib.ListN.{get_or-eq_default}
use Rattle.model.specs.declared.Opcode.TheVariants.{Nop, Jmp, Not, Mov, And, Orr, Xor, Lsl, Lsr, Add, Mul, Beq, Bne}
use Rattle.model.specs.Stored.{opcodes, opcode_of}
use Rattle.coding.proofs.opcode_of.Goals as goal

-- a number that is at least n and is not n is above n
past : (n k : ℕ) → n ≤ k → (k ≡ n → ⊥) → n + 1 ≤ k
past n k h e = omega arith

past-opcodes : (n : ℕ) → opcodes ≤ n → Nop ≡ opcode_of n
past-opcodes n h = sym (get_or-eq_default (Nop ∷ Jmp ∷ Not ∷ Mov ∷ And ∷ Orr ∷ Xor ∷ Lsl ∷ Lsr ∷ Add ∷ Mul ∷ Beq ∷ Bne ∷ []) Nop {n = n} h)

pub returns-in_default : goal.returns-in_default
returns-in_default c =
    let o = c.args.code in
    let r = c.in_default.in_default-own.rest in
    past-opcodes o
    (past 12 o (past 11 o (past 10 o (past 9 o (past 8 o (past 7 o (past 6 o (past 5 o (past 4 o (past 3 o (past 2 o (past 1 o (past 0 o zero-le r.0.0.0.0.0.0.0.0.0.0.0.0.1) r.0.0.0.0.0.0.0.0.0.0.0.1) r.0.0.0.0.0.0.0.0.0.0.1) r.0.0.0.0.0.0.0.0.0.1) r.0.0.0.0.0.0.0.0.1) r.0.0.0.0.0.0.0.1) r.0.0.0.0.0.0.1) r.0.0.0.0.0.1) r.0.0.0.0.1) r.0.0.0.1) r.0.0.1) r.0.1) r.1)
