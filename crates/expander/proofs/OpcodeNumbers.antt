-- The macro of an opcode, by its number. Assumes nothing.
use mathlib.Core.Path.{◌≡◌, refl}
use mathlib.Core.List.{[]}
use Prim.Native.Nat.{ℕ, zero, suc, ◌≤◌, ◌<◌}
use native.Mathlib.Omega.{arith}
use Rattle.model.specs.declared.Layout.{Layout}
use Rattle.model.specs.declared.Operand.{Operand}
use Rattle.model.specs.Stored.{opcode_of}
use Rattle.model.specs.Code.{and_table, orr_table, xor_table}
use Rattle.model.specs.Expansion.{lookup, negate, copy, macro}

module _ (L : Layout) (d a b : Operand) where
  pub not_number : (n : ℕ) → n ≡ 2 → macro L (opcode_of n) d a b ≡ negate L d a
  unfolding macro
  not_number n e = rw e

  pub mov_number : (n : ℕ) → n ≡ 3 → macro L (opcode_of n) d a b ≡ copy d a
  unfolding macro
  mov_number n e = rw e

  -- and, orr, xor
  pub table_number : (n : ℕ) → 4 ≤ n → n ≤ 6 → (t : ℕ) × (macro L (opcode_of n) d a b ≡ lookup L t d a b)
  unfolding macro
  table_number zero g h = absurd (omega arith)
  table_number (suc zero) g h = absurd (omega arith)
  table_number (suc (suc zero)) g h = absurd (omega arith)
  table_number (suc (suc (suc zero))) g h = absurd (omega arith)
  table_number (suc (suc (suc (suc zero)))) g h = (and_table L, refl)
  table_number (suc (suc (suc (suc (suc zero))))) g h = (orr_table L, refl)
  table_number (suc (suc (suc (suc (suc (suc zero)))))) g h = (xor_table L, refl)
  table_number (suc (suc (suc (suc (suc (suc (suc n))))))) g h = absurd (omega arith)

  -- the others have none: below not, and from lsl on, number 7
  pub low_number : (n : ℕ) → n < 2 → macro L (opcode_of n) d a b ≡ []
  unfolding macro
  low_number zero h = refl
  low_number (suc zero) h = refl
  low_number (suc (suc n)) h = absurd (omega arith)

  pub high_number : (n : ℕ) → 7 ≤ n → macro L (opcode_of n) d a b ≡ []
  unfolding macro
  high_number zero h = absurd (omega arith)
  high_number (suc zero) h = absurd (omega arith)
  high_number (suc (suc zero)) h = absurd (omega arith)
  high_number (suc (suc (suc zero))) h = absurd (omega arith)
  high_number (suc (suc (suc (suc zero)))) h = absurd (omega arith)
  high_number (suc (suc (suc (suc (suc zero))))) h = absurd (omega arith)
  high_number (suc (suc (suc (suc (suc (suc zero)))))) h = absurd (omega arith)
  high_number (suc (suc (suc (suc (suc (suc (suc zero))))))) h = refl
  high_number (suc (suc (suc (suc (suc (suc (suc (suc zero)))))))) h = refl
  high_number (suc (suc (suc (suc (suc (suc (suc (suc (suc zero))))))))) h = refl
  high_number (suc (suc (suc (suc (suc (suc (suc (suc (suc (suc zero)))))))))) h = refl
  high_number (suc (suc (suc (suc (suc (suc (suc (suc (suc (suc (suc zero))))))))))) h = refl
  high_number (suc (suc (suc (suc (suc (suc (suc (suc (suc (suc (suc (suc zero)))))))))))) h = refl
  high_number (suc (suc (suc (suc (suc (suc (suc (suc (suc (suc (suc (suc (suc n))))))))))))) h = refl
