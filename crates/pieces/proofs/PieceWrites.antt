-- The pieces written line by line, and an opcode's macro by its arm: each is what the definition lists.
-- Assumes nothing.
use mathlib.Core.Path.{◌≡◌, refl}
use mathlib.Core.Bool.{true, false}
use mathlib.Core.List.{List, [], ◌∷◌}
use Prim.Native.Nat.{ℕ, ◌+◌, ◌*◌, ◌≤◌, ◌<◌}
use native.Mathlib.Omega.{arith}
use lib.ListN.{length}
use Rattle.model.specs.declared.Layout.{Layout}
use Rattle.model.specs.declared.Line.{Line}
use Rattle.model.specs.declared.Opcode.{Opcode}
use Rattle.model.specs.declared.Opcode.TheVariants.{Nop, Jmp, Not, Mov, And, Orr, Xor, Lsl, Lsr, Add, Mul, Beq, Bne}
use Rattle.model.specs.declared.Operand.{Operand}
use Rattle.model.specs.declared.Operand.TheVariants.{Literal, Register, TableCell}
use Rattle.model.specs.Stored.{literals, registers, operand_of}
use Rattle.model.specs.Places.{is_public, kind_of}
use Rattle.model.specs.Code.{code_table}
use Rattle.model.specs.Expansion.{marked_line, move, precharged, code_bit, load, shifts, scale, combine, fetch, flip, write_back, lookup, macro, negate, copy}
use Rattle.model.specs.Code.{and_table, orr_table, xor_table}
use Rattle.pieces.specs.Writes.{Wrote}
use Rattle.pieces.proofs.StoreWrites.{wrote_none, wrote_then}
use Rattle.pieces.proofs.PartNumbers.{register_number, literal_number}

-- ---- the pieces

module _ {out o : List ℕ} {at k : ℕ} where
  -- an argument that is no public place
  pub load_wrote : (n : ℕ) (a : Operand) → n < 32 → is_public (kind_of a) ≡ false → Wrote out o at k (precharged (operand_of (registers + n)) a) → Wrote out o at k (load n a)
  unfolding load code_bit
  load_wrote n a g e w = rw (e, ← register_number n g) w

  pub write_back_wrote : (n : ℕ) (d : Operand) → n < 32 → Wrote out o at k (precharged d (operand_of (registers + n))) → Wrote out o at k (write_back n d)
  unfolding write_back
  write_back_wrote n d g w = rw (← register_number n g) w

  pub flip_wrote : (L : Layout) (x : Operand) → x ≡ Literal L.mask → Wrote out o at k (marked_line Xor (operand_of (registers + 1)) (operand_of (registers + 1)) x ∷ []) → Wrote out o at k (flip L)
  unfolding flip operand_of
  flip_wrote L x e w = rw (← e) w

module _ {out o o' : List ℕ} {at k m : ℕ} where
  pub precharged_wrote : (d a : Operand) → Wrote out o at k (move d (operand_of registers) ∷ []) → Wrote o o' k m (move d a ∷ []) → Wrote out o' at m (precharged d a)
  precharged_wrote d a w v = rw (← register_number 0 (omega arith)) (wrote_then w v)

  -- a public place's bit, coded
  pub code_bit_wrote : (n : ℕ) (x : Operand) → n < 32 → x ≡ TableCell n code_table
      → Wrote out o at k (marked_line And (operand_of (registers + n)) (operand_of (registers + n)) (operand_of (literals + 1)) ∷ [])
      → Wrote o o' k m (move (operand_of (registers + n)) x ∷ []) → Wrote out o' at m (code_bit true n)
  unfolding code_bit
  code_bit_wrote n x g e w v = rw (← e, ← register_number n g, ← literal_number 1 (omega arith)) (wrote_then w v)

  pub load_bit_wrote : (n : ℕ) (a : Operand) → n < 32 → is_public (kind_of a) ≡ true → Wrote out o at k (precharged (operand_of (registers + n)) a)
      → Wrote o o' k m (code_bit true n) → Wrote out o' at m (load n a)
  unfolding load
  load_bit_wrote n a g e w v = let u : Wrote out o at k (precharged (Register n) a) = rw (← register_number n g) w in rw e (wrote_then u v)

  pub fetch_wrote : {o'' : List ℕ} {l : ℕ} (t : ℕ) (x y : Operand) → x ≡ TableCell 0 t → y ≡ TableCell 1 t → Wrote out o at k (move (operand_of (registers + 3)) x ∷ [])
      → Wrote o o' k m (move (operand_of (registers + 3)) y ∷ []) → Wrote o' o'' m l (move (operand_of (registers + 2)) x ∷ []) → Wrote out o'' at l (fetch t)
  unfolding fetch operand_of
  fetch_wrote t x y e f w v u = rw (← e, ← f) (wrote_then w (wrote_then v u))

  module _ (L : Layout) (x : Operand) (e : x ≡ Literal L.mask) where
    pub combine_wrote : Wrote out o at k (marked_line And (operand_of (registers + 2)) (operand_of (registers + 2)) x ∷ [])
        → Wrote o o' k m (marked_line Orr (operand_of (registers + 1)) (operand_of (registers + 1)) (operand_of (registers + 2)) ∷ []) → Wrote out o' at m (combine L)
    unfolding combine operand_of
    combine_wrote w v = rw (← e) (wrote_then w v)

    -- by whether the bits are spaced
    pub spaced_wrote : L.spaced ≡ true → Wrote out o at k (marked_line And (operand_of (registers + 1)) (operand_of (registers + 1)) x ∷ [])
        → Wrote o o' k m (marked_line Lsl (operand_of (registers + 1)) (operand_of (registers + 1)) (operand_of (literals + 1)) ∷ []) → Wrote out o' at m (scale L)
    unfolding scale shifts operand_of
    spaced_wrote q w v = rw (← e, q) (wrote_then w v)

    pub near_wrote : {o'' : List ℕ} {l : ℕ} → L.spaced ≡ false → Wrote out o at k (marked_line And (operand_of (registers + 1)) (operand_of (registers + 1)) x ∷ [])
        → Wrote o o' k m (marked_line Lsl (operand_of (registers + 1)) (operand_of (registers + 1)) (operand_of (literals + 1)) ∷ [])
        → Wrote o' o'' m l (marked_line Lsl (operand_of (registers + 1)) (operand_of (registers + 1)) (operand_of (literals + 1)) ∷ []) → Wrote out o'' at l (scale L)
    unfolding scale shifts operand_of
    near_wrote q w v u = rw (← e, q) (wrote_then w (wrote_then v u))

-- ---- the macro of an opcode

module _ (L : Layout) (o : Opcode) (d a b : Operand) where
  pub not_macro : o ≡ Not → macro L o d a b ≡ negate L d a
  unfolding macro
  not_macro e = rw e

  pub mov_macro : o ≡ Mov → macro L o d a b ≡ copy d a
  unfolding macro
  mov_macro e = rw e

  pub and_macro : (t : ℕ) → o ≡ And → t ≡ and_table L → macro L o d a b ≡ lookup L t d a b
  unfolding macro
  and_macro t e h = rw (e, h)

  pub orr_macro : (t : ℕ) → o ≡ Orr → t ≡ orr_table L → macro L o d a b ≡ lookup L t d a b
  unfolding macro
  orr_macro t e h = rw (e, h)

  pub xor_macro : (t : ℕ) → o ≡ Xor → t ≡ xor_table L → macro L o d a b ≡ lookup L t d a b
  unfolding macro
  xor_macro t e h = rw (e, h)

-- the others have none
pub no_macro : (L : Layout) (o : Opcode) (d a b : Operand) → (o ≡ Not → ⊥) → (o ≡ Mov → ⊥) → (o ≡ And → ⊥) → (o ≡ Orr → ⊥) → (o ≡ Xor → ⊥) → macro L o d a b ≡ []
unfolding macro
no_macro L Nop d a b p q r s t = refl
no_macro L Jmp d a b p q r s t = refl
no_macro L Not d a b p q r s t = absurd (p refl)
no_macro L Mov d a b p q r s t = absurd (q refl)
no_macro L And d a b p q r s t = absurd (r refl)
no_macro L Orr d a b p q r s t = absurd (s refl)
no_macro L Xor d a b p q r s t = absurd (t refl)
no_macro L Lsl d a b p q r s t = refl
no_macro L Lsr d a b p q r s t = refl
no_macro L Add d a b p q r s t = refl
no_macro L Mul d a b p q r s t = refl
no_macro L Beq d a b p q r s t = refl
no_macro L Bne d a b p q r s t = refl

-- lines that are others
module _ (x y : List Line) (e : x ≡ y) (out : List ℕ) (at : ℕ) where
  pub same_wrote : {o : List ℕ} {k : ℕ} → Wrote out o at k y → Wrote out o at k x
  same_wrote h = rw e h

  pub same_room : 6 * (at + length x) ≤ length out → 6 * (at + length y) ≤ length out
  same_room h = rw e at h

pub nothing_wrote : (x : List Line) → x ≡ [] → (out : List ℕ) (at : ℕ) → 6 * (at + length x) ≤ length out → Wrote out out at at x
nothing_wrote x e out at h = same_wrote x [] e out at (wrote_none out at (omega (arith, same_room x [] e out at h)))
