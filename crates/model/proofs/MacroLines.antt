-- The lines that macros are made of: what holds of each of these forms holds of every line of every macro, so that a law of this kind
-- is an instance and does not walk through the macros again. Assumes nothing.
use mathlib.Core.Bool.{Bool, true, false}
use mathlib.Core.List.{List, [], ◌∷◌, ◌++◌}
use Prim.Native.Nat.{ℕ}
use Rattle.model.specs.declared.Layout.{Layout}
use Rattle.model.specs.declared.Opcode.{Opcode}
use Rattle.model.specs.declared.Opcode.TheVariants.{Nop, Jmp, Not, Mov, And, Orr, Xor, Lsl, Lsr, Add, Mul, Beq, Bne}
use Rattle.model.specs.declared.Operand.{Operand}
use Rattle.model.specs.declared.Operand.TheVariants.{Literal, Register}
use Rattle.model.specs.declared.Line.{Line}
use Rattle.model.specs.Lines.{Every}
use Rattle.model.specs.Code.{and_table, orr_table, xor_table}
use Rattle.model.specs.Places.{is_public, kind_of}
use Rattle.model.specs.Expansion.{marked_line, move, code_bit, load, shifts, scale, combine, fetch, flip, write_back, lookup, negate, copy, macro}

pub every_append : (P : Line → Type 0) (xs ys : List Line) → Every P xs → Every P ys → Every P (xs ++ ys)
every_append P [] ys h g = g
every_append P (l ∷ xs) ys h g = (h.0, every_append P xs ys h.1 g)

-- P holds of the forms that there are: a move, a code masked, shifted by one, joined to another, both its bits flipped
pub record OfMacros (P : Line → Type 0) : Type 0 where
  pub moves : (d a : Operand) → P (move d a)
  pub masks : (n m : ℕ) → P (marked_line And (Register n) (Register n) (Literal m))
  pub shifts : P (marked_line Lsl (Register 1) (Register 1) (Literal 1))
  pub joins : P (marked_line Orr (Register 1) (Register 1) (Register 2))
  pub flips : (m : ℕ) → P (marked_line Xor (Register 1) (Register 1) (Literal m))

module _ {P : Line → Type 0} (F : OfMacros P) (L : Layout) where
  load-lines : (n : ℕ) (a : Operand) → Every P (load n a)
  unfolding load code_bit
  load-lines n a = (F.moves (Register n) (Register 0), (F.moves (Register n) a, go (is_public (kind_of a))))
    where
      go : (c : Bool) → Every P (code_bit c n)
      go true = (F.masks n 1, (F.moves _ _, tt))
      go false = tt

  scale_lines : Every P (scale L)
  unfolding scale shifts
  scale_lines = (F.masks 1 L.mask, go L.spaced)
    where
      go : (c : Bool) → Every P (shifts c)
      go true = (F.shifts, tt)
      go false = (F.shifts, (F.shifts, tt))

  combine-lines : Every P (combine L)
  unfolding combine
  combine-lines = (F.masks 2 L.mask, (F.joins, tt))

  fetch-lines : (t : ℕ) → Every P (fetch t)
  unfolding fetch
  fetch-lines t = (F.moves _ _, (F.moves _ _, (F.moves _ _, tt)))

  flip-lines : Every P (flip L)
  unfolding flip
  flip-lines = (F.flips L.mask, tt)

  back-lines : (n : ℕ) (d : Operand) → Every P (write_back n d)
  unfolding write_back
  back-lines n d = (F.moves _ _, (F.moves _ _, tt))

  lookup-lines : (t : ℕ) (d a b : Operand) → Every P (lookup L t d a b)
  unfolding lookup
  lookup-lines t d a b =
      every_append P (load 1 a) _ (load-lines 1 a) (every_append P (scale L) _ scale_lines
      (every_append P (load 2 b) _ (load-lines 2 b) (every_append P (combine L) _ combine-lines
      (every_append P (fetch t) _ (fetch-lines t) (back-lines 3 d)))))

  pub macro-lines : (op : Opcode) (d a b : Operand) → Every P (macro L op d a b)
  unfolding macro negate copy
  macro-lines Nop d a b = tt
  macro-lines Jmp d a b = tt
  macro-lines Not d a b = every_append P (load 1 a) _ (load-lines 1 a) (every_append P (flip L) _ flip-lines (back-lines 1 d))
  macro-lines Mov d a b = every_append P (load 3 a) _ (load-lines 3 a) (back-lines 3 d)
  macro-lines And d a b = lookup-lines (and_table L) d a b
  macro-lines Orr d a b = lookup-lines (orr_table L) d a b
  macro-lines Xor d a b = lookup-lines (xor_table L) d a b
  macro-lines Lsl d a b = tt
  macro-lines Lsr d a b = tt
  macro-lines Add d a b = tt
  macro-lines Mul d a b = tt
  macro-lines Beq d a b = tt
  macro-lines Bne d a b = tt
