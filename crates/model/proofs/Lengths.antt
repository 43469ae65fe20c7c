-- How long the macros are: each by the lengths of its pieces, so that a piece that changes its length changes its own law alone.
-- Assumes nothing.
use mathlib.Core.Path.{◌≡◌, refl}
use mathlib.Core.Bool.{Bool, true, false}
use mathlib.Core.List.{List, ◌++◌}
use Prim.Native.Nat.{ℕ, ◌+◌, ◌≤◌}
use native.Mathlib.Omega.{arith}
use lib.Dec.{T}
use lib.ListN.{length, length-append}
use Rattle.model.specs.declared.Layout.{Layout}
use Rattle.model.specs.declared.Opcode.{Opcode}
use Rattle.model.specs.declared.Opcode.TheVariants.{Nop, Jmp, Not, Mov, And, Orr, Xor, Lsl, Lsr, Add, Mul, Beq, Bne}
use Rattle.model.specs.declared.Operand.{Operand}
use Rattle.model.specs.declared.Line.{Line}
use Rattle.model.specs.Limits.{longest}
use Rattle.model.specs.Code.{and_table, orr_table, xor_table}
use Rattle.model.specs.Marks.{has_macro}
use Rattle.model.specs.Expansion.{load, shifts, scale, combine, fetch, flip, write_back, lookup, negate, copy, macro}
use Rattle.model.proofs.Loads.{load_bounds}

pub lookup_pieces : (L : Layout) (t : ℕ) (d a b : Operand)
    → length (lookup L t d a b) ≡ length (load 1 a) + (length (scale L) + (length (load 2 b) + (length (combine L) + (length (fetch t) + length (write_back 3 d)))))
unfolding lookup
lookup_pieces L t d a b =
    let f : List Line = fetch t ++ write_back 3 d in
    let c : List Line = combine L ++ f in
    let l : List Line = load 2 b ++ c in
    rw (length-append (load 1 a) (scale L ++ l), length-append (scale L) l, length-append (load 2 b) c, length-append (combine L) f, length-append (fetch t) (write_back 3 d))

pub negate_pieces : (L : Layout) (d a : Operand) → length (negate L d a) ≡ length (load 1 a) + (length (flip L) + length (write_back 1 d))
unfolding negate
negate_pieces L d a = rw (length-append (load 1 a) (flip L ++ write_back 1 d), length-append (flip L) (write_back 1 d))

pub copy_pieces : (d a : Operand) → length (copy d a) ≡ length (load 3 a) + length (write_back 3 d)
unfolding copy
copy_pieces d a = length-append (load 3 a) (write_back 3 d)

-- ---- a scaling, by whether the bits are spaced

pub scale-spaced : (L : Layout) → L.spaced ≡ true → length (scale L) ≡ 2
unfolding scale shifts
scale-spaced L e = rw e

pub scale_near : (L : Layout) → L.spaced ≡ false → length (scale L) ≡ 3
unfolding scale shifts
scale_near L e = rw e

pub scale_bounds : (L : Layout) → (2 ≤ length (scale L)) × (length (scale L) ≤ 3)
scale_bounds L = go L.spaced refl
  where
    go : (c : Bool) → L.spaced ≡ c → (2 ≤ length (scale L)) × (length (scale L) ≤ 3)
    go true e = omega (arith, scale-spaced L e)
    go false e = omega (arith, scale_near L e)

-- ---- the bounds

module _ (L : Layout) where
  lookup_bounds : (t : ℕ) (d a b : Operand) → (1 ≤ length (lookup L t d a b)) × (length (lookup L t d a b) ≤ longest)
  unfolding combine fetch write_back
  lookup_bounds t d a b = rw lookup_pieces (omega (arith, load_bounds 1 a, scale_bounds L, load_bounds 2 b))

  negate_bounds : (d a : Operand) → (1 ≤ length (negate L d a)) × (length (negate L d a) ≤ longest)
  unfolding flip write_back
  negate_bounds d a = rw negate_pieces (omega (arith, load_bounds 1 a))

  copy_bounds : (d a : Operand) → (1 ≤ length (copy d a)) × (length (copy d a) ≤ longest)
  unfolding write_back
  copy_bounds d a = rw copy_pieces (omega (arith, load_bounds 3 a))

  -- a macro has at most `longest` lines, and one that a marked line may have has some
  pub macro_bounds : (op : Opcode) (d a b : Operand) → (T (has_macro op) → 1 ≤ length (macro L op d a b)) × (length (macro L op d a b) ≤ longest)
  unfolding macro has_macro
  macro_bounds Nop d a b = ((λ h. absurd h), omega arith)
  macro_bounds Jmp d a b = ((λ h. absurd h), omega arith)
  macro_bounds Not d a b = ((λ h. (negate_bounds d a).0), (negate_bounds d a).1)
  macro_bounds Mov d a b = ((λ h. (copy_bounds d a).0), (copy_bounds d a).1)
  macro_bounds And d a b = ((λ h. (lookup_bounds (and_table L) d a b).0), (lookup_bounds (and_table L) d a b).1)
  macro_bounds Orr d a b = ((λ h. (lookup_bounds (orr_table L) d a b).0), (lookup_bounds (orr_table L) d a b).1)
  macro_bounds Xor d a b = ((λ h. (lookup_bounds (xor_table L) d a b).0), (lookup_bounds (xor_table L) d a b).1)
  macro_bounds Lsl d a b = ((λ h. absurd h), omega arith)
  macro_bounds Lsr d a b = ((λ h. absurd h), omega arith)
  macro_bounds Add d a b = ((λ h. absurd h), omega arith)
  macro_bounds Mul d a b = ((λ h. absurd h), omega arith)
  macro_bounds Beq d a b = ((λ h. absurd h), omega arith)
  macro_bounds Bne d a b = ((λ h. absurd h), omega arith)
