-- How long a part is, what it is, and its lines written, by the line's mark.
-- Assumes nothing.
use mathlib.Core.Path.{◌≡◌, sym, ap}
use mathlib.Core.List.{List, [], ◌∷◌}
use Prim.Native.Nat.{ℕ}
use borrow.Author.Tests.{eq-eqb, ne_eqb}
use lib.ListN.{length, get_or}
use Rattle.model.specs.declared.Layout.{Layout}
use Rattle.model.specs.declared.Mark.TheVariants.{Unmarked, Marked}
use Rattle.model.specs.declared.Opcode.{Opcode}
use Rattle.model.specs.declared.Operand.{Operand}
use Rattle.model.specs.declared.Line.{Line}
use Rattle.model.specs.Stored.{mark_of, opcode_of, operand_of, target_of, line_at}
use Rattle.model.specs.Expansion.{coded, macro, new_target, part_of, part, retarget, size}
use Rattle.coding.specs.Fields.{numbers_at}
use Rattle.pieces.specs.Writes.{line_with, Wrote}

-- what a mark's number tells
unmarked : (m : ℕ) → m ≡ 0 → mark_of m ≡ Unmarked
unmarked m e = rw (eq-eqb m 0 e)

marked : (m : ℕ) → (m ≡ 0 → ⊥) → mark_of m ≡ Marked
marked m e = rw (ne_eqb m 0 e)

module _ (L : Layout) (l : Line) (f : ℕ → ℕ) where
  plain_part : l.mark ≡ Unmarked → part L f l ≡ retarget f l ∷ []
  unfolding part_of
  plain_part e = rw e

  marked_part : l.mark ≡ Marked → part L f l ≡ macro L l.opcode l.destination (coded L l.first) (coded L l.second)
  unfolding part_of
  marked_part e = rw e

-- a program's line, from its six numbers
module _ (L : Layout) (p n : List ℕ) (i : ℕ) (e : n ≡ numbers_at p i) where
  pub plain_length : get_or n 0 0 ≡ 0 → 1 ≡ size L (line_at p i)
  unfolding size
  plain_length z = sym (ap length (plain_part L (line_at p i) (λ t. t) (unmarked _ (rw e at z))))

  -- a marked one, whose arguments are coded
  module _ (x : Opcode) (a b : Operand) (q : x ≡ opcode_of (get_or n 1 0)) (z : get_or n 0 0 ≡ 0 → ⊥) (ea : a ≡ coded L (operand_of (get_or n 3 0))) (eb : b ≡ coded L (operand_of (get_or n 4 0))) where
    marked_is : (f : ℕ → ℕ) → part L f (line_at p i) ≡ macro L x (operand_of (get_or n 2 0)) a b
    marked_is f = rw (ea, eb, q, e) (marked_part L (line_at p i) f (marked _ (rw e at z)))

    pub marked_length : length (macro L x (operand_of (get_or n 2 0)) a b) ≡ size L (line_at p i)
    unfolding size
    marked_length = sym (ap length (marked_is (λ t. t)))

-- written
module _ (L : Layout) (f : ℕ → ℕ) (p n : List ℕ) (i : ℕ) (x : Opcode) (e : n ≡ numbers_at p i) (q : x ≡ opcode_of (get_or n 1 0)) where
  pub plain_wrote : {out o : List ℕ} {at k : ℕ} → get_or n 0 0 ≡ 0
      → Wrote out o at k (line_with Unmarked x (get_or n 2 0) (get_or n 3 0) (get_or n 4 0) (new_target f (target_of (get_or n 5 0))) ∷ []) → Wrote out o at k (part L f (line_at p i))
  plain_wrote z w =
      let l = line_at p i in
      let m : l.mark ≡ Unmarked = unmarked _ (rw e at z) in
      let u = rw (q, e) at w in
      rw (plain_part L l f m, m) u

  pub marked_wrote : {out o : List ℕ} {at k : ℕ} (a b : Operand) → (get_or n 0 0 ≡ 0 → ⊥) → a ≡ coded L (operand_of (get_or n 3 0)) → b ≡ coded L (operand_of (get_or n 4 0))
      → Wrote out o at k (macro L x (operand_of (get_or n 2 0)) a b) → Wrote out o at k (part L f (line_at p i))
  marked_wrote a b z ea eb w = rw (marked_is L p n i e x a b q z ea eb f) w
