-- What the conditions ask of the numbers of a mark, an opcode, a target and an operand, by the tests that the code makes.
-- Assumes nothing.
use mathlib.Core.Path.{◌≡◌, refl, sym}
use mathlib.Core.Bool.{Bool, true, false, cond, not, ◌&&◌}
use Prim.Native.Nat.{ℕ, zero, suc, ◌+◌, ◌-◌, ◌≤◌, ◌<◌}
use native.Mathlib.Omega.{arith}
use borrow.Author.Tests.{eq-eqb, ne_eqb, lt-ltb, le-ltb, le-leb, lt-leb}
use lib.Dec.{eqb, ltb, leb}
use Rattle.model.proofs.Forms.{by_form, low_form, register, cell, public_cell}
use Rattle.model.proofs.TestLaws.{below}
use Rattle.model.specs.declared.Mark.TheVariants.{Unmarked, Marked}
use Rattle.model.specs.Stored.{registers, cells, publics, sensitives, mark_of, opcode_of, operand_of, target_of}
use Rattle.model.specs.declared.Kind.TheVariants.{Neither, Sensitive}
use Rattle.model.specs.Places.{kind, kind_of, is_public}
use Rattle.model.specs.Marks.{has_macro, is_reserved, has_sensitive_base, is_no_bit, is_above, is_marked}

marked_by_lem : (x : Bool) → not x ≡ is_marked (cond x Unmarked Marked)
marked_by_lem true = refl
marked_by_lem false = refl

pub marked : (m : ℕ) → not (eqb m 0) ≡ is_marked (mark_of m)
marked m = marked_by_lem (eqb m 0)

-- from lsl on, number 7, no opcode has a macro
no_macro : (n : ℕ) → has_macro (opcode_of (suc (suc (suc (suc (suc (suc (suc n)))))))) ≡ false
unfolding has_macro
no_macro zero = refl
no_macro (suc zero) = refl
no_macro (suc (suc zero)) = refl
no_macro (suc (suc (suc zero))) = refl
no_macro (suc (suc (suc (suc zero)))) = refl
no_macro (suc (suc (suc (suc (suc zero))))) = refl
no_macro (suc (suc (suc (suc (suc (suc n)))))) = refl

pub macro_number : (n : ℕ) → (leb 2 n && leb n 6) ≡ has_macro (opcode_of n)
unfolding has_macro
macro_number zero = refl
macro_number (suc zero) = refl
macro_number (suc (suc zero)) = refl
macro_number (suc (suc (suc zero))) = refl
macro_number (suc (suc (suc (suc zero)))) = refl
macro_number (suc (suc (suc (suc (suc zero))))) = refl
macro_number (suc (suc (suc (suc (suc (suc zero)))))) = refl
macro_number (suc (suc (suc (suc (suc (suc (suc n))))))) =
    let m = suc (suc (suc (suc (suc (suc (suc n)))))) in
    rw (le-leb 2 m (omega arith), lt-leb m 6 (omega arith)) (sym (no_macro n))

module _ (n : ℕ) where
  -- a target's line is 1 less than its number
  pub above : (k : ℕ) → ltb (k + 1) n ≡ is_above k (target_of n)
  unfolding is_above target_of
  above k =
      below n 1 (λ l. rw (eq-eqb n 0 (omega arith), le-ltb (k + 1) n (omega arith))) (λ g.
      below (k + 1) n (λ l. rw (ne_eqb n 0 (λ e. omega arith), lt-ltb (k + 1) n l, lt-ltb k (n - 1) (omega arith)))
      (λ l. rw (ne_eqb n 0 (λ e. omega arith), le-ltb (k + 1) n l, le-ltb k (n - 1) (omega arith))))

  -- an empty field and a literal name no place
  pub low-kind : n < registers → kind_of (operand_of n) ≡ Neither
  unfolding kind_of
  low-kind h = low_form n (λ o. kind_of o ≡ Neither) h refl (λ k. refl)

  pub low_free : n < registers → is_reserved (operand_of n) ≡ false
  unfolding is_reserved
  low_free h = low_form n (λ o. is_reserved o ≡ false) h refl (λ k. refl)

  -- an operand below the indirect ones has no base
  pub no_base : n < publics → has_sensitive_base (operand_of n) ≡ false
  unfolding has_sensitive_base
  no_base h =
      by_form n (λ o. has_sensitive_base o ≡ false) (λ l. refl) (λ g l. refl) (λ g l. refl) (λ g l. refl)
      (λ g l. absurd (omega arith)) (λ g l. absurd (omega arith)) (λ g. absurd (omega arith))

  -- no literal
  pub high_bit : registers ≤ n → is_no_bit (operand_of n) ≡ false
  unfolding is_no_bit
  high_bit h =
      by_form n (λ o. is_no_bit o ≡ false) (λ l. absurd (omega arith)) (λ g l. absurd (omega arith)) (λ g l. refl) (λ g l. refl)
      (λ g l. refl) (λ g l. refl) (λ g. refl)

-- whether a number names public places, by its range
module _ (n : ℕ) where
  pub high_public : sensitives ≤ n → false ≡ is_public (kind_of (operand_of n))
  unfolding kind_of
  high_public h =
      by_form n (λ o. false ≡ is_public (kind_of o)) (λ l. refl) (λ g l. refl) (λ g l. absurd (omega arith)) (λ g l. absurd (omega arith))
      (λ g l. absurd (omega arith)) (λ g l. refl) (λ g. refl)

  pub indirect_public : publics ≤ n → n < sensitives → true ≡ is_public (kind_of (operand_of n))
  unfolding kind_of
  indirect_public g l = rw (public_cell n g l)

  pub cell_public : cells ≤ n → n < publics → ltb (n - cells) 128 ≡ is_public (kind_of (operand_of n))
  unfolding kind_of kind
  cell_public g l =
      let m = n - cells in
      rw (cell n g l, le-ltb (32 + m) 4 (omega arith), le-ltb (32 + m) 16 (omega arith), le-ltb (32 + m) 32 (omega arith))
      (below m 128 (λ h. rw (lt-ltb m 128 h, lt-ltb (32 + m) 160 (omega arith)))
      (λ h. rw (le-ltb m 128 h, le-ltb (32 + m) 160 (omega arith)) (past-cells (ltb (32 + m) 288))))
    where
      past-cells : (t : Bool) → false ≡ is_public (cond t Sensitive Neither)
      past-cells true = refl
      past-cells false = refl

  pub low_public : n < registers + 4 → false ≡ is_public (kind_of (operand_of n))
  unfolding kind_of kind
  low_public h =
      below n registers (λ l. rw (low-kind n l))
      (λ g. rw (register n g (omega arith), lt-ltb (n - registers) 4 (omega arith)))

  pub register_public : registers + 4 ≤ n → n < cells → ltb n (registers + 16) ≡ is_public (kind_of (operand_of n))
  unfolding kind_of kind
  register_public g l =
      let r = n - registers in
      rw (register n (omega arith) l, le-ltb r 4 (omega arith))
      (below r 16 (λ h. rw (lt-ltb n (registers + 16) (omega arith), lt-ltb r 16 h))
      (λ h. rw (le-ltb n (registers + 16) (omega arith), le-ltb r 16 h, lt-ltb r 32 (omega arith))))

  pub below_cells : n < cells → (leb (registers + 4) n && ltb n (registers + 16)) ≡ is_public (kind_of (operand_of n))
  below_cells h = below n (registers + 4) (λ l. rw (lt-leb (registers + 4) n l) (low_public l)) (λ g. rw (le-leb (registers + 4) n g) (register_public g h))
