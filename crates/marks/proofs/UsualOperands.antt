-- What the conditions say of a line, by whether all its operands are usual. Assumes nothing.
use mathlib.Core.Path.{◌≡◌, refl, sym, ◌∙◌}
use mathlib.Core.Bool.{Bool, true, false, not, ◌&&◌, ◌||◌, false≢true}
use Prim.Native.Nat.{ℕ, ◌+◌, ◌-◌, ◌/◌, ◌%◌, ◌≤◌, ◌<◌}
use native.Mathlib.Omega.{arith}
use borrow.Author.Tests.{lt-ltb, le-ltb, le-leb, lt-leb}
use lib.Dec.{ltb, leb}
use Rattle.model.specs.declared.Line.{Line}
use Rattle.model.specs.Places.{kind, is_sensitive}
use Rattle.model.specs.Stored.{registers, cells, publics, sensitives, tables, operand_of}
use Rattle.model.specs.Marks.{is_reserved, has_sensitive_base, reads_sensitive, holds10, holds12}
use Rattle.model.proofs.TestLaws.{below}
use Rattle.model.proofs.Forms.{low_form, register, cell, public_cell, sensitive_cell, table_cell}
use Rattle.marks.specs.Usual.{usual, all_usual}

-- ---- an operand, by the range of its number

-- a base: r4 to r15
base-usual : (r : ℕ) → r < 32 → (leb 4 r && ltb r 16) ≡ not (ltb r 4 || is_sensitive (kind r))
unfolding kind
base-usual r h =
    below r 4 (λ l. rw (lt-ltb r 4 l, lt-leb 4 r l))
    (λ g. below r 16 (λ l. rw (le-ltb r 4 g, le-leb 4 r g, lt-ltb r 16 l)) (λ k. rw (le-ltb r 4 g, le-leb 4 r g, le-ltb r 16 k, lt-ltb r 32 h)))

not_below : (m n : ℕ) → leb m n ≡ not (ltb n m)
not_below m n = below n m (λ l. rw (lt-ltb n m l, lt-leb m n l)) (λ g. rw (le-ltb n m g, le-leb m n g))

plain : (b : Bool) → not b ≡ not (b || false)
plain true = refl
plain false = refl

module _ (n : ℕ) where
  pub low-usual : n < cells → (ltb n registers || leb (registers + 4) n) ≡ usual (operand_of n)
  unfolding is_reserved has_sensitive_base
  low-usual h =
      below n registers (λ l. rw (lt-ltb n registers l) (low_form n (λ o. true ≡ usual o) l refl (λ k. refl)))
      (λ g. rw (le-ltb n registers g, register n g h)
      (below n (registers + 4) (λ l. rw (lt-leb (registers + 4) n l, lt-ltb (n - registers) 4 (omega arith)))
      (λ k. rw (le-leb (registers + 4) n k, le-ltb (n - registers) 4 (omega arith)))))

  pub cell_usual : cells ≤ n → n < publics → leb (n - cells) 255 ≡ usual (operand_of n)
  unfolding is_reserved has_sensitive_base
  cell_usual g l = rw (cell n g l, not_below (n - cells) 255) (plain (ltb 255 (n - cells)))

  pub indirect-usual : publics ≤ n → n < tables → let r = (n - publics) / 128 % 32 in (leb 4 r && ltb r 16) ≡ usual (operand_of n)
  unfolding is_reserved has_sensitive_base
  indirect-usual g h =
      let r = (n - publics) / 128 % 32 in
      base-usual r (omega arith)
      ∙ below n sensitives (λ l. let q : r ≡ (n - publics) / 128 = omega arith in rw (public_cell n g l, q))
      (λ k. let q : r ≡ (n - sensitives) / 128 = omega arith in rw (sensitive_cell n k h, q))

  pub table_usual : tables ≤ n → false ≡ usual (operand_of n)
  unfolding is_reserved has_sensitive_base
  table_usual g = rw (table_cell n g)

-- ---- a line

both : (x y : Bool) → (x && y) ≡ true → (x ≡ true) × (y ≡ true)
both true y e = (refl, e)
both false y e = absurd (false≢true e)

neither : (x y : Bool) → not (x || y) ≡ true → (x ≡ false) × (y ≡ false)
neither false y e = (refl, no_true y e)
  where
    no_true : (y : Bool) → not y ≡ true → y ≡ false
    no_true false e = refl
    no_true true e = absurd (false≢true e)
neither true y e = absurd (false≢true e)

no_or : (x y : Bool) → (x || y) ≡ false → (x ≡ false) × (y ≡ false)
no_or false y e = (refl, e)
no_or true y e = absurd (false≢true (sym e))

-- not all of three that are free without one
one_of : (x y z : Bool) → (not x && (not y && not z)) ≡ false → (x || y || z) ≡ true
one_of true y z e = refl
one_of false true z e = refl
one_of false false true e = refl
one_of false false false e = absurd (false≢true (sym e))

module _ (l : Line) where
  -- what is told of each operand where all are usual
  pub each : all_usual l.destination l.first l.second ≡ true
      → ((is_reserved l.destination ≡ false) × (has_sensitive_base l.destination ≡ false)) × ((is_reserved l.first ≡ false) × (has_sensitive_base l.first ≡ false)) × ((is_reserved l.second ≡ false) × (has_sensitive_base l.second ≡ false))
  each e =
      let w = both (usual l.destination) (usual l.first && usual l.second) e in
      let v = both (usual l.first) (usual l.second) w.1 in
      (neither (is_reserved l.destination) (has_sensitive_base l.destination) w.0, neither (is_reserved l.first) (has_sensitive_base l.first) v.0, neither (is_reserved l.second) (has_sensitive_base l.second) v.1)

  pub usual_10 : all_usual l.destination l.first l.second ≡ true → false ≡ holds10 l
  unfolding holds10
  usual_10 e = let w = each e in rw (w.0.0, w.1.0, w.2.0)

  pub usual_12 : all_usual l.destination l.first l.second ≡ true → reads_sensitive l.mark l.first l.second ≡ holds12 l
  unfolding holds12
  usual_12 e = let w = each e in rw (w.0.1, w.1.1, w.2.1) (sym (alone (reads_sensitive l.mark l.first l.second)))
    where
      alone : (b : Bool) → (b || false) ≡ b
      alone true = refl
      alone false = refl

  -- one that is not reserved has a sensitive base
  pub other_12 : all_usual l.destination l.first l.second ≡ false → false ≡ holds10 l → true ≡ holds12 l
  unfolding holds10 holds12
  other_12 e h =
      let w = no_or (is_reserved l.destination || is_reserved l.first) (is_reserved l.second) (sym h) in
      let v = no_or (is_reserved l.destination) (is_reserved l.first) w.0 in
      rw (one_of (has_sensitive_base l.destination) (has_sensitive_base l.first) (has_sensitive_base l.second) (rw (v.0, v.1, w.1) at e)) (sym (any (reads_sensitive l.mark l.first l.second)))
    where
      any : (b : Bool) → (b || true) ≡ true
      any true = refl
      any false = refl
