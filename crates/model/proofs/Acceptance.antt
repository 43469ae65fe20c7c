-- What acceptance says of a line's operands: those of an unmarked line are public, the destination of a marked one is sensitive. Each
-- condition that does not hold gives a bound. Assumes nothing.
use mathlib.Core.Path.{◌≡◌, refl, sym, subst}
use mathlib.Core.Bool.{Bool, true, false, not, cond, ◌&&◌, ◌||◌}
use mathlib.Core.List.{List, [], ◌∷◌}
use mathlib.Core.Option.{some}
use Prim.Native.Nat.{ℕ, zero, suc, ◌+◌, ◌≤◌, ◌<◌}
use native.Mathlib.Omega.{arith}
use borrow.Author.Tests.{ltb-false, eqb-true}
use Rattle.model.specs.Limits.{max_accepted}
use Rattle.model.specs.Answers.{counted}
use lib.Dec.{T, eqb, ltb, ltb→lt, nltb→le, leb→le, nleb→lt}
use lib.ListN.{length, get_elem?}
use Rattle.model.specs.declared.Mark.{Mark}
use Rattle.model.specs.declared.Mark.TheVariants.{Unmarked, Marked}
use Rattle.model.specs.declared.Opcode.{Opcode}
use Rattle.model.specs.declared.Operand.{Operand}
use Rattle.model.specs.declared.Operand.TheVariants.{Empty, Literal, Register, Cell, PublicCell, SensitiveCell, TableCell}
use Rattle.model.specs.declared.Target.{Target}
use Rattle.model.specs.declared.Line.{Line}
use Rattle.model.specs.declared.Kind.{Kind}
use Rattle.model.specs.declared.Kind.TheVariants.{Neither, Public, Sensitive}
use Rattle.model.specs.Places.{kind, kind_of, is_public, is_sensitive}
use Rattle.model.specs.Lines.{fills, operand_right, is_literal, correct, AllCorrect}
use Rattle.model.specs.Marks.{is_reserved, has_sensitive_base, is_no_bit, has_macro, holds10, holds11, holds12, holds14, holds15, holds16, mark_fault, first_bad, marks_of, Accepted}
use Rattle.model.proofs.TestLaws.{below, is_true, and_both}
use Rattle.model.proofs.StoredLaws.{correct_fields, counted_count, counted_if, counted_unless}
use Rattle.model.proofs.PlaceLaws.{public_register, sensitive_register, public_cell, sensitive_cell}
use Rattle.model.proofs.Operands.{Base, SensitivePlace, SensitiveArgument, PublicOperand, MarkedArgument, public_bit, sensitive_bit}

ruleset bounds = (arith, ltb→lt, nltb→le, leb→le, nleb→lt)

abbrev pub mk : Mark → Opcode → Operand → Operand → Operand → Target → Line
mk m op d a b t = record { mark = m; opcode = op; destination = d; first = a; second = b; target = t }

-- every line is correct, and no condition of a program of n lines holds of it
unfoldable pub AllRight : ℕ → List Line → Type 0
AllRight n [] = Unit {0}
AllRight n (l ∷ ls) = T (correct l) × (mark_fault n l ≡ 0) × AllRight n ls

right-from : (n i m : ℕ) (p : List Line) → AllCorrect p → first_bad n i p ≡ counted m → AllRight n p × (m ≡ n)
unfolding first_bad AllRight
right-from n i m [] h e = (tt, sym (counted_count e))
right-from n i m (l ∷ p) h e =
    let w = counted_if (eqb (mark_fault n l) 0) (first_bad n (i + 1) p) (mark_fault n l) i m e in
    let r = right-from n (i + 1) m p h.1 w.1 in
    ((h.0, eqb-true (mark_fault n l) 0 w.0, r.0), r.1)

pub record MarksRight (p : List Line) (n : ℕ) : Type 0 where
  pub count : n ≡ length p
  pub few : length p ≤ max_accepted
  pub right : AllRight (length p) p

pub marks-right : (p : List Line) (n : ℕ) → AllCorrect p → marks_of p ≡ counted n → MarksRight p n
unfolding marks_of
marks-right p n h e =
    let w = counted_unless (ltb max_accepted (length p)) (first_bad (length p) 0 p) 9 0 n e in
    let r = right-from (length p) 0 n p h w.1 in
    record { count = r.1; few = ltb-false max_accepted (length p) w.0; right = r.0 }

pub accepted_right : (p : List Line) → Accepted p → MarksRight p (length p)
unfolding Accepted
accepted_right p A = marks-right p (length p) A.0 A.1

pub line_at : (n : ℕ) (p : List Line) → AllRight n p → (k : ℕ) (l : Line) → get_elem? p k ≡ some l → T (correct l) × (mark_fault n l ≡ 0)
unfolding AllRight
line_at n [] h k l e = let z : ◌≡◌ {A = ℕ} 0 1 = cc in absurd (omega arith)
line_at n (x ∷ p) h zero l e = let q : x ≡ l = cc in subst (λ (y : Line). T (correct y) × (mark_fault n y ≡ 0)) q (h.0, h.1)
line_at n (x ∷ p) h (suc k) l e = line_at n p h.2 k l e

-- ---- tests

pub nor_T : (a b : Bool) → T (not (a || b)) → T (not a) × T (not b)
nor_T true b h = absurd h
nor_T false b h = (tt, h)

-- a test that fails of all three operands
three : (x y z : Bool) → T (not (x || y || z)) → T (not x) × T (not y) × T (not z)
three x y z h =
    let f = nor_T (x || y) z h in
    let g = nor_T x y f.0 in
    (g.0, g.1, f.1)

cond_zero : (b : Bool) (c m : ℕ) → 0 < c → cond b c m ≡ 0 → T (not b) × (m ≡ 0)
cond_zero true c m h e = absurd (omega arith)
cond_zero false c m h e = (tt, e)

not_not : (b : Bool) → T (not (not b)) → T b
not_not true h = tt
not_not false h = h

never_public : (i : ℕ) → kind i ≡ Public → T (not (is_public (kind i))) → ⊥
never_public i e h = rw e at h

never_sensitive : (i : ℕ) → kind i ≡ Sensitive → T (not (is_sensitive (kind i))) → ⊥
never_sensitive i e h = rw e at h

-- registers past r3 that are not public are sensitive, and the other way round; so with cells up to 255, and bases
not_public_register : (n : ℕ) → 4 ≤ n → T (not (is_public (kind n))) → 16 ≤ n
not_public_register n g h = below n 16 (λ l. absurd (never_public n (public_register n g l) h)) (λ l. l)

not_sensitive_register : (n : ℕ) → n < 32 → T (not (is_sensitive (kind n))) → n < 16
not_sensitive_register n g h = below n 16 (λ l. l) (λ l. absurd (never_sensitive n (sensitive_register n l g) h))

not_public_cell : (n : ℕ) → T (not (is_public (kind (32 + n)))) → 128 ≤ n
not_public_cell n h = below n 128 (λ l. absurd (never_public (32 + n) (public_cell (32 + n) (omega arith) (omega arith)) h)) (λ l. l)

not_sensitive_cell : (n : ℕ) → n < 256 → T (not (is_sensitive (kind (32 + n)))) → n < 128
not_sensitive_cell n g h = below n 128 (λ l. l) (λ l. absurd (never_sensitive (32 + n) (sensitive_cell (32 + n) (omega arith) (omega arith)) h))

base_of : (r : ℕ) → r < 32 → T (not (ltb r 4)) → T (not (is_sensitive (kind r))) → Base r
base_of r g h s = (nltb→le r 4 h, not_sensitive_register r g s)

-- ---- operands

-- an operand that names no reserved place and has no sensitive base
pub record Clean (o : Operand) : Type 0 where
  pub range : T (operand_right true o)
  pub named : T (not (is_reserved o))
  pub based : T (not (has_sensitive_base o))

sensitive_place : (o : Operand) → Clean o → is_literal o ≡ false → T (not (is_public (kind_of o))) → SensitivePlace o
unfolding operand_right is_literal is_reserved has_sensitive_base kind_of
sensitive_place Empty c i p = c.range
sensitive_place (Literal x) c i p = let z : ◌≡◌ {A = ℕ} 0 1 = cc in absurd (omega arith)
sensitive_place (Register x) c i p = (not_public_register x (nltb→le x 4 c.named) p, ltb→lt x 32 c.range)
sensitive_place (Cell x) c i p = (not_public_cell x p, omega (bounds, nltb→le 255 x c.named))
sensitive_place (PublicCell r k) c i p = p
sensitive_place (SensitiveCell r k) c i p = base_of r (ltb→lt r 32 (and_both (ltb r 32) (ltb k 128) c.range).0) c.named c.based
sensitive_place (TableCell r k) c i p = c.named

sensitive_argument : (o : Operand) → Clean o → T (not (is_public (kind_of o))) → T (not (is_no_bit o)) → SensitiveArgument o
unfolding is_literal is_no_bit
sensitive_argument Empty c p n = sensitive_place Empty c refl p
sensitive_argument (Literal x) c p n = nltb→le 1 x n
sensitive_argument (Register x) c p n = sensitive_place (Register x) c refl p
sensitive_argument (Cell x) c p n = sensitive_place (Cell x) c refl p
sensitive_argument (PublicCell r k) c p n = sensitive_place (PublicCell r k) c refl p
sensitive_argument (SensitiveCell r k) c p n = sensitive_place (SensitiveCell r k) c refl p
sensitive_argument (TableCell r k) c p n = sensitive_place (TableCell r k) c refl p

public_operand : (b : Bool) (o : Operand) → T (operand_right b o) → T (not (is_reserved o)) → T (not (has_sensitive_base o)) → T (not (is_sensitive (kind_of o))) → PublicOperand o
unfolding operand_right is_reserved has_sensitive_base kind_of
public_operand b Empty f r s p = tt
public_operand b (Literal x) f r s p = tt
public_operand b (Register x) f r s p = (nltb→le x 4 r, not_sensitive_register x (ltb→lt x 32 (and_both b (ltb x 32) f).1) p)
public_operand b (Cell x) f r s p = not_sensitive_cell x (omega (bounds, nltb→le 255 x r)) p
public_operand b (PublicCell x k) f r s p = base_of x (ltb→lt x 32 (and_both b (ltb x 32) (and_both (b && ltb x 32) (ltb k 128) f).0).1) r s
public_operand b (SensitiveCell x k) f r s p = p
public_operand b (TableCell x k) f r s p = r

-- an argument of public kind is a public operand
public_argument : (o : Operand) → Clean o → is_public (kind_of o) ≡ true → PublicOperand o
public_argument o c e = public_operand true o c.range c.named c.based (by (kind_of o) e)
  where
    by : (k : Kind) → is_public k ≡ true → T (not (is_sensitive k))
    by Neither h = tt
    by Public h = tt
    by Sensitive h = let z : ◌≡◌ {A = ℕ} 0 1 = cc in absurd (omega arith)

marked_argument : (o : Operand) → Clean o → T (not (is_no_bit o)) → MarkedArgument o
marked_argument o c n = by (is_public (kind_of o)) refl
  where
    by : (p : Bool) → is_public (kind_of o) ≡ p → MarkedArgument o
    by true e = public_bit e (public_argument o c e)
    by false e = sensitive_bit e (sensitive_argument o c (rw e tt) n)

-- ---- lines

-- none of the conditions holds
pub record Clear (n : ℕ) (l : Line) : Type 0 where
  pub c10 : T (not (holds10 l))
  pub c11 : T (not (holds11 l))
  pub c12 : T (not (holds12 l))
  pub c14 : T (not (holds14 l))
  pub c15 : T (not (holds15 l))
  pub c16 : T (not (holds16 n l))

pub clear : (n : ℕ) (l : Line) → mark_fault n l ≡ 0 → Clear n l
unfolding mark_fault
clear n l e =
    let h10 = cond_zero (holds10 l) 10 _ (omega arith) e in
    let h11 = cond_zero (holds11 l) 11 _ (omega arith) h10.1 in
    let h12 = cond_zero (holds12 l) 12 _ (omega arith) h11.1 in
    let h14 = cond_zero (holds14 l) 14 _ (omega arith) h12.1 in
    let h15 = cond_zero (holds15 l) 15 _ (omega arith) h14.1 in
    let h16 = cond_zero (holds16 n l) 16 _ (omega arith) h15.1 in
    record { c10 = h10.0; c11 = h11.0; c12 = h12.0; c14 = h14.0; c15 = h15.0; c16 = h16.0 }

pub record Plain (d a b : Operand) : Type 0 where
  pub destination : PublicOperand d
  pub first : PublicOperand a
  pub second : PublicOperand b

pub plain : (n : ℕ) (op : Opcode) (d a b : Operand) (t : Target) → T (correct (mk Unmarked op d a b t)) → mark_fault n (mk Unmarked op d a b t) ≡ 0 → Plain d a b
unfolding holds10 holds11 holds12
plain n op d a b t h e =
    let c = clear n (mk Unmarked op d a b t) e in
    let f = correct_fields (mk Unmarked op d a b t) h in
    let r = three (is_reserved d) (is_reserved a) (is_reserved b) c.c10 in
    let s = nor_T (is_sensitive (kind_of a) || is_sensitive (kind_of b)) (has_sensitive_base d || has_sensitive_base a || has_sensitive_base b) c.c12 in
    let i = nor_T (is_sensitive (kind_of a)) (is_sensitive (kind_of b)) s.0 in
    let g = three (has_sensitive_base d) (has_sensitive_base a) (has_sensitive_base b) s.1 in
    record {
      destination = public_operand (fills op).destination d f.destination r.0 g.0 c.c11;
      first = public_operand (fills op).first a f.first r.1 g.1 i.0;
      second = public_operand (fills op).second b f.second r.2 g.2 i.1;
    }

-- the operands of a marked line
pub record MarkedOperands (op : Opcode) (d a b : Operand) : Type 0 where
  pub able : T (has_macro op)
  pub destination : T (fills op).destination → SensitivePlace d
  pub first : T (fills op).first → MarkedArgument a
  pub second : T (fills op).second → MarkedArgument b

clean : (must : Bool) (o : Operand) → T (operand_right must o) → T (not (is_reserved o)) → T (not (has_sensitive_base o)) → T must → Clean o
clean must o f r s x = record { range = subst (λ (y : Bool). T (operand_right y o)) (is_true must x) f; named = r; based = s }

pub marked_operands : (n : ℕ) (op : Opcode) (d a b : Operand) (t : Target) → T (correct (mk Marked op d a b t)) → mark_fault n (mk Marked op d a b t) ≡ 0 → MarkedOperands op d a b
unfolding holds10 holds11 holds12 holds14 holds15
marked_operands n op d a b t h e =
    let c = clear n (mk Marked op d a b t) e in
    let f = correct_fields (mk Marked op d a b t) h in
    let r = three (is_reserved d) (is_reserved a) (is_reserved b) c.c10 in
    let g = three (has_sensitive_base d) (has_sensitive_base a) (has_sensitive_base b) c.c12 in
    let q = nor_T (is_no_bit a) (is_no_bit b) c.c15 in
    record {
      able = not_not (has_macro op) c.c14;
      destination = λ x. sensitive_place d (clean (fills op).destination d f.destination r.0 g.0 x) f.place c.c11;
      first = λ x. marked_argument a (clean (fills op).first a f.first r.1 g.1 x) q.0;
      second = λ x. marked_argument b (clean (fills op).second b f.second r.2 g.2 x) q.1;
    }
