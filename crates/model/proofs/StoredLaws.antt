-- Stored numbers and lines are inverse to each other, for one line and for a whole program: a field's number lies in the range of
-- its form, and the ranges do not meet. Assumes nothing.
use Prim.Native.Nat.{ℕ, zero, suc, ◌+◌, ◌*◌, ◌-◌, ◌/◌, ◌%◌, ◌<◌, ◌≤◌}
use mathlib.Core.Path.{◌≡◌, refl, sym, ap, ap₂, ◌∙◌}
use mathlib.Core.List.{List, [], ◌∷◌, ◌++◌, flat_map, append-nil}
use mathlib.Core.Bool.{Bool, true, false, cond, not, beq, ◌&&◌}
use mathlib.Core.Option.{Option, none, some}
use native.Mathlib.Omega.{arith}
use borrow.Author.Tests.{eq-eqb, ne_eqb, lt-ltb, le-ltb, ltb-true, ltb-false, eqb-true}
use lib.Dec.{T, ltb, eqb, leb→le, ltb→lt, le→leb, lt→ltb}
use lib.ListN.{length, take, drop, get_or, get_elem?, length-append, length-drop}
use lib.Seq.{get_or-drop, drop-drop, take-add, get_or-append-add}
use Rattle.model.specs.declared.Mark.{Mark}
use Rattle.model.specs.declared.Mark.TheVariants.{Unmarked, Marked}
use Rattle.model.specs.declared.Opcode.{Opcode}
use Rattle.model.specs.declared.Opcode.TheVariants.{Nop, Jmp, Not, Mov, And, Orr, Xor, Lsl, Lsr, Add, Mul, Beq, Bne}
use Rattle.model.specs.declared.Operand.{Operand}
use Rattle.model.specs.declared.Operand.TheVariants.{Empty, Literal, Register, Cell, PublicCell, SensitiveCell, TableCell}
use Rattle.model.specs.declared.Target.{Target}
use Rattle.model.specs.declared.Target.TheVariants.{Empty as NoTarget, Line as ToLine}
use Rattle.model.specs.declared.Line.{Line}
use Rattle.model.specs.Limits.{line_width, max_lines}
use Rattle.model.specs.Answers.{Report, counted, refused}
use Rattle.model.specs.Lines.{Filled, filled, fills, is_literal, operand_right, target_right, correct, AllCorrect}
use Rattle.model.specs.Stored.{literals, registers, cells, publics, sensitives, tables, marks, opcodes, operands, targets, mark_code, opcode_code, operand_code, target_code, codes, mark_of, opcode_of, operand_of, target_of, line_of, Field, Parsed, numbers, wrong, or_wrong, same_filled, no_literal, parsed, stored_field, parsed_numbers, fault, line_count, at_line, line_at, fault_at, lines_from, lines, check_from, program_check}
use Rattle.model.proofs.Forms.{literal, register, cell, public_cell, sensitive_cell, table_cell, by_form, operand_number}
use Rattle.model.proofs.TestLaws.{below, is_true, holds, and_both, both_and, some_if, get_past}

-- ---- a field's number, its form, and its number again

two_below : (r b k c : ℕ) → r < b → k < c → T (ltb r b && ltb k c)
two_below r b k c h g = both_and (ltb r b) (ltb k c) (lt→ltb r b h) (lt→ltb k c g)

-- a number below `operands` stands for an operand in its range
pub operand_back : (n : ℕ) → n < operands → T (operand_right (ltb 0 n) (operand_of n))
unfolding operand_right
operand_back n h =
    by_form n (λ o. T (operand_right (ltb 0 n) o)) (λ l. rw (le-ltb 0 n (omega arith)) tt)
    (λ g l. rw (lt-ltb 0 n (omega arith)) (omega (arith, le→leb)))
    (λ g l. rw (lt-ltb 0 n (omega arith)) (omega (arith, lt→ltb)))
    (λ g l. rw (lt-ltb 0 n (omega arith)) (omega (arith, lt→ltb)))
    (λ g l. rw (lt-ltb 0 n (omega arith)) (two_below ((n - publics) / 128) 32 ((n - publics) % 128) 128 (omega arith) (omega arith)))
    (λ g l. rw (lt-ltb 0 n (omega arith)) (two_below ((n - sensitives) / 128) 32 ((n - sensitives) % 128) 128 (omega arith) (omega arith)))
    (λ g. rw (lt-ltb 0 n (omega arith)) (two_below ((n - tables) / 256) 32 ((n - tables) % 256) 256 (omega arith) (omega arith)))

pub target_back : (n : ℕ) → n < targets → T (target_right (ltb 0 n) (target_of n)) × (target_code (target_of n) ≡ n)
unfolding target_of target_right
target_back n h =
    below n 1 (λ l. rw (eq-eqb n 0 (omega arith), le-ltb 0 n (omega arith)) (tt, omega arith))
    (λ g. rw (ne_eqb n 0 (λ z. omega arith), lt-ltb 0 n g) (omega (arith, le→leb), omega arith))

pub mark_back : (n : ℕ) → n < marks → mark_code (mark_of n) ≡ n
mark_back n h = below n 1 (λ l. rw (eq-eqb n 0 (omega arith)) (omega arith)) (λ g. rw (ne_eqb n 0 (λ z. omega arith)) (omega arith))

pub opcode_back : (n : ℕ) → n < opcodes → opcode_code (opcode_of n) ≡ n
opcode_back zero h = refl
opcode_back (suc zero) h = refl
opcode_back (suc (suc zero)) h = refl
opcode_back (suc (suc (suc zero))) h = refl
opcode_back (suc (suc (suc (suc zero)))) h = refl
opcode_back (suc (suc (suc (suc (suc zero))))) h = refl
opcode_back (suc (suc (suc (suc (suc (suc zero)))))) h = refl
opcode_back (suc (suc (suc (suc (suc (suc (suc zero))))))) h = refl
opcode_back (suc (suc (suc (suc (suc (suc (suc (suc zero)))))))) h = refl
opcode_back (suc (suc (suc (suc (suc (suc (suc (suc (suc zero))))))))) h = refl
opcode_back (suc (suc (suc (suc (suc (suc (suc (suc (suc (suc zero)))))))))) h = refl
opcode_back (suc (suc (suc (suc (suc (suc (suc (suc (suc (suc (suc zero))))))))))) h = refl
opcode_back (suc (suc (suc (suc (suc (suc (suc (suc (suc (suc (suc (suc zero)))))))))))) h = refl
opcode_back (suc (suc (suc (suc (suc (suc (suc (suc (suc (suc (suc (suc (suc n))))))))))))) h = absurd (omega arith)

-- ---- a field, its number, and the field again

pub record OperandCodes (must : Bool) (op : Operand) : Type 0 where
  pub same : operand_of (operand_code op) ≡ op
  pub filled : ltb 0 (operand_code op) ≡ must
  pub range : operand_code op < operands

pub operand_there : (must : Bool) (op : Operand) → T (operand_right must op) → OperandCodes must op
unfolding operand_of operand_right
operand_there false Empty h = record { same = refl; filled = refl; range = omega arith }
operand_there true Empty h = absurd h
operand_there false (Literal n) h = absurd h
operand_there false (Register n) h = absurd h
operand_there false (Cell n) h = absurd h
operand_there false (PublicCell r k) h = absurd h
operand_there false (SensitiveCell r k) h = absurd h
operand_there false (TableCell r k) h = absurd h
operand_there true (Literal n) h =
    let c : ℕ = literals + n in
    let l : n ≤ 255 = leb→le n 255 h in
    record { same = literal c (omega arith) (omega arith) ∙ ap Literal (omega arith); filled = lt-ltb 0 c (omega arith); range = omega arith }
operand_there true (Register n) h =
    let c : ℕ = registers + n in
    let l : n < 32 = ltb→lt n 32 h in
    record { same = register c (omega arith) (omega arith) ∙ ap Register (omega arith); filled = lt-ltb 0 c (omega arith); range = omega arith }
operand_there true (Cell n) h =
    let c : ℕ = cells + n in
    let l : n < 512 = ltb→lt n 512 h in
    record { same = cell c (omega arith) (omega arith) ∙ ap Cell (omega arith); filled = lt-ltb 0 c (omega arith); range = omega arith }
operand_there true (PublicCell r k) h =
    let c : ℕ = publics + 128 * r + k in
    let w = and_both (ltb r 32) (ltb k 128) h in
    let l : r < 32 = ltb→lt r 32 w.0 in
    let m : k < 128 = ltb→lt k 128 w.1 in
    record { same = public_cell c (omega arith) (omega arith) ∙ ap₂ PublicCell (omega arith) (omega arith); filled = lt-ltb 0 c (omega arith); range = omega arith }
operand_there true (SensitiveCell r k) h =
    let c : ℕ = sensitives + 128 * r + k in
    let w = and_both (ltb r 32) (ltb k 128) h in
    let l : r < 32 = ltb→lt r 32 w.0 in
    let m : k < 128 = ltb→lt k 128 w.1 in
    record { same = sensitive_cell c (omega arith) (omega arith) ∙ ap₂ SensitiveCell (omega arith) (omega arith); filled = lt-ltb 0 c (omega arith); range = omega arith }
operand_there true (TableCell r k) h =
    let c : ℕ = tables + 256 * r + k in
    let w = and_both (ltb r 32) (ltb k 256) h in
    let l : r < 32 = ltb→lt r 32 w.0 in
    let m : k < 256 = ltb→lt k 256 w.1 in
    record { same = table_cell c (omega arith) ∙ ap₂ TableCell (omega arith) (omega arith); filled = lt-ltb 0 c (omega arith); range = omega arith }

pub record TargetCodes (must : Bool) (t : Target) : Type 0 where
  pub same : target_of (target_code t) ≡ t
  pub filled : ltb 0 (target_code t) ≡ must
  pub range : target_code t < targets

pub target_there : (must : Bool) (t : Target) → T (target_right must t) → TargetCodes must t
unfolding target_of target_right
target_there false NoTarget h = record { same = refl; filled = refl; range = omega arith }
target_there true NoTarget h = absurd h
target_there false (ToLine t) h = absurd h
target_there true (ToLine t) h =
    let l : t ≤ max_lines = leb→le t max_lines h in
    record { same = rw (ne_eqb (1 + t) 0 (λ z. omega arith)) (ap ToLine (omega arith)); filled = lt-ltb 0 (1 + t) (omega arith); range = omega arith }

pub opcode_there : (o : Opcode) → (opcode_of (opcode_code o) ≡ o) × (opcode_code o < opcodes)
opcode_there Nop = (refl, omega arith)
opcode_there Jmp = (refl, omega arith)
opcode_there Not = (refl, omega arith)
opcode_there Mov = (refl, omega arith)
opcode_there And = (refl, omega arith)
opcode_there Orr = (refl, omega arith)
opcode_there Xor = (refl, omega arith)
opcode_there Lsl = (refl, omega arith)
opcode_there Lsr = (refl, omega arith)
opcode_there Add = (refl, omega arith)
opcode_there Mul = (refl, omega arith)
opcode_there Beq = (refl, omega arith)
opcode_there Bne = (refl, omega arith)

pub mark_there : (m : Mark) → (mark_of (mark_code m) ≡ m) × (mark_code m < marks)
mark_there Unmarked = (refl, omega arith)
mark_there Marked = (refl, omega arith)

-- ---- six fields and the numbers that they give

-- the numbers of six fields that are a line
pub record Parts (m o d a b t : Field) : Type 0 where
  pub mark : ℕ
  pub opcode : ℕ
  pub destination : ℕ
  pub first : ℕ
  pub second : ℕ
  pub target : ℕ
  pub mark_is : m.number ≡ some mark
  pub opcode_is : o.number ≡ some opcode
  pub fills_so : same_filled (fills (opcode_of opcode)) (filled d.filled a.filled b.filled t.filled) ≡ true
  pub destination_is : d.number ≡ some destination
  pub place : is_literal (operand_of destination) ≡ false
  pub first_is : a.number ≡ some first
  pub second_is : b.number ≡ some second
  pub target_is : t.number ≡ some target

module _ (m o d a b t : Field) where
  pub parts_parsed_lem : (p : Parts m o d a b t) → parsed m o d a b t ≡ numbers (p.mark ∷ p.opcode ∷ p.destination ∷ p.first ∷ p.second ∷ p.target ∷ [])
  unfolding parsed
  parts_parsed_lem p = rw (p.mark_is, p.opcode_is, p.fills_so, p.destination_is, p.place, p.first_is, p.second_is, p.target_is)

record Went (x : Option ℕ) (next : ℕ → Parsed) : Type 0 where
  at : ℕ
  is : x ≡ some at
  goes : fault (next at) ≡ 0

went : (k : ℕ) (x : Option ℕ) (next : ℕ → Parsed) → 0 < k → fault (or_wrong k x next) ≡ 0 → Went x next
went k (some n) next h e = record { at = n; is = refl; goes = e }
went k none next h e = absurd (omega arith)

cond_fault : (t : Bool) (k : ℕ) (x : Parsed) → 0 < k → fault (cond t x (wrong k)) ≡ 0 → (t ≡ true) × (fault x ≡ 0)
cond_fault true k x h e = (refl, e)
cond_fault false k x h e = absurd (omega arith)

if_none : (t : Bool) (n k : ℕ) → cond t none (some n) ≡ some k → (t ≡ false) × (n ≡ k)
if_none true n k e = absurd (let z : ◌≡◌ {A = ℕ} 0 1 = cc in omega arith)
if_none false n k e = (refl, cc)

not_literal : (x : Option ℕ) (k : ℕ) → no_literal x ≡ some k → (x ≡ some k) × (is_literal (operand_of k) ≡ false)
not_literal none k e = absurd (let z : ◌≡◌ {A = ℕ} 0 1 = cc in omega arith)
not_literal (some n) k e =
    let w = if_none (is_literal (operand_of n)) n k e in
    (ap some w.1, rw (← w.1) w.0)

pub parsed_parts : (m o d a b t : Field) → fault (parsed m o d a b t) ≡ 0 → Parts m o d a b t
unfolding parsed
parsed_parts m o d a b t e =
    let n6 : ℕ → ℕ → ℕ → ℕ → ℕ → ℕ → Parsed = λ m' o' d' a' b' t'. numbers (m' ∷ o' ∷ d' ∷ a' ∷ b' ∷ t' ∷ []) in
    let n5 : ℕ → ℕ → ℕ → ℕ → ℕ → Parsed = λ m' o' d' a' b'. or_wrong 6 t.number (n6 m' o' d' a' b') in
    let n4 : ℕ → ℕ → ℕ → ℕ → Parsed = λ m' o' d' a'. or_wrong 6 b.number (n5 m' o' d' a') in
    let n3 : ℕ → ℕ → ℕ → Parsed = λ m' o' d'. or_wrong 6 a.number (n4 m' o' d') in
    let n2 : ℕ → ℕ → Parsed = λ m' o'. or_wrong 6 (no_literal d.number) (n3 m' o') in
    let so : ℕ → Bool = λ o'. same_filled (fills (opcode_of o')) (filled d.filled a.filled b.filled t.filled) in
    let n1 : ℕ → ℕ → Parsed = λ m' o'. cond (so o') (n2 m' o') (wrong 5) in
    let w0 = went 3 m.number (λ m'. or_wrong 4 o.number (n1 m')) (omega arith) e in
    let w1 = went 4 o.number (n1 w0.at) (omega arith) w0.goes in
    let wp = cond_fault (so w1.at) 5 (n2 w0.at w1.at) (omega arith) w1.goes in
    let w2 = went 6 (no_literal d.number) (n3 w0.at w1.at) (omega arith) wp.1 in
    let w3 = went 6 a.number (n4 w0.at w1.at w2.at) (omega arith) w2.goes in
    let w4 = went 6 b.number (n5 w0.at w1.at w2.at w3.at) (omega arith) w3.goes in
    let w5 = went 6 t.number (n6 w0.at w1.at w2.at w3.at w4.at) (omega arith) w4.goes in
    let wd = not_literal d.number w2.at w2.is in
    record {
      mark = w0.at;
      opcode = w1.at;
      destination = w2.at;
      first = w3.at;
      second = w4.at;
      target = w5.at;
      mark_is = w0.is;
      opcode_is = w1.is;
      fills_so = wp.0;
      destination_is = wd.0;
      place = wd.1;
      first_is = w3.is;
      second_is = w4.is;
      target_is = w5.is;
    }

-- ---- six stored numbers

-- six numbers that are a line
pub record Right (m o d a b t : ℕ) : Type 0 where
  pub mark : m < marks
  pub opcode : o < opcodes
  pub fills_so : same_filled (fills (opcode_of o)) (filled (ltb 0 d) (ltb 0 a) (ltb 0 b) (ltb 0 t)) ≡ true
  pub destination : d < operands
  pub place : is_literal (operand_of d) ≡ false
  pub first : a < operands
  pub second : b < operands
  pub target : t < targets

stored_is : (n k : ℕ) → k < n → (stored_field n k).number ≡ some k
stored_is n k h = rw (lt-ltb k n h)

stored_back : (n k j : ℕ) → (stored_field n k).number ≡ some j → (k < n) × (k ≡ j)
stored_back n k j e = let w = some_if (ltb k n) e in (ltb-true k n w.0, w.1)

module _ (m o d a b t : ℕ) where
  pub fault-right : fault (parsed_numbers m o d a b t) ≡ 0 → Right m o d a b t
  fault-right e =
      let p = parsed_parts _ _ _ _ _ _ e in
      let wo = stored_back opcodes o p.opcode p.opcode_is in
      let wd = stored_back operands d p.destination p.destination_is in
      record {
        mark = (stored_back marks m p.mark p.mark_is).0;
        opcode = wo.0;
        fills_so = rw wo.1 p.fills_so;
        destination = wd.0;
        place = rw wd.1 p.place;
        first = (stored_back operands a p.first p.first_is).0;
        second = (stored_back operands b p.second p.second_is).0;
        target = (stored_back targets t p.target p.target_is).0;
      }

  pub right-parsed : Right m o d a b t → parsed_numbers m o d a b t ≡ numbers (m ∷ o ∷ d ∷ a ∷ b ∷ t ∷ [])
  right-parsed r =
      parts_parsed_lem (stored_field marks m) (stored_field opcodes o) (stored_field operands d) (stored_field operands a) (stored_field operands b) (stored_field targets t)
      (record {
        mark = m;
        opcode = o;
        destination = d;
        first = a;
        second = b;
        target = t;
        mark_is = stored_is marks m r.mark;
        opcode_is = stored_is opcodes o r.opcode;
        fills_so = r.fills_so;
        destination_is = stored_is operands d r.destination;
        place = r.place;
        first_is = stored_is operands a r.first;
        second_is = stored_is operands b r.second;
        target_is = stored_is targets t r.target;
      })

  pub right-back : Right m o d a b t → codes (line_of m o d a b t) ≡ m ∷ o ∷ d ∷ a ∷ b ∷ t ∷ []
  right-back r =
      rw (mark_back m r.mark, opcode_back o r.opcode, operand_number d, operand_number a, operand_number b, (target_back t r.target).1)

  pub numbers_back : fault (parsed_numbers m o d a b t) ≡ 0 → codes (line_of m o d a b t) ≡ m ∷ o ∷ d ∷ a ∷ b ∷ t ∷ []
  numbers_back e = right-back (fault-right e)

-- ---- correct lines

pub beq_same : (x y : Bool) → T (beq x y) → x ≡ y
beq_same true true h = refl
beq_same true false h = absurd h
beq_same false true h = absurd h
beq_same false false h = refl

beq_self : (x : Bool) → beq x x ≡ true
beq_self true = refl
beq_self false = refl

pub same_self : (x : Filled) → same_filled x x ≡ true
same_self x = simp beq_self

record SameFilled (x y : Filled) : Type 0 where
  destination : x.destination ≡ y.destination
  first : x.first ≡ y.first
  second : x.second ≡ y.second
  target : x.target ≡ y.target

same_parts : (x y : Filled) → same_filled x y ≡ true → SameFilled x y
same_parts x y e =
    let d : Bool = beq x.destination y.destination in
    let a : Bool = beq x.first y.first in
    let b : Bool = beq x.second y.second in
    let t : Bool = beq x.target y.target in
    let w2 = and_both (d && a && b) t (holds e) in
    let w1 = and_both (d && a) b w2.0 in
    let w0 = and_both d a w1.0 in
    record { destination = beq_same _ _ w0.0; first = beq_same _ _ w0.1; second = beq_same _ _ w1.1; target = beq_same _ _ w2.1 }

-- what is said of a correct line, field by field
pub record Fields (l : Line) : Type 0 where
  pub destination : T (operand_right (fills l.opcode).destination l.destination)
  pub place : is_literal l.destination ≡ false
  pub first : T (operand_right (fills l.opcode).first l.first)
  pub second : T (operand_right (fills l.opcode).second l.second)
  pub target : T (target_right (fills l.opcode).target l.target)

pub no_false : (t : Bool) → T (not t) → t ≡ false
no_false true h = absurd h
no_false false h = refl

pub correct_fields : (l : Line) → T (correct l) → Fields l
unfolding correct
correct_fields l h =
    let d : Bool = operand_right (fills l.opcode).destination l.destination in
    let p : Bool = not (is_literal l.destination) in
    let a : Bool = operand_right (fills l.opcode).first l.first in
    let b : Bool = operand_right (fills l.opcode).second l.second in
    let t : Bool = target_right (fills l.opcode).target l.target in
    let w3 = and_both (d && p && a && b) t h in
    let w2 = and_both (d && p && a) b w3.0 in
    let w1 = and_both (d && p) a w2.0 in
    let w0 = and_both d p w1.0 in
    record { destination = w0.0; place = no_false _ w0.1; first = w1.1; second = w2.1; target = w3.1 }

pub fields_correct : (l : Line) → Fields l → T (correct l)
unfolding correct
fields_correct l f =
    rw (
      is_true (operand_right (fills l.opcode).destination l.destination) f.destination,
      f.place,
      is_true (operand_right (fills l.opcode).first l.first) f.first,
      is_true (operand_right (fills l.opcode).second l.second) f.second,
    )
    f.target

module _ (m o d a b t : ℕ) where
  pub right-correct : Right m o d a b t → T (correct (line_of m o d a b t))
  right-correct r =
      let s = same_parts (fills (opcode_of o)) (filled (ltb 0 d) (ltb 0 a) (ltb 0 b) (ltb 0 t)) r.fills_so in
      fields_correct (line_of m o d a b t) (record {
        destination = rw s.destination (operand_back d r.destination);
        place = r.place;
        first = rw s.first (operand_back a r.first);
        second = rw s.second (operand_back b r.second);
        target = rw s.target (target_back t r.target).0;
      })

  pub numbers_correct : fault (parsed_numbers m o d a b t) ≡ 0 → T (correct (line_of m o d a b t))
  numbers_correct e = right-correct (fault-right m o d a b t e)

-- what a function of six numbers gives for those of a line
abbrev pub of_line {ℓ} : {A : Type ℓ} → (ℕ → ℕ → ℕ → ℕ → ℕ → ℕ → A) → Line → A
of_line f l = f (mark_code l.mark) (opcode_code l.opcode) (operand_code l.destination) (operand_code l.first) (operand_code l.second) (target_code l.target)

module _ (l : Line) (h : T (correct l)) where
  pub correct-right : of_line Right l
  correct-right =
      let f = correct_fields l h in
      let d = operand_there (fills l.opcode).destination l.destination f.destination in
      let a = operand_there (fills l.opcode).first l.first f.first in
      let b = operand_there (fills l.opcode).second l.second f.second in
      let t = target_there (fills l.opcode).target l.target f.target in
      record {
        mark = (mark_there l.mark).1;
        opcode = (opcode_there l.opcode).1;
        fills_so = rw ((opcode_there l.opcode).0, d.filled, a.filled, b.filled, t.filled) (same_self (fills l.opcode));
        destination = d.range;
        place = rw d.same f.place;
        first = a.range;
        second = b.range;
        target = t.range;
      }

  pub line_back : of_line line_of l ≡ l
  line_back =
      let f = correct_fields l h in
      rw (
        (mark_there l.mark).0,
        (opcode_there l.opcode).0,
        (operand_there (fills l.opcode).destination l.destination f.destination).same,
        (operand_there (fills l.opcode).first l.first f.first).same,
        (operand_there (fills l.opcode).second l.second f.second).same,
        (target_there (fills l.opcode).target l.target f.target).same,
      )

  pub line_parsed : of_line parsed_numbers l ≡ numbers (codes l)
  line_parsed = right-parsed _ _ _ _ _ _ correct-right

  pub line_no_fault : fault (of_line parsed_numbers l) ≡ 0
  line_no_fault = ap fault line_parsed

-- ---- a whole program: its lines, one after the other

pub lines-length : (p : List ℕ) (i n : ℕ) → length (lines_from p i n) ≡ n
unfolding lines_from
lines-length p i zero = refl
lines-length p i (suc n) = ap suc (lines-length p (i + 1) n)

pub lines_get : (p : List ℕ) (i n j : ℕ) → j < n → get_elem? (lines_from p i n) j ≡ some (line_at p (i + j))
unfolding lines_from
lines_get p i zero j h = absurd (omega arith)
lines_get p i (suc n) zero h = let e : i ≡ i + 0 = omega arith in ap (λ (k : ℕ). some (line_at p k)) e
lines_get p i (suc n) (suc j) h =
    let e : i + 1 + j ≡ i + suc j = omega arith in
    lines_get p (i + 1) n j (omega arith) ∙ ap (λ (k : ℕ). some (line_at p k)) e

pub lines-drop : (p : List ℕ) (i n j : ℕ) → drop j (lines_from p i n) ≡ lines_from p (i + j) (n - j)
unfolding lines_from
lines-drop p i n zero = let e : i ≡ i + 0 = omega arith in let f : n ≡ n - 0 = omega arith in rw (← e, ← f)
lines-drop p i zero (suc j) = let f : 0 ≡ 0 - suc j = omega arith in rw (← f)
lines-drop p i (suc n) (suc j) =
    let e : i + 1 + j ≡ i + suc j = omega arith in
    let f : n - j ≡ suc n - suc j = omega arith in
    lines-drop p (i + 1) n j ∙ ap₂ (lines_from p) e f

module _ (p : List ℕ) where
  pub length-lines : length (lines p) ≡ line_count p
  length-lines = lines-length p 0 (line_count p)

  pub get_line : (i : ℕ) → i < line_count p → get_elem? (lines p) i ≡ some (line_at p i)
  get_line i h = let e : 0 + i ≡ i = omega arith in lines_get p 0 (line_count p) i h ∙ ap (λ (k : ℕ). some (line_at p k)) e

  pub no_line : (i : ℕ) → line_count p ≤ i → get_elem? (lines p) i ≡ none
  no_line i h = get_past (lines p) i (omega (arith, length-lines))

  -- the lines from line i on
  pub drop-lines : (i : ℕ) → drop i (lines p) ≡ lines_from p i (line_count p - i)
  drop-lines i = let e : 0 + i ≡ i = omega arith in lines-drop p 0 (line_count p) i ∙ ap (λ (k : ℕ). lines_from p k (line_count p - i)) e

  pub drop_line : (i : ℕ) → i < line_count p → drop i (lines p) ≡ line_at p i ∷ drop (i + 1) (lines p)
  unfolding lines_from
  drop_line i h =
      let e : line_count p - i ≡ suc (line_count p - (i + 1)) = omega arith in
      drop-lines i ∙ ap (lines_from p i) e ∙ ap (λ (ls : List Line). line_at p i ∷ ls) (sym (drop-lines (i + 1)))

  pub drop_end : (i : ℕ) → line_count p ≤ i → drop i (lines p) ≡ []
  unfolding lines_from
  drop_end i h = let e : line_count p - i ≡ 0 = omega arith in drop-lines i ∙ ap (lines_from p i) e

-- ---- a program that the check accepts

pub counted_count : {m n : ℕ} → counted m ≡ counted n → m ≡ n
counted_count e = cc

pub never_counted : {k i n : ℕ} → refused k i ≡ counted n → ⊥
never_counted e = let z : ◌≡◌ {A = ℕ} 0 1 = cc in omega arith

-- what is counted at the end passed each test on the way
pub counted_if : (t : Bool) (a : Report) (k i n : ℕ) → cond t a (refused k i) ≡ counted n → (t ≡ true) × (a ≡ counted n)
counted_if true a k i n e = (refl, e)
counted_if false a k i n e = absurd (never_counted e)

pub counted_unless : (t : Bool) (a : Report) (k i n : ℕ) → cond t (refused k i) a ≡ counted n → (t ≡ false) × (a ≡ counted n)
counted_unless true a k i n e = absurd (never_counted e)
counted_unless false a k i n e = (refl, e)

check_back : (p : List ℕ) (i m n : ℕ) → check_from p i m ≡ counted n → (line_count p ≡ n) × ((j : ℕ) → i ≤ j → j < i + m → fault_at p j ≡ 0)
unfolding check_from
check_back p i zero n e = (counted_count e, λ j h g. absurd (omega arith))
check_back p i (suc m) n e =
    let w = counted_if (eqb (fault_at p i) 0) (check_from p (i + 1) m) (fault_at p i) i n e in
    let v = check_back p (i + 1) m n w.1 in
    (v.0, λ j h g. below i j (λ l. v.1 j (omega arith) (omega arith)) (λ l. let q : j ≡ i = omega arith in rw q (eqb-true (fault_at p i) 0 w.0)))

pub check_there : (p : List ℕ) (i m : ℕ) → ((j : ℕ) → i ≤ j → j < i + m → fault_at p j ≡ 0) → check_from p i m ≡ counted (line_count p)
unfolding check_from
check_there p i zero h = refl
check_there p i (suc m) h = rw (eq-eqb (fault_at p i) 0 (h i (omega arith) (omega arith))) (check_there p (i + 1) m (λ j g l. h j (omega arith) (omega arith)))

-- the check of a program accepts it, with its line count, or refuses it
pub data CheckAnswer (p : List ℕ) (r : Report) : Type 0 where
  accepts : r ≡ counted (line_count p) → CheckAnswer p r
  refuses : (k i : ℕ) → r ≡ refused k i → CheckAnswer p r

answer_if : (p : List ℕ) (t : Bool) (r : Report) (k i : ℕ) → CheckAnswer p r → CheckAnswer p (cond t r (refused k i))
answer_if p true r k i c = c
answer_if p false r k i c = refuses k i refl

check_from_answer : (p : List ℕ) (i n : ℕ) → CheckAnswer p (check_from p i n)
unfolding check_from
check_from_answer p i zero = accepts refl
check_from_answer p i (suc n) = answer_if p (eqb (fault_at p i) 0) (check_from p (i + 1) n) (fault_at p i) i (check_from_answer p (i + 1) n)

pub check_answer : (p : List ℕ) → CheckAnswer p (program_check p)
unfolding program_check
check_answer p = by (ltb max_lines (line_count p))
  where
    by : (t : Bool) → CheckAnswer p (cond t (refused 7 max_lines) (check_from p 0 (line_count p)))
    by true = refuses 7 max_lines refl
    by false = check_from_answer p 0 (line_count p)

abbrev pub six_numbers : ℕ → ℕ → ℕ → ℕ → ℕ → ℕ → List ℕ
six_numbers m o d a b t = m ∷ o ∷ d ∷ a ∷ b ∷ t ∷ []

six_of : (x : List ℕ) → 6 ≤ length x → get_or x 0 0 ∷ get_or x 1 0 ∷ get_or x 2 0 ∷ get_or x 3 0 ∷ get_or x 4 0 ∷ get_or x 5 0 ∷ [] ≡ take 6 x
six_of [] h = absurd (omega arith)
six_of (a ∷ []) h = absurd (omega arith)
six_of (a ∷ b ∷ []) h = absurd (omega arith)
six_of (a ∷ b ∷ c ∷ []) h = absurd (omega arith)
six_of (a ∷ b ∷ c ∷ d ∷ []) h = absurd (omega arith)
six_of (a ∷ b ∷ c ∷ d ∷ e ∷ []) h = absurd (omega arith)
six_of (a ∷ b ∷ c ∷ d ∷ e ∷ f ∷ x) h = refl

pub numbers_at_lem : (p : List ℕ) (i : ℕ) → line_width * i + 6 ≤ length p → at_line six_numbers p i ≡ take 6 (drop (line_width * i) p)
numbers_at_lem p i h =
    let z : 6 * i + 0 ≡ 6 * i = omega arith in
    rw (← ap (λ (k : ℕ). get_or p k 0) z, ← get_or-drop (6 * i) p 0 0, ← get_or-drop (6 * i) p 1 0, ← get_or-drop (6 * i) p 2 0, ← get_or-drop (6 * i) p 3 0, ← get_or-drop (6 * i) p 4 0, ← get_or-drop (6 * i) p 5 0)
    (six_of (drop (6 * i) p) (omega (arith, length-drop (6 * i) p)))

-- a line without a fault is correct, and its numbers are those that are stored
module _ (p : List ℕ) (i : ℕ) (e : fault_at p i ≡ 0) where
  pub correct_at : T (correct (line_at p i))
  correct_at = numbers_correct (get_or p (line_width * i) 0) (get_or p (line_width * i + 1) 0) (get_or p (line_width * i + 2) 0) (get_or p (line_width * i + 3) 0) (get_or p (line_width * i + 4) 0) (get_or p (line_width * i + 5) 0) e

  pub codes_at : codes (line_at p i) ≡ at_line six_numbers p i
  codes_at = numbers_back (get_or p (line_width * i) 0) (get_or p (line_width * i + 1) 0) (get_or p (line_width * i + 2) 0) (get_or p (line_width * i + 3) 0) (get_or p (line_width * i + 4) 0) (get_or p (line_width * i + 5) 0) e

-- n lines from line i on, none of which has a fault
module _ (p : List ℕ) where
  lines-correct : (i n : ℕ) → ((j : ℕ) → i ≤ j → j < i + n → fault_at p j ≡ 0) → AllCorrect (lines_from p i n)
  unfolding lines_from
  lines-correct i zero h = tt
  lines-correct i (suc n) h = (correct_at p i (h i (omega arith) (omega arith)), lines-correct (i + 1) n (λ j g l. h j (omega arith) (omega arith)))

  lines_numbers : (i n : ℕ) → 6 * (i + n) ≤ length p → ((j : ℕ) → i ≤ j → j < i + n → fault_at p j ≡ 0) → flat_map codes (lines_from p i n) ≡ take (6 * n) (drop (6 * i) p)
  unfolding lines_from flat_map
  lines_numbers i zero g h = refl
  lines_numbers i (suc n) g h =
      let more : 6 * suc n ≡ 6 + 6 * n = omega arith in
      let next : 6 * (i + 1) ≡ 6 * i + 6 = omega arith in
      ap (λ (x : List ℕ). x ++ flat_map codes (lines_from p (i + 1) n)) (codes_at p i (h i (omega arith) (omega arith)) ∙ numbers_at_lem p i (omega arith))
      ∙ ap (λ (x : List ℕ). take 6 (drop (6 * i) p) ++ x)
      (lines_numbers (i + 1) n (omega arith) (λ j k l. h j (omega arith) (omega arith)) ∙ ap (λ (k : ℕ). take (6 * n) (drop k p)) next ∙ ap (take (6 * n)) (sym (drop-drop 6 (6 * i) p)))
      ∙ sym (take-add 6 (6 * n) (drop (6 * i) p))
      ∙ ap (λ (k : ℕ). take k (drop (6 * i) p)) (sym more)

-- what the check says of a program
pub record Checked (p : List ℕ) (n : ℕ) : Type 0 where
  pub count : n ≡ line_count p
  pub few : n ≤ max_lines
  pub long : 6 * n ≤ length p
  pub sound : (i : ℕ) → i < n → fault_at p i ≡ 0
  pub line_right : (i : ℕ) → i < n → T (correct (line_at p i))
  pub all_right : AllCorrect (lines p)
  pub stored : flat_map codes (lines p) ≡ take (6 * n) p

pub program_checked : (p : List ℕ) (n : ℕ) → program_check p ≡ counted n → Checked p n
unfolding program_check
program_checked p n e =
    let w = counted_unless (ltb max_lines (line_count p)) (check_from p 0 (line_count p)) 7 max_lines n e in
    let v = check_back p 0 (line_count p) n w.1 in
    let few : line_count p ≤ max_lines = ltb-false max_lines (line_count p) w.0 in
    let q : line_count p ≡ n = v.0 in
    let sound : (i : ℕ) → i < n → fault_at p i ≡ 0 = λ i h. v.1 i (omega arith) (omega arith) in
    record {
      count = sym q;
      few = omega arith;
      long = omega arith;
      sound = sound;
      line_right = λ i h. correct_at p i (sound i h);
      all_right = lines-correct p 0 (line_count p) v.1;
      stored = lines_numbers p 0 (line_count p) (omega arith) v.1 ∙ ap (λ (k : ℕ). take (6 * k) p) q;
    }

-- ---- a program made of correct lines

pub codes-length : (ls : List Line) → length (flat_map codes ls) ≡ 6 * length ls
unfolding flat_map
codes-length [] = refl
codes-length (l ∷ ls) = omega (arith, codes-length ls)

-- line i + 1 of a program is line i of what follows its first six numbers
module _ (l : Line) (q : List ℕ) where
  next_number : (k j : ℕ) → k ≡ 6 + j → get_or (codes l ++ q) k 0 ≡ get_or q j 0
  next_number k j e = rw e (get_or-append-add (codes l) q j 0)

  next_line {ℓ} : {A : Type ℓ} (f : ℕ → ℕ → ℕ → ℕ → ℕ → ℕ → A) (i : ℕ) → at_line f (codes l ++ q) (i + 1) ≡ at_line f q i
  next_line f i =
      rw (
        next_number (6 * (i + 1)) (6 * i) (omega arith),
        next_number (6 * (i + 1) + 1) (6 * i + 1) (omega arith),
        next_number (6 * (i + 1) + 2) (6 * i + 2) (omega arith),
        next_number (6 * (i + 1) + 3) (6 * i + 3) (omega arith),
        next_number (6 * (i + 1) + 4) (6 * i + 4) (omega arith),
        next_number (6 * (i + 1) + 5) (6 * i + 5) (omega arith),
      )

  next-lines : (i n : ℕ) → lines_from (codes l ++ q) (i + 1) n ≡ lines_from q i n
  unfolding lines_from
  next-lines i zero = refl
  next-lines i (suc n) = ap₂ (λ (x : Line) (xs : List Line). x ∷ xs) (next_line line_of i) (next-lines (i + 1) n)

module _ (rest : List ℕ) where
  made-lines : (ls : List Line) → AllCorrect ls → lines_from (flat_map codes ls ++ rest) 0 (length ls) ≡ ls
  unfolding lines_from flat_map
  made-lines [] h = refl
  made-lines (l ∷ ls) h =
      let q : List ℕ = flat_map codes ls ++ rest in
      ap₂ (λ (x : Line) (xs : List Line). x ∷ xs) (line_back l h.0) (next-lines l q 0 (length ls) ∙ made-lines ls h.1)

  made_sound : (ls : List Line) → AllCorrect ls → (i : ℕ) → i < length ls → fault_at (flat_map codes ls ++ rest) i ≡ 0
  unfolding flat_map
  made_sound [] h i g = absurd (omega arith)
  made_sound (l ∷ ls) h zero g = line_no_fault l h.0
  made_sound (l ∷ ls) h (suc i) g =
      let q : List ℕ = flat_map codes ls ++ rest in
      let e : suc i ≡ i + 1 = omega arith in
      ap (fault_at (codes l ++ q)) e ∙ next_line l q (λ m o d a b t. fault (parsed_numbers m o d a b t)) i ∙ made_sound ls h.1 i (omega arith)

  -- the program of some correct lines, and what is too short for a line after them
  module _ (ls : List Line) (h : AllCorrect ls) (short : length rest < line_width) where
    pub program_count : line_count (flat_map codes ls ++ rest) ≡ length ls
    program_count = omega (arith, length-append (flat_map codes ls) rest, codes-length ls)

    pub program_lines : lines (flat_map codes ls ++ rest) ≡ ls
    program_lines = rw program_count (made-lines ls h)

    pub program_there : length ls ≤ max_lines → program_check (flat_map codes ls ++ rest) ≡ counted (length ls)
    unfolding program_check
    program_there few =
        let p : List ℕ = flat_map codes ls ++ rest in
        let c : line_count p ≡ length ls = program_count in
        rw (le-ltb max_lines (line_count p) (omega arith)) (check_there p 0 (line_count p) (λ j g l. made_sound ls h j (omega arith)) ∙ ap counted c)

module _ (ls : List Line) (h : AllCorrect ls) where
  pub whole_lines : lines (flat_map codes ls) ≡ ls
  whole_lines = ap lines (sym (append-nil (flat_map codes ls))) ∙ program_lines [] ls h (omega arith)

  pub whole_check : length ls ≤ max_lines → program_check (flat_map codes ls) ≡ counted (length ls)
  whole_check few = ap program_check (sym (append-nil (flat_map codes ls))) ∙ program_there [] ls h (omega arith) few
