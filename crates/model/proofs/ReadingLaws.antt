-- The line at the front of a text: a correct line's spelling gives its numbers, and a line that was read is a correct line with this
-- spelling. Assumes nothing.
use Prim.Native.Nat.{ℕ, ◌≤◌, ◌<◌}
use mathlib.Core.Bool.{Bool, true, false, cond}
use mathlib.Core.Path.{◌≡◌, refl, sym, ap, ◌∙◌}
use mathlib.Core.List.{List, [], ◌∷◌, ◌++◌, append_assoc}
use native.Mathlib.Omega.{arith}
use lib.ListN.{length, length-append}
use lib.Dec.{T, leb, eqb}
use borrow.Author.Tests.{eq-eqb, eqb-true, lt-leb, leb-false}
use Rattle.model.specs.declared.Line.{Line}
use Rattle.model.specs.Limits.{line_reach}
use Rattle.model.specs.Lines.{fills, correct}
use Rattle.model.specs.Stored.{mark_code, opcode_code, operand_code, target_code, codes, line_of, Parsed, numbers, wrong, parsed, fault}
use Rattle.model.specs.Text.{newline, comma, spell_mark, spell_opcode, spell_operand, spell_target, spell_line, mark_field, opcode_field, operand_field, target_field, up_to, past, count_of, skip, parsed_text, front_line}
use Rattle.model.proofs.StoredLaws.{Parts, parts_parsed_lem, parsed_parts, Right, right-back, right-correct, same_self, correct_fields, mark_there, opcode_there, operand_there, target_there}
use Rattle.model.proofs.CutLaws.{up_to_clean, past_clean, rejoin, has_byte, join_fields, fields_joined, joined-count, other_count}
use Rattle.model.proofs.SpellingLaws.{mark_exactly, opcode_exactly, operand_exactly, target_exactly, operand_text, target_text, operand_filled, target_filled, Clean, mark_clean, opcode_clean, operand_clean, target_clean, line_34}

-- ---- six fields and the text that they are joined to

-- what six fields of text give
abbrev pub parsed_fields : List ℕ → List ℕ → List ℕ → List ℕ → List ℕ → List ℕ → Parsed
parsed_fields m o d a b t = parsed (mark_field m) (opcode_field o) (operand_field d) (operand_field a) (operand_field b) (target_field t)

-- the definitions' clauses, with the search by spelling shut
pub parsed_text_lem : (s : List ℕ) → parsed_text s ≡ cond (eqb (count_of comma s) 5) (parsed_fields (up_to comma s) (up_to comma (skip 1 s)) (up_to comma (skip 2 s)) (up_to comma (skip 3 s)) (up_to comma (skip 4 s)) (skip 5 s)) (wrong 2)
unfolding parsed_text
parsed_text_lem s = refl

pub front_line_lem : (text : List ℕ) → front_line text ≡ cond (leb line_reach (length (up_to newline text))) (wrong 1) (cond (leb (length text) (length (up_to newline text))) (wrong 1) (parsed_text (up_to newline text)))
unfolding front_line
front_line_lem text = refl

module _ (m o d a b t : List ℕ) (cm : Clean m) (co : Clean o) (cd : Clean d) (ca : Clean a) (cb : Clean b) (ct : Clean t) where
  pub joined-parsed : parsed_text (join_fields m o d a b t) ≡ parsed_fields m o d a b t
  joined-parsed =
      let t4 : List ℕ = b ++ (comma ∷ t) in
      let t3 : List ℕ = a ++ (comma ∷ t4) in
      let t2 : List ℕ = d ++ (comma ∷ t3) in
      let t1 : List ℕ = o ++ (comma ∷ t2) in
      rw (
        parsed_text_lem (m ++ (comma ∷ t1)),
        eq-eqb _ _ (joined-count m o d a b t cm.commas co.commas cd.commas ca.commas cb.commas ct.commas),
        past_clean comma m t1 cm.commas,
        past_clean comma o t2 co.commas,
        past_clean comma d t3 cd.commas,
        past_clean comma a t4 ca.commas,
        past_clean comma b t cb.commas,
        up_to_clean comma m t1 cm.commas,
        up_to_clean comma o t2 co.commas,
        up_to_clean comma d t3 cd.commas,
        up_to_clean comma a t4 ca.commas,
        up_to_clean comma b t cb.commas,
      )

  pub joined_newlines : count_of newline (join_fields m o d a b t) ≡ 0
  joined_newlines =
      other_count newline comma m _ (λ e. omega arith) cm.newlines
      (other_count newline comma o _ (λ e. omega arith) co.newlines
      (other_count newline comma d _ (λ e. omega arith) cd.newlines
      (other_count newline comma a _ (λ e. omega arith) ca.newlines
      (other_count newline comma b t (λ e. omega arith) cb.newlines ct.newlines))))

-- ---- a line without its newline

abbrev pub line_text : Line → List ℕ
line_text l = join_fields (spell_mark l.mark) (spell_opcode l.opcode) (spell_operand l.destination) (spell_operand l.first) (spell_operand l.second) (spell_target l.target)

pub line_text_lem : (l : Line) (rest : List ℕ) → spell_line l ++ rest ≡ line_text l ++ (newline ∷ rest)
unfolding spell_line
line_text_lem l rest = simp append_assoc

module _ (l : Line) where
  text_newlines : count_of newline (line_text l) ≡ 0
  text_newlines = joined_newlines _ _ _ _ _ _ (mark_clean l.mark) (opcode_clean l.opcode) (operand_clean l.destination) (operand_clean l.first) (operand_clean l.second) (target_clean l.target)

  module _ (h : T (correct l)) where
    pub text_parsed : parsed_text (line_text l) ≡ numbers (codes l)
    text_parsed =
        let f = correct_fields l h in
        let m = mark_there l.mark in
        let o = opcode_there l.opcode in
        let d = operand_there _ l.destination f.destination in
        let a = operand_there _ l.first f.first in
        let b = operand_there _ l.second f.second in
        let t = target_there _ l.target f.target in
        joined-parsed _ _ _ _ _ _ (mark_clean l.mark) (opcode_clean l.opcode) (operand_clean l.destination) (operand_clean l.first) (operand_clean l.second) (target_clean l.target)
        ∙ parts_parsed_lem _ _ _ _ _ _ (record {
          mark = mark_code l.mark;
          opcode = opcode_code l.opcode;
          destination = operand_code l.destination;
          first = operand_code l.first;
          second = operand_code l.second;
          target = target_code l.target;
          mark_is = (mark_exactly _ _).1 (m.1, ap spell_mark m.0);
          opcode_is = (opcode_exactly _ _).1 (o.1, ap spell_opcode o.0);
          fills_so =
              rw (o.0, (operand_text _ l.destination f.destination).filled, (operand_text _ l.first f.first).filled, (operand_text _ l.second f.second).filled, (target_text _ l.target f.target).filled)
              (same_self (fills l.opcode));
          destination_is = (operand_exactly _ _).1 (d.range, ap spell_operand d.same);
          place = rw d.same f.place;
          first_is = (operand_exactly _ _).1 (a.range, ap spell_operand a.same);
          second_is = (operand_exactly _ _).1 (b.range, ap spell_operand b.same);
          target_is = (target_exactly _ _).1 (t.range, ap spell_target t.same);
        })

    text_33 : length (line_text l) ≤ 33
    text_33 = omega (arith, line_34 l h, ap length (line_text_lem l []), length-append (spell_line l) [], length-append (line_text l) (newline ∷ []))

    -- the line at the front of a text, and the rest after it
    pub front_there : (rest : List ℕ) → front_line (spell_line l ++ rest) ≡ numbers (codes l)
    front_there rest =
        let text : List ℕ = line_text l ++ (newline ∷ rest) in
        rw (
          front_line_lem (spell_line l ++ rest),
          line_text_lem l rest,
          up_to_clean newline (line_text l) rest text_newlines,
          lt-leb line_reach (length (line_text l)) (omega (arith, text_33)),
          lt-leb (length text) (length (line_text l)) (omega (arith, length-append (line_text l) (newline ∷ rest))),
        )
        text_parsed

  pub past_there : (rest : List ℕ) → past newline (spell_line l ++ rest) ≡ rest
  past_there rest = rw (line_text_lem l rest) (past_clean newline (line_text l) rest text_newlines)

-- ---- a line that was read

pub never_numbers : {k : ℕ} {ns : List ℕ} → wrong k ≡ numbers ns → ⊥
never_numbers e = let z : ◌≡◌ {A = ℕ} 0 1 = cc in omega arith

same_numbers : {x y : List ℕ} → numbers x ≡ numbers y → x ≡ y
same_numbers e = cc

numbers_if : (t : Bool) (k : ℕ) (x : Parsed) (ns : List ℕ) → cond t x (wrong k) ≡ numbers ns → (t ≡ true) × (x ≡ numbers ns)
numbers_if true k x ns e = (refl, e)
numbers_if false k x ns e = absurd (never_numbers e)

numbers_unless : (t : Bool) (k : ℕ) (x : Parsed) (ns : List ℕ) → cond t (wrong k) x ≡ numbers ns → (t ≡ false) × (x ≡ numbers ns)
numbers_unless true k x ns e = absurd (never_numbers e)
numbers_unless false k x ns e = (refl, e)

-- the line of some numbers, and its text without the newline
pub record TextLine (s ns : List ℕ) : Type 0 where
  pub line : Line
  pub right : T (correct line)
  pub stored : ns ≡ codes line
  pub text_is : line_text line ≡ s

module _ (m o d a b t : List ℕ) (ns : List ℕ) (e : parsed_fields m o d a b t ≡ numbers ns) where
  fields_back : TextLine (join_fields m o d a b t) ns
  fields_back =
      let p : Parts (mark_field m) (opcode_field o) (operand_field d) (operand_field a) (operand_field b) (target_field t) = parsed_parts _ _ _ _ _ _ (ap fault e) in
      let wm = (mark_exactly m p.mark).0 p.mark_is in
      let wo = (opcode_exactly o p.opcode).0 p.opcode_is in
      let wd = (operand_exactly d p.destination).0 p.destination_is in
      let wa = (operand_exactly a p.first).0 p.first_is in
      let wb = (operand_exactly b p.second).0 p.second_is in
      let wt = (target_exactly t p.target).0 p.target_is in
      let r : Right p.mark p.opcode p.destination p.first p.second p.target = record {
        mark = wm.0;
        opcode = wo.0;
        fills_so =
            rw (← operand_filled p.destination wd.0, ← operand_filled p.first wa.0, ← operand_filled p.second wb.0, ← target_filled p.target wt.0, wd.1, wa.1, wb.1, wt.1)
            p.fills_so;
        destination = wd.0;
        place = p.place;
        first = wa.0;
        second = wb.0;
        target = wt.0;
      } in
      record {
        line = line_of p.mark p.opcode p.destination p.first p.second p.target;
        right = right-correct _ _ _ _ _ _ r;
        stored = same_numbers (sym e ∙ parts_parsed_lem _ _ _ _ _ _ p) ∙ sym (right-back _ _ _ _ _ _ r);
        text_is = rw (wm.1, wo.1, wd.1, wa.1, wb.1, wt.1);
      }

pub text_back : (s ns : List ℕ) → parsed_text s ≡ numbers ns → TextLine s ns
text_back s ns e =
    let w = numbers_if (eqb (count_of comma s) 5) 2 (parsed_fields (up_to comma s) (up_to comma (skip 1 s)) (up_to comma (skip 2 s)) (up_to comma (skip 3 s)) (up_to comma (skip 4 s)) (skip 5 s)) ns (sym (parsed_text_lem s) ∙ e) in
    let b = fields_back (up_to comma s) (up_to comma (skip 1 s)) (up_to comma (skip 2 s)) (up_to comma (skip 3 s)) (up_to comma (skip 4 s)) (skip 5 s) ns w.1 in
    record { line = b.line; right = b.right; stored = b.stored; text_is = b.text_is ∙ fields_joined s (eqb-true (count_of comma s) 5 w.0) }

-- a text whose front line gives some numbers: the line's spelling, and the rest
pub record FrontLine (text ns : List ℕ) : Type 0 where
  pub line : Line
  pub right : T (correct line)
  pub stored : ns ≡ codes line
  pub text_is : spell_line line ++ past newline text ≡ text

pub front-back : (text ns : List ℕ) → front_line text ≡ numbers ns → FrontLine text ns
front-back text ns e =
    let w = numbers_unless (leb line_reach (length (up_to newline text))) 1 (cond (leb (length text) (length (up_to newline text))) (wrong 1) (parsed_text (up_to newline text))) ns (sym (front_line_lem text) ∙ e) in
    let v = numbers_unless (leb (length text) (length (up_to newline text))) 1 (parsed_text (up_to newline text)) ns w.1 in
    let b = text_back (up_to newline text) ns v.1 in
    let n : 0 < count_of newline text = has_byte newline text (leb-false (length text) (length (up_to newline text)) v.0) in
    record {
      line = b.line;
      right = b.right;
      stored = b.stored;
      text_is = line_text_lem b.line (past newline text) ∙ ap (λ (x : List ℕ). x ++ (newline ∷ past newline text)) b.text_is ∙ sym (rejoin newline text n);
    }
