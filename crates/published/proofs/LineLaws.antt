-- A line going out and coming in: its parts, and the numbers that they are read as. Assumes nothing.
use Prim.Native.Nat.{ℕ, ◌+◌}
use mathlib.Core.Bool.{Bool, true, false, not, ◌||◌}
use mathlib.Core.Path.{◌≡◌, refl, sym, ap, ◌∙◌}
use mathlib.Core.List.{List, [], ◌∷◌, ◌++◌, append-nil}
use mathlib.Core.Option.{some}
use native.Mathlib.Omega.{arith}
use lib.ListN.{length}
use lib.Dec.{T, ltb}
use borrow.Author.Tests.{eq-eqb, lt-ltb}
use Rattle.model.specs.declared.Mark.{Mark}
use Rattle.model.specs.declared.Mark.TheVariants.{Unmarked, Marked}
use Rattle.model.specs.declared.Opcode.{Opcode}
use Rattle.model.specs.declared.Opcode.TheVariants.{Nop, Jmp, Not, Mov, And, Orr, Xor, Lsl, Lsr, Add, Mul, Beq, Bne}
use Rattle.model.specs.declared.Operand.{Operand}
use Rattle.model.specs.declared.Operand.TheVariants.{Empty, Literal, Register, Cell, PublicCell, SensitiveCell, TableCell}
use Rattle.model.specs.declared.Target.{Target}
use Rattle.model.specs.declared.Target.TheVariants.{Empty as NoTarget, Line as ToLine}
use Rattle.model.specs.declared.Line.{Line}
use Rattle.model.specs.Places.{kind_of, is_sensitive}
use Rattle.model.specs.Lines.{fills, target_right, is_literal, correct}
use Rattle.model.specs.Stored.{mark_code, opcode_code, operand_code, target_code, operand_of, codes, Parsed, numbers}
use Rattle.model.specs.Text.{newline, count_of, spell_opcode, opcode_field}
use Rattle.model.specs.Marks.{is_reserved, holds10, holds11, mark_fault}
use Rattle.model.proofs.StoredLaws.{correct_fields, opcode_there, operand_there, line_back}
use Rattle.model.proofs.SpellingLaws.{opcode_exactly}
use Rattle.model.proofs.PlaceLaws.{sensitive_register, sensitive_cell}
use Rattle.model.proofs.Operands.{SensitivePlace}
use Rattle.model.proofs.Acceptance.{mk, clear, marked_operands}
use Rattle.model.proofs.MarkedLines.{marked_destination}
use Rattle.model.proofs.CutLaws.{count-append}
use Rattle.published.specs.Published.{semicolon, words}
use Rattle.published.specs.Published.{spell_published, line_name, spell_target_name}
use Rattle.published.specs.Published.{spaced, instruction_text}
use Rattle.published.specs.Published.{bit, Label, find, filled_by, or_missing, mark_for, operands_parsed, parts_parsed, instruction_parsed}
use Rattle.published.proofs.PartLaws.{Plain, Apart, present, spaced-apart, spaced-words, spaced_newlines, spaced_comments, word_then}
use Rattle.published.proofs.OperandSpelling.{Spelled, published_plain, published-filled}
use Rattle.published.proofs.OperandReading.{published_there}
use Rattle.published.proofs.NameLaws.{line_alphanumeric, line_plain}

-- ---- the parts of a line going out

abbrev pub presents : List ℕ → List ℕ → List ℕ → List ℕ → List (List ℕ)
presents d a b t = present d ++ (present a ++ (present b ++ present t))

abbrev pub parts_of : Line → List (List ℕ)
parts_of l = spell_opcode l.opcode ∷ presents (spell_published l.destination) (spell_published l.first) (spell_published l.second) (spell_target_name l.target)

pub target_plain : (t : Target) → Plain (spell_target_name t)
unfolding spell_target_name
target_plain NoTarget = tt
target_plain (ToLine t) = line_plain t

opcode_word : (o : Opcode) (s : List ℕ) → Apart s → words (spell_opcode o ++ s) ≡ spell_opcode o ∷ words s
unfolding spell_opcode
opcode_word Nop s a = word_then _ _ s (omega arith, (λ e. omega arith), (omega arith, (λ e. omega arith), (omega arith, (λ e. omega arith), tt))) a
opcode_word Jmp s a = word_then _ _ s (omega arith, (λ e. omega arith), (omega arith, (λ e. omega arith), (omega arith, (λ e. omega arith), tt))) a
opcode_word Not s a = word_then _ _ s (omega arith, (λ e. omega arith), (omega arith, (λ e. omega arith), (omega arith, (λ e. omega arith), tt))) a
opcode_word Mov s a = word_then _ _ s (omega arith, (λ e. omega arith), (omega arith, (λ e. omega arith), (omega arith, (λ e. omega arith), tt))) a
opcode_word And s a = word_then _ _ s (omega arith, (λ e. omega arith), (omega arith, (λ e. omega arith), (omega arith, (λ e. omega arith), tt))) a
opcode_word Orr s a = word_then _ _ s (omega arith, (λ e. omega arith), (omega arith, (λ e. omega arith), (omega arith, (λ e. omega arith), tt))) a
opcode_word Xor s a = word_then _ _ s (omega arith, (λ e. omega arith), (omega arith, (λ e. omega arith), (omega arith, (λ e. omega arith), tt))) a
opcode_word Lsl s a = word_then _ _ s (omega arith, (λ e. omega arith), (omega arith, (λ e. omega arith), (omega arith, (λ e. omega arith), tt))) a
opcode_word Lsr s a = word_then _ _ s (omega arith, (λ e. omega arith), (omega arith, (λ e. omega arith), (omega arith, (λ e. omega arith), tt))) a
opcode_word Add s a = word_then _ _ s (omega arith, (λ e. omega arith), (omega arith, (λ e. omega arith), (omega arith, (λ e. omega arith), tt))) a
opcode_word Mul s a = word_then _ _ s (omega arith, (λ e. omega arith), (omega arith, (λ e. omega arith), (omega arith, (λ e. omega arith), tt))) a
opcode_word Beq s a = word_then _ _ s (omega arith, (λ e. omega arith), (omega arith, (λ e. omega arith), (omega arith, (λ e. omega arith), tt))) a
opcode_word Bne s a = word_then _ _ s (omega arith, (λ e. omega arith), (omega arith, (λ e. omega arith), (omega arith, (λ e. omega arith), tt))) a

opcode_counts : (o : Opcode) → (count_of newline (spell_opcode o) ≡ 0) × (count_of semicolon (spell_opcode o) ≡ 0)
unfolding spell_opcode count_of
opcode_counts Nop = (refl, refl)
opcode_counts Jmp = (refl, refl)
opcode_counts Not = (refl, refl)
opcode_counts Mov = (refl, refl)
opcode_counts And = (refl, refl)
opcode_counts Orr = (refl, refl)
opcode_counts Xor = (refl, refl)
opcode_counts Lsl = (refl, refl)
opcode_counts Lsr = (refl, refl)
opcode_counts Add = (refl, refl)
opcode_counts Mul = (refl, refl)
opcode_counts Beq = (refl, refl)
opcode_counts Bne = (refl, refl)

words_none : words [] ≡ []
unfolding words
words_none = refl

pub instruction-words : (l : Line) → words (instruction_text l) ≡ parts_of l
unfolding instruction_text
instruction-words l =
    let d : List ℕ = spell_published l.destination in
    let a : List ℕ = spell_published l.first in
    let b : List ℕ = spell_published l.second in
    let t : List ℕ = spell_target_name l.target in
    let t0 : Apart (spaced t) = rw (← append-nil (spaced t)) (spaced-apart t [] refl) in
    let t1 : Apart (spaced b ++ spaced t) = spaced-apart b (spaced t) t0 in
    let t2 : Apart (spaced a ++ (spaced b ++ spaced t)) = spaced-apart a _ t1 in
    let t3 : Apart (spaced d ++ (spaced a ++ (spaced b ++ spaced t))) = spaced-apart d _ t2 in
    let e : words (spaced t) ≡ present t = ap words (sym (append-nil (spaced t))) ∙ spaced-words t [] (target_plain l.target) refl ∙ ap (λ (x : List (List ℕ)). present t ++ x) words_none ∙ append-nil (present t) in
    rw (
      opcode_word l.opcode (spaced d ++ (spaced a ++ (spaced b ++ spaced t))) t3,
      spaced-words d (spaced a ++ (spaced b ++ spaced t)) (published_plain l.destination) t2,
      spaced-words a (spaced b ++ spaced t) (published_plain l.first) t1,
      spaced-words b (spaced t) (published_plain l.second) t0,
      e,
    )

counts_none : (c : ℕ) (o d a b t : List ℕ) → count_of c o ≡ 0 → count_of c d ≡ 0 → count_of c a ≡ 0 → count_of c b ≡ 0 → count_of c t ≡ 0 → count_of c (o ++ (d ++ (a ++ (b ++ t)))) ≡ 0
counts_none c o d a b t ho hd ha hb ht =
    omega (arith, count-append c o (d ++ (a ++ (b ++ t))), count-append c d (a ++ (b ++ t)), count-append c a (b ++ t), count-append c b t)

module _ (l : Line) where
  pub instruction_newlines : count_of newline (instruction_text l) ≡ 0
  unfolding instruction_text
  instruction_newlines =
      counts_none newline (spell_opcode l.opcode) _ _ _ _ (opcode_counts l.opcode).0 (spaced_newlines (spell_published l.destination) (published_plain l.destination)) (spaced_newlines (spell_published l.first) (published_plain l.first))
      (spaced_newlines (spell_published l.second) (published_plain l.second)) (spaced_newlines (spell_target_name l.target) (target_plain l.target))

  pub instruction_comments : count_of semicolon (instruction_text l) ≡ 0
  unfolding instruction_text
  instruction_comments =
      counts_none semicolon (spell_opcode l.opcode) _ _ _ _ (opcode_counts l.opcode).1 (spaced_comments (spell_published l.destination) (published_plain l.destination)) (spaced_comments (spell_published l.first) (published_plain l.first))
      (spaced_comments (spell_published l.second) (published_plain l.second)) (spaced_comments (spell_target_name l.target) (target_plain l.target))

-- ---- each part is found in its field

abbrev has : List ℕ → Bool
has [] = false
has (b ∷ s) = true

has-filled : (s : List ℕ) → ltb 0 (length s) ≡ has s
has-filled [] = refl
has-filled (b ∷ s) = lt-ltb 0 (length (b ∷ s)) (omega arith)

record Placed (d a b t : List ℕ) : Type 0 where
  count : length (presents d a b t) ≡ bit (has d) + bit (has a) + bit (has b) + bit (has t)
  destination : filled_by (has d) 0 (presents d a b t) ≡ d
  first : filled_by (has a) (bit (has d)) (presents d a b t) ≡ a
  second : filled_by (has b) (bit (has d) + bit (has a)) (presents d a b t) ≡ b
  target : filled_by (has t) (bit (has d) + bit (has a) + bit (has b)) (presents d a b t) ≡ t

placed : (d a b t : List ℕ) → Placed d a b t
placed [] [] [] [] = record { count = refl; destination = refl; first = refl; second = refl; target = refl }
placed [] [] [] (t ∷ tt) = record { count = refl; destination = refl; first = refl; second = refl; target = refl }
placed [] [] (b ∷ bb) [] = record { count = refl; destination = refl; first = refl; second = refl; target = refl }
placed [] [] (b ∷ bb) (t ∷ tt) = record { count = refl; destination = refl; first = refl; second = refl; target = refl }
placed [] (a ∷ aa) [] [] = record { count = refl; destination = refl; first = refl; second = refl; target = refl }
placed [] (a ∷ aa) [] (t ∷ tt) = record { count = refl; destination = refl; first = refl; second = refl; target = refl }
placed [] (a ∷ aa) (b ∷ bb) [] = record { count = refl; destination = refl; first = refl; second = refl; target = refl }
placed [] (a ∷ aa) (b ∷ bb) (t ∷ tt) = record { count = refl; destination = refl; first = refl; second = refl; target = refl }
placed (d ∷ dd) [] [] [] = record { count = refl; destination = refl; first = refl; second = refl; target = refl }
placed (d ∷ dd) [] [] (t ∷ tt) = record { count = refl; destination = refl; first = refl; second = refl; target = refl }
placed (d ∷ dd) [] (b ∷ bb) [] = record { count = refl; destination = refl; first = refl; second = refl; target = refl }
placed (d ∷ dd) [] (b ∷ bb) (t ∷ tt) = record { count = refl; destination = refl; first = refl; second = refl; target = refl }
placed (d ∷ dd) (a ∷ aa) [] [] = record { count = refl; destination = refl; first = refl; second = refl; target = refl }
placed (d ∷ dd) (a ∷ aa) [] (t ∷ tt) = record { count = refl; destination = refl; first = refl; second = refl; target = refl }
placed (d ∷ dd) (a ∷ aa) (b ∷ bb) [] = record { count = refl; destination = refl; first = refl; second = refl; target = refl }
placed (d ∷ dd) (a ∷ aa) (b ∷ bb) (t ∷ tt) = record { count = refl; destination = refl; first = refl; second = refl; target = refl }

-- ---- what acceptance says of a line

three : (x y z : Bool) → T (not (x || y || z)) → T (not x) × T (not y) × T (not z)
three true y z h = absurd h
three false true z h = absurd h
three false false true h = absurd h
three false false false h = (tt, tt, tt)

not_reserved : (o : Operand) → T (not (is_reserved o)) → Spelled o
unfolding is_reserved
not_reserved Empty h = tt
not_reserved (Literal n) h = tt
not_reserved (Register n) h = tt
not_reserved (Cell n) h = tt
not_reserved (PublicCell r k) h = tt
not_reserved (SensitiveCell r k) h = tt
not_reserved (TableCell r k) h = absurd h

pub all_spelled : (n : ℕ) (l : Line) → mark_fault n l ≡ 0 → Spelled l.destination × Spelled l.first × Spelled l.second
unfolding holds10
all_spelled n l e =
    let c = clear n l e in
    let w = three (is_reserved l.destination) (is_reserved l.first) (is_reserved l.second) c.c10 in
    (not_reserved l.destination w.0, not_reserved l.first w.1, not_reserved l.second w.2)

sensitive_is : (o : Operand) → SensitivePlace o → is_sensitive (kind_of o) ≡ true
unfolding kind_of
sensitive_is Empty h = absurd h
sensitive_is (Literal n) h = absurd h
sensitive_is (Register n) h = ap is_sensitive (sensitive_register n h.0 h.1)
sensitive_is (Cell n) h = ap is_sensitive (sensitive_cell (32 + n) (omega (arith, h.0)) (omega (arith, h.1)))
sensitive_is (PublicCell r k) h = absurd h
sensitive_is (SensitiveCell r k) h = refl
sensitive_is (TableCell r k) h = absurd h

not_true : (b : Bool) → T (not b) → b ≡ false
not_true true h = absurd h
not_true false h = refl

-- the mark of an accepted line is s exactly where its destination is sensitive
mark_of : (n : ℕ) (m : Mark) (op : Opcode) (d a b : Operand) (t : Target) → T (correct (mk m op d a b t)) → mark_fault n (mk m op d a b t) ≡ 0 → bit (is_sensitive (kind_of d)) ≡ mark_code m
unfolding holds11
mark_of n Unmarked op d a b t h e = ap bit (not_true (is_sensitive (kind_of d)) (clear n (mk Unmarked op d a b t) e).c11)
mark_of n Marked op d a b t h e =
    let w = marked_operands n op d a b t h e in
    ap bit (sensitive_is d (marked_destination op d a b w))

-- ---- the line comes home

target_parsed : (must : Bool) (t : Target) (labels : List Label) (next : ℕ → Parsed) → T (target_right must t)
    → ((k : ℕ) → t ≡ ToLine k → find (line_name k) labels ≡ some k) → or_missing must labels (spell_target_name t) next ≡ next (target_code t)
unfolding target_right spell_target_name
target_parsed false NoTarget labels next h f = refl
target_parsed true NoTarget labels next h f = absurd h
target_parsed false (ToLine k) labels next h f = absurd h
target_parsed true (ToLine k) labels next h f = rw (line_alphanumeric k, f k refl)

target_has : (must : Bool) (t : Target) → T (target_right must t) → has (spell_target_name t) ≡ must
unfolding target_right spell_target_name line_name
target_has false NoTarget h = refl
target_has true NoTarget h = absurd h
target_has false (ToLine k) h = absurd h
target_has true (ToLine k) h = refl

module _ (n : ℕ) (labels : List Label) (l : Line) (h : T (correct l)) (e : mark_fault n l ≡ 0) (f : (k : ℕ) → l.target ≡ ToLine k → find (line_name k) labels ≡ some k) where
  operands_there : operands_parsed n (opcode_code l.opcode) (spell_published l.destination) (spell_published l.first) (spell_published l.second) (target_code l.target) ≡ numbers (codes l)
  unfolding operands_parsed
  operands_there =
      let g = correct_fields l h in
      let s = all_spelled n l e in
      let d : operand_of (operand_code l.destination) ≡ l.destination = (operand_there _ l.destination g.destination).same in
      let place : is_literal (operand_of (operand_code l.destination)) ≡ false = ap is_literal d ∙ g.place in
      let mine : mark_for (operand_code l.destination) ≡ mark_code l.mark = ap (λ (o : Operand). bit (is_sensitive (kind_of o))) d ∙ mark_of n l.mark l.opcode l.destination l.first l.second l.target h e in
      rw (
        published_there _ l.destination g.destination s.0,
        place,
        published_there _ l.first g.first s.1,
        published_there _ l.second g.second s.2,
        mine,
        line_back l h,
        e,
      )

  parts_there_lem : parts_parsed n labels (opcode_code l.opcode) (fills l.opcode) (presents (spell_published l.destination) (spell_published l.first) (spell_published l.second) (spell_target_name l.target)) ≡ numbers (codes l)
  unfolding parts_parsed
  parts_there_lem =
      let g = correct_fields l h in
      let s = all_spelled n l e in
      let d : List ℕ = spell_published l.destination in
      let a : List ℕ = spell_published l.first in
      let b : List ℕ = spell_published l.second in
      let t : List ℕ = spell_target_name l.target in
      let p = placed d a b t in
      let hd : has d ≡ (fills l.opcode).destination = sym (has-filled d) ∙ published-filled _ l.destination g.destination s.0 in
      let ha : has a ≡ (fills l.opcode).first = sym (has-filled a) ∙ published-filled _ l.first g.first s.1 in
      let hb : has b ≡ (fills l.opcode).second = sym (has-filled b) ∙ published-filled _ l.second g.second s.2 in
      let ht : has t ≡ (fills l.opcode).target = target_has _ l.target g.target in
      rw (
        ← hd,
        ← ha,
        ← hb,
        ← ht,
        eq-eqb (length (presents d a b t)) (bit (has d) + bit (has a) + bit (has b) + bit (has t)) p.count,
        p.target,
        p.destination,
        p.first,
        p.second,
        ht,
      )
      (target_parsed (fills l.opcode).target l.target labels (operands_parsed n (opcode_code l.opcode) d a b) g.target f ∙ operands_there)

  pub line_home : instruction_parsed n labels (parts_of l) ≡ numbers (codes l)
  unfolding instruction_parsed
  line_home =
      let o = opcode_there l.opcode in
      let q : (opcode_field (spell_opcode l.opcode)).number ≡ some (opcode_code l.opcode) = (opcode_exactly _ _).1 (o.1, ap spell_opcode o.0) in
      rw (q, o.0) parts_there_lem
