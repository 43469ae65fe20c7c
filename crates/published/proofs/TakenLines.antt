-- The lines that are taken in are those of an accepted program: what an instruction that has a counterpart is read as, and line after line.
-- Assumes nothing.
use Prim.Native.Nat.{ℕ, zero, suc, ◌+◌, ◌%◌, ◌≤◌, ◌<◌}
use mathlib.Core.Bool.{Bool, true, false, cond, not, ◌&&◌, ◌||◌}
use mathlib.Core.Path.{◌≡◌, refl, sym, ap, ap₂, subst, ◌∙◌}
use mathlib.Core.List.{List, [], ◌∷◌, ◌++◌, map, flat_map}
use mathlib.Core.Option.{Option, none, some}
use native.Mathlib.Nat.{mod-eq_of_lt}
use native.Mathlib.Omega.{arith}
use lib.ListN.{length, get_or, drop}
use lib.Dec.{T, ltb, leb, eqb}
use borrow.Author.Tests.{lt-ltb, eq-eqb, eqb-true}
use Rattle.model.specs.declared.Line.{Line}
use Rattle.model.specs.Limits.{max_accepted}
use Rattle.model.specs.Answers.{counted}
use Rattle.model.specs.Lines.{Filled, filled, fills, is_literal, correct}
use Rattle.model.specs.Stored.{opcodes, tables, targets, opcode_of, operand_of, line_of, target_code, codes, Parsed, numbers, wrong, or_wrong, same_filled, no_literal, fault}
use Rattle.model.specs.Text.{comma, count_of, opcode_field, up_to, newline}
use Rattle.model.specs.Places.{kind_of, is_sensitive}
use Rattle.model.specs.Marks.{mark_fault}
use Rattle.model.proofs.StoredLaws.{Right, right-back, right-correct, correct_fields, target_there, same_self, operand_back, counted_count}
use Rattle.model.proofs.SpellingLaws.{spelled_back, opcode_exactly}
use Rattle.model.proofs.ReadingLaws.{never_numbers}
use Rattle.model.proofs.Acceptance.{AllRight}
use Rattle.published.specs.Published.{space, semicolon, is_blank, onto, cut_lines, words, TextLine, text_line, text_lines, labelled, instruction}
use Rattle.published.specs.Published.{spell_published, with_offset, published_number, bit, mark_for, is_counted, Label, find, all_alphanumeric, Seen, after}
use Rattle.published.specs.Published.{part_count, filled_by, or_missing, operands_parsed, parts_parsed, instruction_parsed, parsed_line, label_wrong, holds24, holds25, line_fault, first_fault, numbers_of, stored_lines}
use Rattle.published.specs.Table.{Low}
use Rattle.published.specs.Passes.{kept_of, kept_lines}
use Rattle.published.proofs.OperandSpelling.{number_spelled, published-filled}
use Rattle.published.proofs.SeenLaws.{low-find, fault-back, fault-nil, stored-cons, stored-nil, kept_cons, kept-nil}

-- ---- no part is empty

abbrev pub Full : List (List ℕ) → Type 0
Full [] = Unit {0}
Full (p ∷ ps) = (0 < length p) × Full ps

full-onto : (b : ℕ) (ps : List (List ℕ)) → Full ps → Full (onto b ps)
full-onto b [] h = (omega arith, tt)
full-onto b (p ∷ ps) h = (omega arith, h.1)

full-words : (s : List ℕ) → Full (words s)
unfolding words
full-words [] = tt
full-words (b ∷ s) = by (is_blank b) (is_blank (get_or s 0 space)) (full-words s)
  where
    by : (t u : Bool) → Full (words s) → Full (cond t (words s) (cond u ((b ∷ []) ∷ words s) (onto b (words s))))
    by true u h = h
    by false true h = (omega arith, h)
    by false false h = full-onto b (words s) h

full_rest : (ps : List (List ℕ)) → Full ps → Full (drop 1 ps)
full_rest [] h = tt
full_rest (p ∷ ps) h = h.1

full-instruction : (ps : List (List ℕ)) → Full ps → Full (instruction ps)
full-instruction ps h = by (labelled ps)
  where
    by : (t : Bool) → Full (cond t (drop 1 ps) ps)
    by true = full_rest ps h
    by false = h

abbrev pub FullLines : List TextLine → Type 0
FullLines [] = Unit {0}
FullLines (l ∷ ls) = Full l.parts × FullLines ls

pub full-lines : (text : List ℕ) → FullLines (text_lines text)
unfolding text_lines text_line
full-lines text = go (cut_lines text)
  where
    go : (ls : List (List ℕ)) → FullLines (map text_line ls)
    go [] = tt
    go (l ∷ ls) = (full-words (up_to semicolon (up_to newline l)), go ls)

full_at : (ps : List (List ℕ)) (i : ℕ) → Full ps → i < length ps → 0 < length (get_or ps i [])
full_at [] i h g = absurd (omega arith)
full_at (p ∷ ps) zero h g = h.0
full_at (p ∷ ps) (suc i) h g = full_at ps i h.1 (omega arith)

filled_at : (f : Bool) (i : ℕ) (ps : List (List ℕ)) → Full ps → (f ≡ true → i < length ps) → ltb 0 (length (filled_by f i ps)) ≡ f
filled_at true i ps h g = lt-ltb 0 _ (full_at ps i h (g refl))
filled_at false i ps h g = refl

-- ---- an operand that has a counterpart

with_offset_lem : (s : List ℕ) → ltb 0 (length (with_offset s)) ≡ ltb 0 (length s)
unfolding with_offset
with_offset_lem [] = refl
with_offset_lem (b ∷ s) = by (eqb b 33 && eqb (count_of comma (b ∷ s)) 0)
  where
    by : (t : Bool) → ltb 0 (length (cond t (b ∷ (s ++ (comma ∷ 48 ∷ []))) (b ∷ s))) ≡ ltb 0 (length (b ∷ s))
    by true = lt-ltb 0 (suc (length (s ++ (comma ∷ 48 ∷ [])))) (omega arith) ∙ sym (lt-ltb 0 (suc (length s)) (omega arith))
    by false = refl

published-back : (s : List ℕ) (k : ℕ) → published_number s ≡ some k → (k < tables) × (ltb 0 k ≡ ltb 0 (length s))
unfolding published_number
published-back s k e =
    let w = spelled_back (λ n. spell_published (operand_of n)) 0 tables (with_offset s) k e in
    let l : k < tables = omega (arith, w.1) in (
      l,
      sym (published-filled (ltb 0 k) (operand_of k) (operand_back k (omega arith)) (number_spelled k l)) ∙ ap (λ (t : List ℕ). ltb 0 (length t)) w.2 ∙ with_offset_lem s,
    )

-- ---- an instruction that has a counterpart is a correct line that the mark check passes

record Back (x : Option ℕ) (f : ℕ → Parsed) (ns : List ℕ) : Type 0 where
  value : ℕ
  is : x ≡ some value
  then : f value ≡ numbers ns

or_back : (k : ℕ) (x : Option ℕ) (f : ℕ → Parsed) (ns : List ℕ) → or_wrong k x f ≡ numbers ns → Back x f ns
or_back k (some n) f ns e = record { value = n; is = refl; then = e }
or_back k none f ns e = absurd (never_numbers e)

cond_back : (t : Bool) (x : Parsed) (k : ℕ) (ns : List ℕ) → cond t x (wrong k) ≡ numbers ns → (t ≡ true) × (x ≡ numbers ns)
cond_back true x k ns e = (refl, e)
cond_back false x k ns e = absurd (never_numbers e)

same_numbers : {x y : List ℕ} → numbers x ≡ numbers y → x ≡ y
same_numbers e = cc

place-back : (x : Option ℕ) (k : ℕ) → no_literal x ≡ some k → (x ≡ some k) × (is_literal (operand_of k) ≡ false)
place-back none k e = let z : ◌≡◌ {A = ℕ} 0 1 = cc in absurd (omega arith)
place-back (some n) k e = by (is_literal (operand_of n)) refl e
  where
    by : (t : Bool) → is_literal (operand_of n) ≡ t → cond t none (some n) ≡ some k → (some n ≡ some k) × (is_literal (operand_of k) ≡ false)
    by true p q = let z : ◌≡◌ {A = ℕ} 0 1 = cc in absurd (omega arith)
    by false p q = let z : n ≡ k = cc in (q, ap (λ (j : ℕ). is_literal (operand_of j)) (sym z) ∙ p)

-- the line of the numbers
pub record Taken (n : ℕ) (ns : List ℕ) : Type 0 where
  pub line : Line
  pub is : ns ≡ codes line
  pub right : T (correct line)
  pub passes : mark_fault n line ≡ 0

bit-few : (t : Bool) → bit t < 2
bit-few true = omega arith
bit-few false = omega arith

module _ (n o : ℕ) (f : Filled) (d a b : List ℕ) (t : ℕ) (ns : List ℕ) (known : o < opcodes) (same : fills (opcode_of o) ≡ f) (hd : ltb 0 (length d) ≡ f.destination) (ha : ltb 0 (length a) ≡ f.first) (hb : ltb 0 (length b) ≡ f.second) (ht : ltb 0 t ≡ f.target) (range : t < targets) where
  operands-back : operands_parsed n o d a b t ≡ numbers ns → Taken n ns
  unfolding operands_parsed
  operands-back e =
      let x = or_back 25 (no_literal (published_number d)) _ ns e in
      let y = or_back 25 (published_number a) _ ns x.then in
      let z = or_back 25 (published_number b) _ ns y.then in
      let p = place-back (published_number d) x.value x.is in
      let i = published-back d x.value p.0 in
      let j = published-back a y.value y.is in
      let k = published-back b z.value z.is in
      let m : ℕ = mark_for x.value in
      let w = cond_back (eqb (mark_fault n (line_of m o x.value y.value z.value t)) 0) (numbers (m ∷ o ∷ x.value ∷ y.value ∷ z.value ∷ t ∷ [])) 25 ns z.then in
      let so : same_filled (fills (opcode_of o)) (filled (ltb 0 x.value) (ltb 0 y.value) (ltb 0 z.value) (ltb 0 t)) ≡ true =
      rw (i.1 ∙ hd, j.1 ∙ ha, k.1 ∙ hb, ht, same) (same_self f) in
      let r : Right m o x.value y.value z.value t =
      record { mark = bit-few (is_sensitive (kind_of (operand_of x.value))); opcode = known; fills_so = so; destination = omega (arith, i.0); place = p.1; first = omega (arith, j.0); second = omega (arith, k.0); target = range } in
      record {
        line = line_of m o x.value y.value z.value t;
        is = sym (same_numbers w.1) ∙ sym (right-back m o x.value y.value z.value t r);
        right = right-correct m o x.value y.value z.value t r;
        passes = eqb-true _ 0 w.0;
      }

missing_back : (f : Bool) (labels : List Label) (name : List ℕ) (next : ℕ → Parsed) (n : ℕ) (ns : List ℕ) → Low n labels
    → ((t : ℕ) → t ≤ n + 1 → ltb 0 t ≡ f → next t ≡ numbers ns → Taken n ns) → or_missing f labels name next ≡ numbers ns → Taken n ns
missing_back false labels name next n ns l g e = g 0 (omega arith) refl e
missing_back true labels name next n ns l g e =
    let w = or_back 24 (find name labels) (λ k. next (1 + k)) ns (cond_back (all_alphanumeric name) _ 25 ns e).1 in
    g (1 + w.value) (omega (arith, low-find n name labels w.value l w.is)) (lt-ltb 0 (1 + w.value) (omega arith)) w.then

bit_one : (t : Bool) → t ≡ true → bit t ≡ 1
bit_one t e = ap bit e

module _ (n : ℕ) (labels : List Label) (low : Low n labels) (few : n ≤ max_accepted) where
  parts_back : (o : ℕ) (ps : List (List ℕ)) (ns : List ℕ) → Full ps → o < opcodes → parts_parsed n labels o (fills (opcode_of o)) ps ≡ numbers ns → Taken n ns
  unfolding parts_parsed
  parts_back o ps ns full known e =
      let f : Filled = fills (opcode_of o) in
      let w = cond_back (eqb (length ps) (part_count f)) _ 25 ns e in
      let count : length ps ≡ part_count f = eqb-true (length ps) (part_count f) w.0 in
      missing_back f.target labels _ _ n ns low
      (λ t h g q. operands-back n o f _ _ _ t ns known refl
      (filled_at f.destination _ ps full (λ (c : f.destination ≡ true). omega (arith, count, bit_one _ c)))
      (filled_at f.first _ ps full (λ (c : f.first ≡ true). omega (arith, count, bit_one _ c)))
      (filled_at f.second _ ps full (λ (c : f.second ≡ true). omega (arith, count, bit_one _ c)))
      g (omega arith) q)
      w.1

  pub instruction-back : (ps : List (List ℕ)) (ns : List ℕ) → Full ps → instruction_parsed n labels ps ≡ numbers ns → Taken n ns
  unfolding instruction_parsed
  instruction-back [] ns full e = absurd (never_numbers e)
  instruction-back (o ∷ ps) ns full e =
      let w = or_back 25 (opcode_field o).number _ ns e in
      parts_back w.value ps ns full.1 ((opcode_exactly o w.value).0 w.is).0 w.then

-- ---- what is refused is refused with 24 or 25

abbrev Known : Parsed → Type 0
Known (numbers ns) = Unit {0}
Known (wrong k) = (k ≡ 24 → ⊥) → k ≡ 25

known_or : (k : ℕ) (x : Option ℕ) (f : ℕ → Parsed) → Known (wrong k) → ((j : ℕ) → Known (f j)) → Known (or_wrong k x f)
known_or k (some n) f h g = g n
known_or k none f h g = h

known_if : (t : Bool) (x : Parsed) → Known x → Known (cond t x (wrong 25))
known_if true x h = h
known_if false x h = λ q. refl

known_24 : Known (wrong 24)
known_24 = λ q. absurd (q refl)

known_operands : (n o : ℕ) (d a b : List ℕ) (t : ℕ) → Known (operands_parsed n o d a b t)
unfolding operands_parsed
known_operands n o d a b t =
    known_or 25 (no_literal (published_number d)) _ (λ q. refl) (λ x.
    known_or 25 (published_number a) _ (λ q. refl) (λ y.
    known_or 25 (published_number b) _ (λ q. refl) (λ z.
    known_if (eqb (mark_fault n (line_of (mark_for x) o x y z t)) 0) (numbers (mark_for x ∷ o ∷ x ∷ y ∷ z ∷ t ∷ [])) tt)))

known_missing : (f : Bool) (labels : List Label) (name : List ℕ) (next : ℕ → Parsed) → ((t : ℕ) → Known (next t)) → Known (or_missing f labels name next)
known_missing false labels name next g = g 0
known_missing true labels name next g = known_if (all_alphanumeric name) _ (known_or 24 (find name labels) (λ k. next (1 + k)) known_24 (λ k. g (1 + k)))

known_parts : (n : ℕ) (labels : List Label) (o : ℕ) (f : Filled) (ps : List (List ℕ)) → Known (parts_parsed n labels o f ps)
unfolding parts_parsed
known_parts n labels o f ps =
    known_if (eqb (length ps) (part_count f)) _ (known_missing f.target labels _ _ (λ t. known_operands n o _ _ _ t))

known_instruction : (n : ℕ) (labels : List Label) (ps : List (List ℕ)) → Known (instruction_parsed n labels ps)
unfolding instruction_parsed
known_instruction n labels [] = λ q. refl
known_instruction n labels (o ∷ ps) = known_or 25 (opcode_field o).number _ (λ q. refl) (λ k. known_parts n labels k (fills (opcode_of k)) ps)

-- ---- a line without a fault: counted, it has numbers, else nothing comes of it

pub data LineRead (x : Parsed) (c : Bool) : Type 0 where
  line : (ns : List ℕ) → x ≡ numbers ns → c ≡ true → LineRead x c
  no_line : x ≡ wrong 25 → c ≡ false → LineRead x c

false_true : false ≡ true → ⊥
false_true z = let y : ◌≡◌ {A = ℕ} 0 1 = ap bit z in omega arith

not_counted : (n : ℕ) (labels : List Label) (ps : List (List ℕ)) → ltb 0 (length ps) ≡ false → instruction_parsed n labels ps ≡ wrong 25
unfolding instruction_parsed
not_counted n labels [] e = refl
not_counted n labels (p ∷ ps) e = absurd (false_true (sym e ∙ lt-ltb 0 (length (p ∷ ps)) (omega arith)))

-- a fault that is told
told : (k : ℕ) → Known (wrong k) → (w y d : Bool) → ◌≡◌ {A = ℕ} (cond (w || eqb k 24) 24 (cond (y || (d || eqb k 25)) 25 0)) 0 → ⊥
told k h true y d e = omega arith
told k h false y d e = by (eqb k 24) refl e
  where
    open_25 : (y d : Bool) → ◌≡◌ {A = ℕ} (cond (y || (d || true)) 25 0) 0 → ⊥
    open_25 true d e = omega arith
    open_25 false true e = omega arith
    open_25 false false e = omega arith

    by : (t : Bool) → eqb k 24 ≡ t → ◌≡◌ {A = ℕ} (cond t 24 (cond (y || (d || eqb k 25)) 25 0)) 0 → ⊥
    by true p e = omega arith
    by false p e = open_25 y d (rw (h (λ z. false_true (sym p ∙ eq-eqb k 24 z))) at e)

pub line_read : (all s : Seen) (l : TextLine) → line_fault all s l ≡ 0 → LineRead (parsed_line all l) (is_counted l.parts)
unfolding line_fault holds24 holds25
line_read all s l e = by (is_counted l.parts) refl (label_wrong s.labels l.parts) (not l.ended) (leb max_accepted s.count) e (parsed_line all l) refl
  where
    by : (c : Bool) → is_counted l.parts ≡ c → (w y d : Bool)
        → ◌≡◌ {A = ℕ} (cond (w || c && eqb (fault (parsed_line all l)) 24) 24 (cond (y || c && (d || eqb (fault (parsed_line all l)) 25)) 25 0)) 0
        → (x : Parsed) → parsed_line all l ≡ x → LineRead x c
    by false q w y d e x p = no_line (sym p ∙ not_counted all.count all.labels (instruction l.parts) q) refl
    by true q w y d e (numbers ns) p = line ns refl refl
    by true q w y d e (wrong k) p = absurd (told k (subst Known p (known_instruction all.count all.labels (instruction l.parts))) w y d (rw p at e))

-- ---- six numbers

six-operands : (n o : ℕ) (d a b : List ℕ) (t : ℕ) (ns : List ℕ) → operands_parsed n o d a b t ≡ numbers ns → length ns ≡ 6
unfolding operands_parsed
six-operands n o d a b t ns e =
    let x = or_back 25 (no_literal (published_number d)) _ ns e in
    let y = or_back 25 (published_number a) _ ns x.then in
    let z = or_back 25 (published_number b) _ ns y.then in
    let w = cond_back (eqb (mark_fault n (line_of (mark_for x.value) o x.value y.value z.value t)) 0) (numbers (mark_for x.value ∷ o ∷ x.value ∷ y.value ∷ z.value ∷ t ∷ [])) 25 ns z.then in
    ap length (sym (same_numbers w.1))

six_missing : (f : Bool) (labels : List Label) (name : List ℕ) (next : ℕ → Parsed) (ns : List ℕ) → ((t : ℕ) → next t ≡ numbers ns → length ns ≡ 6) → or_missing f labels name next ≡ numbers ns → length ns ≡ 6
six_missing false labels name next ns g e = g 0 e
six_missing true labels name next ns g e =
    let w = or_back 24 (find name labels) (λ k. next (1 + k)) ns (cond_back (all_alphanumeric name) _ 25 ns e).1 in g (1 + w.value) w.then

six_parts : (n : ℕ) (labels : List Label) (o : ℕ) (f : Filled) (ps : List (List ℕ)) (ns : List ℕ) → parts_parsed n labels o f ps ≡ numbers ns → length ns ≡ 6
unfolding parts_parsed
six_parts n labels o f ps ns e =
    six_missing f.target labels _ _ ns (λ t q. six-operands n o _ _ _ t ns q) (cond_back (eqb (length ps) (part_count f)) _ 25 ns e).1

pub six_numbers_lem : (n : ℕ) (labels : List Label) (ps : List (List ℕ)) (ns : List ℕ) → instruction_parsed n labels ps ≡ numbers ns → length ns ≡ 6
unfolding instruction_parsed
six_numbers_lem n labels [] ns e = absurd (never_numbers e)
six_numbers_lem n labels (o ∷ ps) ns e =
    let w = or_back 25 (opcode_field o).number _ ns e in six_parts n labels w.value (fills (opcode_of w.value)) ps ns w.then

-- ---- all lines

-- the numbers of a correct line fit a store
small : (t : ℕ) → t < targets → t % 65536 ≡ t
small t h = mod-eq_of_lt (omega arith)

kept_line : (l : Line) → T (correct l) → kept_of (numbers (codes l)) ≡ codes l
kept_line l h = rw (small (target_code l.target) (target_there (fills l.opcode).target l.target (correct_fields l h).target).range)

pub record Program (all : Seen) (i k : ℕ) (ls : List TextLine) : Type 0 where
  pub lines_are : List Line
  pub is : stored_lines all ls ≡ flat_map codes lines_are
  pub kept : kept_lines all ls ≡ flat_map codes lines_are
  pub right : AllRight all.count lines_are
  pub count : i + length lines_are ≡ k

module _ (all : Seen) (low : Low all.count all.labels) (few : all.count ≤ max_accepted) where
  none_taken : (s : Seen) (i k : ℕ) → first_fault all i s [] ≡ counted k → Program all s.count k []
  unfolding AllRight flat_map
  none_taken s i k e = record { lines_are = []; is = stored-nil all; kept = kept-nil all; right = tt; count = omega (arith, counted_count (sym (fault-nil all i s) ∙ e)) }

  more_taken : (s : Seen) (l : TextLine) (ls : List TextLine) (k : ℕ) → Full l.parts → LineRead (parsed_line all l) (is_counted l.parts)
      → Program all (after s l).count k ls → Program all s.count k (l ∷ ls)
  unfolding after AllRight flat_map
  more_taken s l ls k full (line ns p c) r =
      let t = instruction-back all.count all.labels low few (instruction l.parts) ns (full-instruction l.parts full) p in
      record {
        lines_are = t.line ∷ r.lines_are;
        is = stored-cons all l ls ∙ ap₂ (λ (x y : List ℕ). x ++ y) (ap numbers_of p ∙ t.is) r.is;
        kept = kept_cons all l ls ∙ ap₂ (λ (x y : List ℕ). x ++ y) (ap kept_of (p ∙ ap numbers t.is) ∙ kept_line t.line t.right) r.kept;
        right = (t.right, t.passes, r.right);
        count = omega (arith, r.count, ap bit c);
      }
  more_taken s l ls k full (no_line p c) r =
      record {
        lines_are = r.lines_are;
        is = stored-cons all l ls ∙ ap (λ (x : Parsed). numbers_of x ++ stored_lines all ls) p ∙ r.is;
        kept = kept_cons all l ls ∙ ap (λ (x : Parsed). kept_of x ++ kept_lines all ls) p ∙ r.kept;
        right = r.right;
        count = omega (arith, r.count, ap bit c);
      }

  pub lines-taken : (i : ℕ) (s : Seen) (ls : List TextLine) (k : ℕ) → FullLines ls → first_fault all i s ls ≡ counted k → Program all s.count k ls
  lines-taken i s [] k h e = none_taken s i k e
  lines-taken i s (l ∷ ls) k h e =
      let w = fault-back all i s l ls k e in
      more_taken s l ls k h.0 (line_read all s l w.0) (lines-taken (i + 1) (after s l) ls k h.1 w.1)
