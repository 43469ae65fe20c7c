-- Printing the published text: spaces before parts that are there, the targets used told beforehand, and line after line, what is left after the
-- bytes so far always gives the whole text. Assumes nothing.
use Prim.Native.Nat.{ℕ, zero, suc, ◌+◌, ◌-◌, ◌*◌, ◌≤◌, ◌<◌, ◌/◌, ◌%◌}
use mathlib.Core.Bool.{Bool, true, false, cond, ◌&&◌, ◌||◌, false≢true}
use mathlib.Core.Path.{◌≡◌, refl, sym, ap, ◌∙◌}
use mathlib.Core.List.{List, [], ◌∷◌, ◌++◌, append_assoc}
use native.Mathlib.Omega.{arith}
use native.Mathlib.Nat.{zero-add}
use lib.ListN.{length, get_or, set, replicate, length-append, length-set}
use lib.Seq.{sets, get_or-set_same, get_or-set_other}
use lib.Dec.{ltb, leb, eqb, ltb→lt, leb→le}
use borrow.Author.Tests.{eq-eqb, ne_eqb, lt-ltb, le-ltb, le-leb, leb-true, leb-false, eqb-true, eqb-false}
use Rattle.std.specs.Prelude.{Result, Err}
use Rattle.model.specs.declared.Refusal.{Refusal}
use Rattle.model.specs.declared.Operand.{Operand}
use Rattle.model.specs.declared.Operand.TheVariants.{Empty, Literal, Register, Cell, PublicCell, SensitiveCell, TableCell}
use Rattle.model.specs.declared.Target.{Target}
use Rattle.model.specs.declared.Target.TheVariants.{Empty as NoTarget, Line as ToLine}
use Rattle.model.specs.declared.Line.{Line}
use Rattle.model.specs.Limits.{line_width, max_accepted}
use Rattle.model.specs.Answers.{report, refused, counted, outcome, at_front}
use Rattle.model.specs.Stored.{literals, registers, cells, publics, sensitives, tables, operand_of, target_of, line_at, line_count, lines, lines_from}
use Rattle.model.specs.Text.{newline, comma, decimal, spell_opcode, fitted}
use Rattle.model.specs.Marks.{mark_check}
use Rattle.model.proofs.TestLaws.{below, or_false, and_both, holds}
use Rattle.model.proofs.StoredLaws.{operand_back, lines-length, length-lines}
use Rattle.model.proofs.DecimalLaws.{decimal_5}
use Rattle.model.proofs.SpellingLaws.{opcode_3}
use Rattle.model.proofs.Acceptance.{accepted_right}
use Rattle.model.proofs.CheckAnswers.{accepted_source, refusal, refusal-told, refusal_leaves}
use Rattle.printing.specs.Writing.{Wrote}
use Rattle.printing.proofs.WroteLaws.{wrote_sets}
use Rattle.published.specs.Published.{space, colon}
use Rattle.published.specs.Published.{based, spell_published, line_name, spell_target_name}
use Rattle.published.specs.Published.{spaced, instruction_text, goes_to, is_target, label_line, published_from, published}
use Rattle.published.specs.Printing.{marked_by, Used, publish_outcome}
use Rattle.printing.proofs.PrintLaws.{minus_0, one_less}
use Rattle.published.proofs.OperandSpelling.{number_spelled, published-filled}

-- ---- operands

pub spelled_public : (k : ℕ) → publics ≤ k → k < sensitives → based ((k - publics) / 128) ((k - publics) % 128) ≡ spell_published (operand_of k)
unfolding operand_of spell_published
spelled_public k h g =
    rw (le-ltb k literals (omega arith), le-ltb k registers (omega arith), le-ltb k cells (omega arith), le-ltb k publics h, lt-ltb k sensitives g)

pub spelled_sensitive : (k : ℕ) → sensitives ≤ k → k < tables → based ((k - sensitives) / 128) (128 + (k - sensitives) % 128) ≡ spell_published (operand_of k)
unfolding operand_of spell_published
spelled_sensitive k h g =
    rw (le-ltb k literals (omega arith), le-ltb k registers (omega arith), le-ltb k cells (omega arith), le-ltb k publics (omega arith), le-ltb k sensitives h, lt-ltb k tables g)

pub spelled_table : (k : ℕ) → tables ≤ k → [] ≡ spell_published (operand_of k)
unfolding operand_of spell_published
spelled_table k h =
    rw (le-ltb k literals (omega arith), le-ltb k registers (omega arith), le-ltb k cells (omega arith), le-ltb k publics (omega arith), le-ltb k sensitives (omega arith), le-ltb k tables h)

pub spaced_empty : (k : ℕ) → k < literals → spaced (spell_published (operand_of k)) ≡ []
unfolding operand_of spell_published
spaced_empty k h = rw (lt-ltb k literals h)

pub spaced_table : (k : ℕ) → tables ≤ k → spaced (spell_published (operand_of k)) ≡ []
spaced_table k h = ap spaced (sym (spelled_table k h))

spaced_some : (s : List ℕ) → ltb 0 (length s) ≡ true → spaced s ≡ space ∷ s
spaced_some [] e = absurd (false≢true e)
spaced_some (b ∷ s) e = refl

pub spaced_there : (k : ℕ) → literals ≤ k → k < tables → space ∷ spell_published (operand_of k) ≡ spaced (spell_published (operand_of k))
spaced_there k h g =
    sym (spaced_some (spell_published (operand_of k)) (published-filled (ltb 0 k) (operand_of k) (operand_back k (omega arith)) (number_spelled k g) ∙ lt-ltb 0 k (omega arith)))

-- ---- targets

goes : (i t : ℕ) → goes_to i (target_of t) ≡ eqb t (i + 1)
unfolding target_of
goes i t =
    below 0 t (λ h. rw (ne_eqb t 0 (λ e. omega arith)) (same (omega arith)))
    (λ h. let z : t ≡ 0 = omega arith in rw (z, ne_eqb 0 (i + 1) (λ e. omega arith)))
  where
    same : 0 < t → eqb (t - 1) i ≡ eqb t (i + 1)
    same h = below t (i + 1) (λ l. ne_eqb (t - 1) i (λ e. omega arith) ∙ sym (ne_eqb t (i + 1) (λ e. omega arith)))
        (λ l. below (i + 1) t (λ m. ne_eqb (t - 1) i (λ e. omega arith) ∙ sym (ne_eqb t (i + 1) (λ e. omega arith))) (λ m. eq-eqb (t - 1) i (omega arith) ∙ sym (eq-eqb t (i + 1) (omega arith))))

-- ---- the targets used, a line after the other

or_more : (x y z : Bool) → ((x || y) || z) ≡ (x || (y || z))
or_more true y z = refl
or_more false y z = refl

or_true : (x : Bool) → (x || true) ≡ true
or_true true = refl
or_true false = refl

-- the targets of the lines before i are told
pub record Marking (p : List ℕ) (used : List Bool) (n i : ℕ) : Type 0 where
  pub few : i ≤ n
  pub long : length used ≡ max_accepted + 1
  pub left : (j : ℕ) → j ≤ max_accepted → (get_or used j false || is_target (lines_from p i (n - i)) j) ≡ is_target (lines_from p 0 n) j

pub marking_none : (p : List ℕ) (used : List Bool) (n : ℕ) → length used ≡ max_accepted + 1 → Used [] used → Marking p used n 0
unfolding is_target
marking_none p used n l h = record { few = omega arith; long = l; left = λ j g. rw (h j g) (ap (λ (k : ℕ). is_target (lines_from p 0 k) j) (minus_0 n)) }

module _ (p : List ℕ) (used : List Bool) (n i t : ℕ) (M : Marking p used n i) (h : i < n) (e : t ≡ get_or p (line_width * i + 5) 0) where
  target_step : (j : ℕ) → is_target (lines_from p i (n - i)) j ≡ (eqb t (j + 1) || is_target (lines_from p (i + 1) (n - (i + 1))) j)
  unfolding is_target lines_from
  target_step j = rw (one_less n i h, goes j (get_or p (line_width * i + 5) 0), ← e)

  marked : (new : List Bool) → length new ≡ length used → ((j : ℕ) → j ≤ max_accepted → get_or new j false ≡ (get_or used j false || eqb t (j + 1))) → Marking p new n (i + 1)
  marked new long q =
      record {
        few = omega arith;
        long = long ∙ M.long;
        left = λ j g. ap (λ (x : Bool). x || is_target (lines_from p (i + 1) (n - (i + 1))) j) (q j g)
            ∙ or_more (get_or used j false) (eqb t (j + 1)) (is_target (lines_from p (i + 1) (n - (i + 1))) j)
            ∙ ap (λ (x : Bool). get_or used j false || x) (sym (target_step j)) ∙ M.left j g;
      }

  -- a target is told
  marking_on : (ltb 0 t && leb t (length used)) ≡ true → Marking p (set used (t - 1) true) n (i + 1)
  marking_on q =
      let w = and_both (ltb 0 t) (leb t (length used)) (holds q) in
      let pos : 0 < t = ltb→lt 0 t w.0 in
      let top : t ≤ length used = leb→le t (length used) w.1 in
      marked (set used (t - 1) true) (length-set used (t - 1) true) (λ j g. by j pos top (eqb t (j + 1)) refl)
    where
      by : (j : ℕ) → 0 < t → t ≤ length used → (b : Bool) → eqb t (j + 1) ≡ b → get_or (set used (t - 1) true) j false ≡ (get_or used j false || eqb t (j + 1))
      by j pos top true z =
          let y : j ≡ t - 1 = omega (arith, eqb-true t (j + 1) z) in
          rw (z, or_true (get_or used j false)) (ap (λ (k : ℕ). get_or (set used (t - 1) true) k false) y ∙ get_or-set_same used (t - 1) true false (omega arith))
      by j pos top false z =
          rw (z, or_false (get_or used j false)) (get_or-set_other used (t - 1) j true false (λ y. eqb-false t (j + 1) z (omega arith)))

  -- there is none, or none that an accepted program has
  marking_off : (ltb 0 t && leb t (length used)) ≡ false → Marking p used n (i + 1)
  marking_off q = marked used refl (λ j g. by j g (eqb t (j + 1)) refl)
    where
      by : (j : ℕ) → j ≤ max_accepted → (b : Bool) → eqb t (j + 1) ≡ b → get_or used j false ≡ (get_or used j false || eqb t (j + 1))
      by j g true z =
          let y : t ≡ j + 1 = eqb-true t (j + 1) z in
          let x : (ltb 0 t && leb t (length used)) ≡ true = rw (lt-ltb 0 t (omega arith), le-leb t (length used) (omega (arith, M.long))) in
          absurd (false≢true (sym q ∙ x))
      by j g false z = rw (z, or_false (get_or used j false))

-- none is told yet
pub none_used : (n : ℕ) → Used [] (replicate n false)
unfolding is_target
none_used zero i h = refl
none_used (suc n) zero h = refl
none_used (suc n) (suc i) h = none_used n i (omega arith)

-- a target by its number, or not
pub marking_next : (p : List ℕ) (used : List Bool) (n i t : ℕ) → Marking p used n i → i < n → t ≡ get_or p (line_width * i + 5) 0 → {new : List Bool} → new ≡ marked_by t used → Marking p new n (i + 1)
unfolding marked_by
marking_next p used n i t M h e {new} q = rw q (by (ltb 0 t && leb t (length used)) refl)
  where
    by : (x : Bool) → (ltb 0 t && leb t (length used)) ≡ x → Marking p (cond x (set used (t - 1) true) used) n (i + 1)
    by true z = marking_on p used n i t M h e z
    by false z = marking_off p used n i t M h e z

pub marking_all : (p : List ℕ) (used : List Bool) (n i : ℕ) → Marking p used n i → n ≤ i → Used (lines_from p 0 n) used
unfolding is_target lines_from
marking_all p used n i M h j g =
    let z : n - i ≡ 0 = omega arith in
    sym (or_false (get_or used j false)) ∙ ap (λ (k : ℕ). get_or used j false || is_target (lines_from p i k) j) (sym z) ∙ M.left j g

-- ---- line after line

abbrev pub text_from : List ℕ → ℕ → ℕ → List ℕ
text_from p n i = published_from (lines_from p 0 n) i (lines_from p i (n - i))

abbrev pub whole_text : List ℕ → ℕ → List ℕ
whole_text p n = published_from (lines_from p 0 n) 0 (lines_from p 0 n)

-- a line with its label, where it has one
abbrev pub turn_text : List ℕ → ℕ → ℕ → List ℕ
turn_text p n i = label_line (is_target (lines_from p 0 n) i) i ++ (instruction_text (line_at p i) ++ (newline ∷ []))

lines_next : (p : List ℕ) (n i : ℕ) → i < n → lines_from p i (n - i) ≡ line_at p i ∷ lines_from p (i + 1) (n - (i + 1))
unfolding lines_from
lines_next p n i h = rw (one_less n i h)

lines_end : (p : List ℕ) (n i : ℕ) → n ≤ i → lines_from p i (n - i) ≡ []
unfolding lines_from
lines_end p n i h = let z : n - i ≡ 0 = omega arith in rw z

turn : (q : List Line) (i : ℕ) (l : Line) (ls : List Line)
    → published_from q i (l ∷ ls) ≡ (label_line (is_target q i) i ++ (instruction_text l ++ (newline ∷ []))) ++ published_from q (i + 1) ls
unfolding published_from
turn q i l ls =
    let rest : List ℕ = published_from q (i + 1) ls in
    sym (append_assoc (label_line (is_target q i) i) (instruction_text l ++ (newline ∷ [])) rest ∙ ap (λ (x : List ℕ). label_line (is_target q i) i ++ x) (append_assoc (instruction_text l) (newline ∷ []) rest))

text_next : (p : List ℕ) (n i : ℕ) → i < n → text_from p n i ≡ turn_text p n i ++ text_from p n (i + 1)
text_next p n i h = ap (published_from (lines_from p 0 n) i) (lines_next p n i h) ∙ turn (lines_from p 0 n) i (line_at p i) (lines_from p (i + 1) (n - (i + 1)))

text_end : (p : List ℕ) (n : ℕ) → text_from p n n ≡ label_line (is_target (lines_from p 0 n) n) n
unfolding published_from
text_end p n = ap (published_from (lines_from p 0 n) n) (lines_end p n n (omega arith))

-- i of n lines are printed, up to a place
pub record Printed (p old out : List ℕ) (n at i : ℕ) : Type 0 where
  pub few : i ≤ n
  pub near : at ≤ 61 * i
  pub long : length out ≡ length old
  pub after : at + length (text_from p n i) ≡ length (whole_text p n)
  pub bytes : sets out at (text_from p n i) ≡ sets old 0 (whole_text p n)

pub printed_none : (p old : List ℕ) (n : ℕ) → Printed p old old n 0 0
printed_none p old n =
    let e : text_from p n 0 ≡ whole_text p n = ap (λ (k : ℕ). published_from (lines_from p 0 n) 0 (lines_from p 0 k)) (minus_0 n) in
    record { few = omega arith; near = omega arith; long = refl; after = zero-add _ ∙ ap length e; bytes = ap (sets old 0) e }

module _ (p old out : List ℕ) (n at i : ℕ) (q : Printed p old out n at i) where
  pub printed-next : i < n → {new : List ℕ} {next : ℕ} → Wrote out new at next (turn_text p n i) 61 → length new ≡ length out → Printed p old new n next (i + 1)
  printed-next h {new} {next} w long =
      let rest : List ℕ = text_from p n (i + 1) in
      let all : at + length (turn_text p n i ++ rest) ≡ length (whole_text p n) = ap (λ (t : List ℕ). at + length t) (sym (text_next p n i h)) ∙ q.after in
      record {
        few = omega arith;
        near = omega (arith, q.near, w.near);
        long = long ∙ q.long;
        after = omega (arith, all, w.after, length-append (turn_text p n i) rest);
        bytes = wrote_sets w rest ∙ ap (sets out at) (sym (text_next p n i h)) ∙ q.bytes;
      }

  pub printed_all : n ≤ i → {new : List ℕ} {next : ℕ} → Wrote out new at next (label_line (is_target (lines_from p 0 n) n) n) 8 → Wrote old new 0 next (whole_text p n) (61 * n + 8)
  printed_all h {new} {next} w =
      let z : i ≡ n = omega (arith, q.few) in
      let e : text_from p n i ≡ label_line (is_target (lines_from p 0 n) n) n = ap (text_from p n) z ∙ text_end p n in
      record {
        bytes = w.bytes ∙ ap (sets out at) (sym e) ∙ q.bytes;
        after = omega (arith, w.after, ap length e, q.after);
        near = omega (arith, w.near, q.near);
      }

-- ---- whether it fits

operand_long : (o : Operand) → length (spell_published o) ≤ 13
unfolding spell_published based
operand_long Empty = omega arith
operand_long (Literal n) = omega (arith, decimal_5 n)
operand_long (Register n) = omega (arith, decimal_5 n)
operand_long (Cell n) = omega (arith, decimal_5 n)
operand_long (PublicCell r k) = omega (arith, length-append (decimal r) (comma ∷ decimal k), decimal_5 r, decimal_5 k)
operand_long (SensitiveCell r k) = omega (arith, length-append (decimal r) (comma ∷ decimal (128 + k)), decimal_5 r, decimal_5 (128 + k))
operand_long (TableCell r k) = omega arith

target_long : (t : Target) → length (spell_target_name t) ≤ 6
unfolding spell_target_name line_name
target_long NoTarget = omega arith
target_long (ToLine t) = omega (arith, decimal_5 t)

spaced_long : (s : List ℕ) → length (spaced s) ≤ length s + 1
spaced_long [] = omega arith
spaced_long (b ∷ s) = omega arith

instruction_long : (l : Line) → length (instruction_text l) ≤ 52
unfolding instruction_text
instruction_long l =
    let o : List ℕ = spell_opcode l.opcode in
    let d : List ℕ = spaced (spell_published l.destination) in
    let a : List ℕ = spaced (spell_published l.first) in
    let b : List ℕ = spaced (spell_published l.second) in
    let t : List ℕ = spaced (spell_target_name l.target) in
    omega (
      arith,
      opcode_3 l.opcode,
      length-append o (d ++ (a ++ (b ++ t))),
      length-append d (a ++ (b ++ t)),
      length-append a (b ++ t),
      length-append b t,
      spaced_long (spell_published l.destination),
      operand_long l.destination,
      spaced_long (spell_published l.first),
      operand_long l.first,
      spaced_long (spell_published l.second),
      operand_long l.second,
      spaced_long (spell_target_name l.target),
      target_long l.target,
    )

label_long : (t : Bool) (i : ℕ) → length (label_line t i) ≤ 8
unfolding label_line line_name
label_long true i = omega (arith, length-append (decimal i) (colon ∷ newline ∷ []), decimal_5 i)
label_long false i = omega arith

pub text_long : (q : List Line) (i : ℕ) (ls : List Line) → length (published_from q i ls) ≤ 61 * length ls + 8
unfolding published_from
text_long q i [] = omega (arith, label_long (is_target q i) i)
text_long q i (l ∷ ls) =
    let rest : List ℕ = published_from q (i + 1) ls in
    let label : List ℕ = label_line (is_target q i) i in
    omega (
      arith,
      length-append label (instruction_text l ++ (newline ∷ rest)),
      length-append (instruction_text l) (newline ∷ rest),
      label_long (is_target q i) i,
      instruction_long l,
      text_long q (i + 1) ls,
    )

-- however long the lines are
pub fits_any : (p : List ℕ) (n room : ℕ) → 61 * n + 8 ≤ room → true ≡ leb (length (whole_text p n)) room
fits_any p n room h = sym (le-leb (length (whole_text p n)) room (omega (arith, text_long (lines_from p 0 n) 0 (lines_from p 0 n), lines-length p 0 n)))

pub fits_printed : (p : List ℕ) (n room : ℕ) {old new : List ℕ} {r : ℕ} → Wrote old new 0 r (whole_text p n) (61 * n + 8) → leb r room ≡ leb (length (whole_text p n)) room
fits_printed p n room w = ap (λ (k : ℕ). leb k room) (w.after ∙ zero-add (length (whole_text p n)))

-- ---- the answer

-- printed where there is no room
pub none_set : (i : ℕ) (t : List ℕ) → sets [] i t ≡ []
none_set i [] = refl
none_set i (b ∷ t) = none_set (suc i) t

module _ (p out : List ℕ) where
  pub publish_refused : (a : Result ℕ (Refusal ℕ)) (f : Refusal ℕ) → a ≡ Err f → report a ≡ mark_check p → outcome (refusal f) (out ∷ []) ≡ publish_outcome p out
  unfolding publish_outcome
  publish_refused a f q e = refusal_leaves f (refusal-told q e) (out ∷ []) _

  module _ (n : ℕ) (e : mark_check p ≡ counted n) where
    pub publish_room : leb (length (published (lines p))) (length out) ≡ false → outcome (refused 17 0) (out ∷ []) ≡ publish_outcome p out
    unfolding publish_outcome fitted
    publish_room h = rw (e, lt-ltb (length out) (length (published (lines p))) (leb-false _ _ h))

    pub publish_done : leb (length (published (lines p))) (length out) ≡ true → outcome (counted (length (published (lines p)))) (at_front (published (lines p)) out ∷ []) ≡ publish_outcome p out
    unfolding publish_outcome fitted
    publish_done h = rw (e, le-ltb (length out) (length (published (lines p))) (leb-true _ _ h))

    pub publish_few : line_count p ≤ max_accepted
    publish_few = omega (arith, (accepted_right (lines p) (accepted_source p (n ∷ []) e)).few, length-lines p)
