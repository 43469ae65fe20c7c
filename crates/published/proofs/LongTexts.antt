-- A text with more lines than an accepted program has, or with a wrong line: read without a store, and what it is refused with. Assumes nothing.
use Prim.Native.Nat.{ℕ, zero, suc, ◌+◌, ◌-◌, ◌*◌, ◌/◌, ◌≤◌, ◌<◌}
use mathlib.Core.Bool.{false}
use mathlib.Core.Path.{◌≡◌, refl, sym, ap, ap₂, ◌∙◌}
use mathlib.Core.List.{List, [], ◌∷◌, flat_map}
use native.Mathlib.Omega.{arith}
use lib.ListN.{length, take, drop}
use lib.Seq.{take_at}
use native.Mathlib.Nat.{zero-add}
use lib.Dec.{eqb}
use borrow.Author.Tests.{eq-eqb, ne_eqb, lt-leb, lt-ltb}
use Rattle.std.specs.Prelude.{Result, Ok, Err}
use Rattle.model.specs.declared.Refusal.{Refusal}
use Rattle.model.specs.declared.Condition.{Condition}
use Rattle.text.specs.declared.Stored.{Stored}
use Rattle.text.specs.Lines.{numbers_of, meaning}
use Rattle.model.specs.declared.Line.{Line}
use Rattle.model.specs.Limits.{line_width, max_accepted, max_lines}
use Rattle.model.specs.Lines.{AllCorrect}
use Rattle.model.specs.Answers.{Report, report, counted, refused, Outcome, outcome, and_then, at_front}
use Rattle.model.specs.Stored.{codes, Parsed, numbers, wrong, lines, program_check}
use Rattle.model.specs.Text.{newline, spell_line, past, front_line, Reading, then_reads, reading, read_outcome}
use Rattle.model.specs.Marks.{marks_of, mark_check}
use Rattle.model.proofs.StoredLaws.{never_counted, codes-length, whole_lines, whole_check}
use Rattle.model.proofs.CheckAnswers.{CountOrRefusal, counts, refuses, reading_answers, refusal, refusal-told}
use Rattle.model.proofs.RoundTrip.{reading-zero, reading_suc, read_outcome_lem, reads-back, reads_lines, written_read}
use Rattle.model.proofs.TestLaws.{below}
use Rattle.printing.proofs.PrintLaws.{one_less}
use Rattle.published.specs.Published.{read_text, send_out_check, sent_out, send_out_outcome}
use Rattle.published.specs.Printing.{Unread, publish_outcome}

-- ---- what is left to read gives the answer

pub record Through (text rest : List ℕ) (n : ℕ) : Type 0 where
  pub few : n ≤ max_lines
  pub answer : (reading (max_lines - n) n max_lines rest).answer ≡ (read_text text).answer

pub through_first : (text : List ℕ) → Through text text 0
unfolding read_text
through_first text = record { few = omega arith; answer = refl }

module _ (text rest : List ℕ) (n : ℕ) (R : Through text rest n) where
  pub through_done : length rest ≡ 0 → counted n ≡ (read_text text).answer
  through_done z = sym (by (max_lines - n)) ∙ R.answer
    where
      by : (m : ℕ) → (reading m n max_lines rest).answer ≡ counted n
      by zero = rw (reading-zero n max_lines rest, eq-eqb (length rest) 0 z)
      by (suc m) = rw (reading_suc m n max_lines rest, eq-eqb (length rest) 0 z)

  module _ (some : 0 < length rest) where
    filled : eqb (length rest) 0 ≡ false
    filled = ne_eqb (length rest) 0 (λ z. omega arith)

    pub through_full : max_lines ≤ n → refused 7 n ≡ (read_text text).answer
    through_full h =
        let z : max_lines - n ≡ 0 = omega arith in
        sym (ap (λ (m : ℕ). (reading m n max_lines rest).answer) z ∙ rw (reading-zero n max_lines rest, filled)) ∙ R.answer

    turn : n < max_lines → reading (max_lines - n) n max_lines rest ≡ then_reads (front_line rest) n (reading (max_lines - (n + 1)) (n + 1) max_lines (past newline rest))
    turn h = rw (one_less max_lines n h, reading_suc (max_lines - (n + 1)) n max_lines rest, filled, lt-leb max_lines n h)

    pub through_stop : n < max_lines → (k : ℕ) → front_line rest ≡ wrong k → refused k n ≡ (read_text text).answer
    through_stop h k e =
        sym (ap (λ (x : Reading). x.answer) (turn h ∙ ap (λ (x : Parsed). then_reads x n (reading (max_lines - (n + 1)) (n + 1) max_lines (past newline rest))) e)) ∙ R.answer

    through_next : n < max_lines → (ns after : List ℕ) → front_line rest ≡ numbers ns → after ≡ past newline rest → Through text after (n + 1)
    through_next h ns after e p =
        let t = turn h ∙ ap (λ (x : Parsed). then_reads x n (reading (max_lines - (n + 1)) (n + 1) max_lines (past newline rest))) e in
        record { few = omega arith; answer = rw p (ap (λ (x : Reading). x.answer) (sym t) ∙ R.answer) }

    -- the same of a line as the code answers it
    pub through_read : n < max_lines → (r : Result Stored Condition) → ((d : Condition) → r ≡ Err d → ⊥) → (after : List ℕ) → front_line rest ≡ meaning r → after ≡ past newline rest → Through text after (n + 1)
    through_read h (Ok l) right after e p = through_next h (numbers_of l) after e p
    through_read h (Err d) right after e p = absurd (right d refl)

-- ---- a text that is read whole, and not into a store of 1,024 lines, has more lines

-- correct lines are read into a store that has room for them
fits_read : (ls : List Line) (text : List ℕ) → AllCorrect ls → flat_map spell_line ls ≡ text → length ls ≤ max_accepted → (reading max_lines 0 max_accepted text).answer ≡ counted (0 + length ls)
fits_read ls text h e few =
    ap (λ (t : List ℕ). (reading max_lines 0 max_accepted t).answer) (sym e) ∙ ap (λ (r : Reading). r.answer) (reads_lines ls h max_lines 0 max_accepted (omega arith) (omega arith))

many_lines : (text : List ℕ) (k : ℕ) → Unread text → (read_text text).answer ≡ counted k → mark_check (read_text text).stored ≡ refused 9 0
unfolding read_text mark_check marks_of
many_lines text k u a =
    let r = reads-back max_lines 0 max_lines text k (read_text text).stored (omega arith) (ap (λ (x : Report). record { answer = x; stored = (read_text text).stored }) a) in
    let ls : List Line = r.lines_are in
    let more : max_accepted < length ls = below max_accepted (length ls) (λ l. l) (λ l. absurd (u (0 + length ls) (fits_read ls text r.right r.text_is l))) in
    ap₂ and_then (ap program_check r.stored_is ∙ whole_check ls r.right r.few)
    (ap marks_of (ap lines r.stored_is ∙ whole_lines ls r.right) ∙ rw (lt-ltb max_accepted (length ls) more))

module _ (text : List ℕ) (u : Unread text) where
  -- a wrong line goes before 9
  pub refuse_wrong : (k l : ℕ) (x : Report) → (read_text text).answer ≡ refused k l → x ≡ refused k l → x ≡ send_out_check text
  unfolding send_out_check
  refuse_wrong k l x e q = q ∙ ap (λ (r : Report). and_then r (mark_check (read_text text).stored)) (sym e)

  pub refuse_many : (k : ℕ) → (read_text text).answer ≡ counted k → refused 9 0 ≡ send_out_check text
  unfolding send_out_check
  refuse_many k e = sym (ap (λ (r : Report). and_then r (mark_check (read_text text).stored)) e ∙ many_lines text k u e)

pub read_refused : (text : List ℕ) (a : Result ℕ (Refusal ℕ)) (f : Refusal ℕ) → a ≡ Err f → report a ≡ (read_text text).answer → (read_text text).answer ≡ refusal f
read_refused text a f q e = refusal-told q e

-- a text that reading answers without a count is not read whole
room_for : (store : List ℕ) → length store ≡ line_width * max_accepted → length store / line_width ≡ max_accepted
room_for store l = ap (λ (k : ℕ). k / line_width) l

module _ (text store new : List ℕ) (a : Result ℕ (Refusal ℕ)) (l : length store ≡ line_width * max_accepted) (e : outcome (report a) (new ∷ []) ≡ read_outcome text store) where
  read_answer : report a ≡ (reading max_lines 0 max_accepted text).answer
  read_answer = ap (λ (o : Outcome). o.answer) (e ∙ read_outcome_lem text store) ∙ ap (λ (k : ℕ). (reading max_lines 0 k text).answer) (room_for store l)

  pub not_read : (f : Refusal ℕ) → a ≡ Err f → Unread text
  not_read f d n q = never_counted (sym (ap report d) ∙ read_answer ∙ q)

-- it is refused
pub record Turned (r : Report) : Type 0 where
  pub number : ℕ
  pub line : ℕ
  pub is : r ≡ refused number line

pub unread_refused : (text : List ℕ) → Unread text → Turned (send_out_check text)
unfolding read_text
unread_refused text u = by (reading_answers max_lines 0 max_lines text)
  where
    by : CountOrRefusal (read_text text).answer → Turned (send_out_check text)
    by (counts k e) = record { number = 9; line = 0; is = sym (refuse_many text u k e) }
    by (refuses k i e) = record { number = k; line = i; is = sym (refuse_wrong text u k i (refused k i) e refl) }

pub send_refused : (text out : List ℕ) (x : Report) → Unread text → x ≡ send_out_check text → outcome x (out ∷ []) ≡ send_out_outcome text out
unfolding send_out_outcome
send_refused text out x u e = let t = unread_refused text u in rw e (rw t.is)

-- ---- a text that is read into a store of 1,024 lines is read alike with room for every line

module _ (text store new : List ℕ) (a : Result ℕ (Refusal ℕ)) (n : ℕ) (c : a ≡ Ok n) (w : outcome (report a) (new ∷ []) ≡ read_outcome text store) where
  e : outcome (counted n) (new ∷ []) ≡ read_outcome text store
  e = ap (λ (x : Result ℕ (Refusal ℕ)). outcome (report x) (new ∷ [])) (sym c) ∙ w

  pub store_front : line_width * n ≤ length new
  store_front = (written_read text store n new (sym e)).long

  read_alike : read_text text ≡ record { answer = counted n; stored = take (line_width * n) new }
  unfolding read_text
  read_alike =
      let r : Reading = reading max_lines 0 (length store / line_width) text in
      let q : outcome r.answer (at_front r.stored store ∷ []) ≡ outcome (counted n) (new ∷ []) = sym (read_outcome_lem text store) ∙ sym e in
      let a : r ≡ record { answer = counted n; stored = r.stored } = ap (λ (x : Report). record { answer = x; stored = r.stored }) (ap (λ (o : Outcome). o.answer) q) in
      let b = reads-back max_lines 0 (length store / line_width) text n r.stored (omega arith) a in
      let ls : List Line = b.lines_are in
      let k : length ls ≡ n = omega (arith, b.count) in
      let front : take (line_width * n) new ≡ flat_map codes ls =
      ap (take (line_width * n)) (sym (only (ap (λ (o : Outcome). o.stores) q))) ∙ take_at r.stored (drop (length r.stored) store) (line_width * n) (ap length b.stored_is ∙ codes-length ls ∙ ap (λ (j : ℕ). line_width * j) k) ∙ b.stored_is in
      ap (reading max_lines 0 max_lines) (sym b.text_is) ∙ reads_lines ls b.right max_lines 0 max_lines (omega (arith, b.few)) (omega (arith, b.few))
      ∙ ap₂ (λ (j : ℕ) (x : List ℕ). record { answer = counted j; stored = x }) (zero-add (length ls) ∙ k) (sym front)
    where
      only : {x y : List ℕ} → ◌≡◌ {A = List (List ℕ)} (x ∷ []) (y ∷ []) → x ≡ y
      only e = cc

  pub send_done : (out : List ℕ) (o : Outcome) → o ≡ publish_outcome (take (line_width * n) new) out → o ≡ send_out_outcome text out
  unfolding publish_outcome send_out_outcome send_out_check sent_out
  send_done out o p = p ∙ sym (rw read_alike)
