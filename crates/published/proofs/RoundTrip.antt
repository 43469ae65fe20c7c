-- Accepted text sent out and taken in comes home with the same bytes, and what is taken in is accepted text. Assumes nothing.
use Prim.Native.Nat.{ℕ, ◌+◌, ◌≤◌}
use mathlib.Core.Path.{◌≡◌, refl, sym, ap, ap₂, subst, ◌∙◌}
use mathlib.Core.List.{List, [], ◌∷◌, flat_map}
use native.Mathlib.Omega.{arith}
use lib.ListN.{length}
use borrow.Author.Tests.{le-ltb}
use Rattle.model.specs.declared.Line.{Line}
use Rattle.model.specs.Limits.{max_accepted, max_lines}
use Rattle.model.specs.Answers.{Report, counted, and_then}
use Rattle.model.specs.Lines.{AllCorrect}
use Rattle.model.specs.Stored.{codes, lines}
use Rattle.model.specs.Text.{spell_line, Reading, text_of}
use Rattle.model.specs.Marks.{first_bad, marks_of, mark_check, Accepted}
use Rattle.model.proofs.StoredLaws.{never_counted, length-lines, whole_lines, whole_check}
use Rattle.model.proofs.Acceptance.{AllRight, accepted_right}
use Rattle.model.proofs.CheckAnswers.{CountOrRefusal, counts, refuses, reading_answers}
use Rattle.model.proofs.ExpansionLaws.{mark_checked_lem}
use Rattle.model.proofs.RoundTrip.{reads-back, reads_lines}
use Rattle.published.specs.Published.{text_lines, Seen, none_seen, seen_from, first_fault, stored_lines, published, read_text, send_out_check, sent_out, take_in_check, taken_in}
use Rattle.published.specs.Claims.{SentAccepted, SameBytes, TakenAccepted, SameAgain}
use Rattle.published.proofs.SeenLaws.{low-seen, few-lines, fault-count}
use Rattle.published.proofs.ProgramLaws.{all, published-seen, published-right, published-stored}
use Rattle.published.proofs.TakenLines.{Program, full-lines, lines-taken}

-- ---- a text in our line form that is not refused: the lines that it spells, and that they are accepted

pub record Sent (text : List ℕ) (n : ℕ) : Type 0 where
  pub lines_are : List Line
  pub stored : (read_text text).stored ≡ flat_map codes lines_are
  pub right : AllCorrect lines_are
  pub spelled : flat_map spell_line lines_are ≡ text
  pub accepted : Accepted lines_are
  pub count : n ≡ length lines_are

sent_lines : (text : List ℕ) (n k : ℕ) → (read_text text).answer ≡ counted k → mark_check (read_text text).stored ≡ counted n → Sent text n
unfolding read_text
sent_lines text n k a e =
    let r = reads-back max_lines 0 max_lines text k (read_text text).stored (omega arith) (ap (λ (x : Report). record { answer = x; stored = (read_text text).stored }) a) in
    let ls : List Line = r.lines_are in
    let same : lines (read_text text).stored ≡ ls = ap lines r.stored_is ∙ whole_lines ls r.right in
    let c = mark_checked_lem (read_text text).stored n e in
    record { lines_are = ls; stored = r.stored_is; right = r.right; spelled = r.text_is; accepted = subst Accepted same c.0; count = c.1 ∙ sym (length-lines (read_text text).stored) ∙ ap length same }

pub sent : (text : List ℕ) (n : ℕ) → send_out_check text ≡ counted n → Sent text n
unfolding send_out_check read_text
sent text n e = go (reading_answers max_lines 0 max_lines text)
  where
    go : CountOrRefusal (read_text text).answer → Sent text n
    go (counts k a) = sent_lines text n k a (ap (λ (r : Report). and_then r (mark_check (read_text text).stored)) (sym a) ∙ e)
    go (refuses j i a) = absurd (never_counted (ap (λ (r : Report). and_then r (mark_check (read_text text).stored)) (sym a) ∙ e))

pub sent_accepted : SentAccepted
sent_accepted text n e = let s = sent text n e in record { program = s.lines_are; accepted = s.accepted; spelled = s.spelled; count = sym s.count }

-- ---- ACCEPTED TEXT SENT OUT AND TAKEN IN COMES HOME WITH THE SAME BYTES

module _ (p : List Line) (A : Accepted p) where
  seen_home : seen_from none_seen (text_lines (published p)) ≡ all p A
  seen_home = published-seen p (accepted_right p A).few

  home_check : take_in_check (published p) ≡ counted (length p)
  unfolding take_in_check
  home_check = ap (λ (s : Seen). first_fault s 0 none_seen (text_lines (published p))) seen_home ∙ published-right p A

  home_text : AllCorrect p → taken_in (published p) ≡ flat_map spell_line p
  unfolding taken_in text_of
  home_text h = ap (λ (s : Seen). text_of (stored_lines s (text_lines (published p)))) seen_home ∙ ap text_of (published-stored p A) ∙ ap (flat_map spell_line) (whole_lines p h)

pub sent_out_lem : (text : List ℕ) (n : ℕ) (s : Sent text n) → sent_out text ≡ published s.lines_are
unfolding sent_out
sent_out_lem text n s = ap (λ (q : List ℕ). published (lines q)) s.stored ∙ ap published (whole_lines s.lines_are s.right)

pub same_bytes_lem : SameBytes
same_bytes_lem text n e =
    let s = sent text n e in
    let ls : List Line = s.lines_are in
    record {
      taken = ap take_in_check (sent_out_lem text n s) ∙ home_check ls s.accepted ∙ ap counted (sym s.count);
      same = ap taken_in (sent_out_lem text n s) ∙ home_text ls s.accepted s.right ∙ s.spelled;
    }

-- ---- WHAT IS TAKEN IN IS ACCEPTED TEXT

pub all_correct : (n : ℕ) (p : List Line) → AllRight n p → AllCorrect p
unfolding AllRight
all_correct n [] h = tt
all_correct n (l ∷ p) h = (h.0, all_correct n p h.2)

first-right : (n i : ℕ) (p : List Line) → AllRight n p → first_bad n i p ≡ counted n
unfolding AllRight first_bad
first-right n i [] h = refl
first-right n i (l ∷ p) h = rw h.1 (first-right n (i + 1) p h.2)

marks_pass : (p : List Line) → length p ≤ max_accepted → AllRight (length p) p → marks_of p ≡ counted (length p)
unfolding marks_of
marks_pass p few h = rw (le-ltb max_accepted (length p) few) (first-right (length p) 0 p h)

module _ (p : List Line) (few : length p ≤ max_accepted) (h : AllRight (length p) p) where
  right : AllCorrect p
  right = all_correct (length p) p h

  read_again : read_text (flat_map spell_line p) ≡ record { answer = counted (length p); stored = flat_map codes p }
  unfolding read_text
  read_again =
      let z : 0 + length p ≡ length p = omega arith in
      reads_lines p right max_lines 0 max_lines (omega arith) (omega arith) ∙ ap (λ (k : ℕ). record { answer = counted k; stored = flat_map codes p }) z

  marks_again : mark_check (flat_map codes p) ≡ counted (length p)
  unfolding mark_check
  marks_again = ap₂ and_then (whole_check p right (omega arith)) (ap marks_of (whole_lines p right) ∙ marks_pass p few h)

  pub text_accepted : send_out_check (flat_map spell_line p) ≡ counted (length p)
  unfolding send_out_check
  text_accepted = ap (λ (r : Reading). and_then r.answer (mark_check r.stored)) read_again ∙ marks_again

-- the lines that are taken in
pub taken-lines : (text : List ℕ) (n : ℕ) → take_in_check text ≡ counted n → Program (seen_from none_seen (text_lines text)) 0 n (text_lines text)
unfolding take_in_check
taken-lines text n e =
    let ls = text_lines text in
    let whole : Seen = seen_from none_seen ls in
    let count : whole.count ≡ n = fault-count whole 0 none_seen ls n e in
    let few : n ≤ max_accepted = few-lines whole 0 none_seen ls n e (omega arith) in
    lines-taken whole (low-seen none_seen ls tt) (omega arith) 0 none_seen ls n (full-lines text) e

counted_all : (text : List ℕ) (n : ℕ) → take_in_check text ≡ counted n → (seen_from none_seen (text_lines text)).count ≡ n
unfolding take_in_check
counted_all text n e = fault-count (seen_from none_seen (text_lines text)) 0 none_seen (text_lines text) n e

pub few-taken : (text : List ℕ) (n : ℕ) → take_in_check text ≡ counted n → n ≤ max_accepted
unfolding take_in_check
few-taken text n e = few-lines (seen_from none_seen (text_lines text)) 0 none_seen (text_lines text) n e (omega arith)

pub taken_accepted : TakenAccepted
unfolding taken_in text_of
taken_accepted text n e =
    let t = taken-lines text n e in
    let p : List Line = t.lines_are in
    let k : length p ≡ n = omega (arith, t.count) in
    let h : AllRight (length p) p = subst (λ (j : ℕ). AllRight j p) (counted_all text n e ∙ sym k) t.right in
    let few : length p ≤ max_accepted = omega (arith, few-taken text n e) in
    let same : taken_in text ≡ flat_map spell_line p = ap text_of t.is ∙ ap (flat_map spell_line) (whole_lines p (all_correct (length p) p h)) in
    ap send_out_check same ∙ text_accepted p few h ∙ ap counted k

pub same_again : SameAgain
same_again text n e = same_bytes_lem (taken_in text) n (taken_accepted text n e)
