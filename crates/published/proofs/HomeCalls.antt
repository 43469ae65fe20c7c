-- The round trip, of the calls: what a call that is not refused wrote stands at the front of what was lent, so that the claims about texts are
-- claims about calls. Assumes nothing.
use Prim.Native.Nat.{ℕ, ◌+◌, ◌≤◌}
use mathlib.Core.Bool.{Bool, true, false, cond}
use mathlib.Core.Path.{◌≡◌, refl, sym, ap, ◌∙◌}
use mathlib.Core.List.{List, [], ◌∷◌}
use native.Mathlib.Omega.{arith}
use lib.Dec.{ltb, eqb}
use lib.ListN.{length, take, drop, length-append}
use lib.Seq.{take_at}
use borrow.Author.Tests.{ltb-false, le-ltb}
use Rattle.model.specs.Answers.{Report, done, counted, refused, Outcome, outcome, unless_refused, at_front}
use Rattle.model.specs.Text.{fitted}
use Rattle.model.proofs.StoredLaws.{counted_count, never_counted}
use Rattle.model.proofs.CheckAnswers.{CountOrRefusal, counts, refuses, either, then_answers, mark_answers}
use Rattle.model.proofs.OutcomeLaws.{never_done}
use Rattle.published.specs.Published.{text_lines, Seen, none_seen, after, seen_from, TextLine, line_fault, first_fault, read_text, send_out_check, sent_out, send_out_outcome, take_in_check, taken_in, take_in_outcome}
use Rattle.published.specs.Claims.{bytes_of, HomeCalls, AcceptedCalls}
use Rattle.published.proofs.SeenLaws.{fault-cons, fault-nil}
use Rattle.published.proofs.RoundTrip.{same_bytes_lem, taken_accepted}

-- ---- a call that checks, and then writes a text where there is room

-- what one that is not refused says
pub record Wrote (check : Report) (text out : List ℕ) (n : ℕ) (left : List ℕ) : Type 0 where
  pub values : List ℕ
  pub passed : check ≡ done values
  pub count : n ≡ length text
  pub fits : length text ≤ length out
  pub front : take n left ≡ text
  pub whole : left ≡ at_front text out

only : {x y : List ℕ} → ◌≡◌ {A = List (List ℕ)} (x ∷ []) (y ∷ []) → x ≡ y
only e = cc

module _ (text out : List ℕ) (n : ℕ) (left : List ℕ) where
  written : (vs : List ℕ) (r : Report) → r ≡ done vs → outcome (counted n) (left ∷ []) ≡ fitted text out → Wrote r text out n left
  unfolding fitted
  written vs r p e = by (ltb (length out) (length text)) refl e
    where
      by : (t : Bool) → ltb (length out) (length text) ≡ t
          → outcome (counted n) (left ∷ []) ≡ cond t (outcome (refused 17 0) (out ∷ [])) (outcome (counted (length text)) (at_front text out ∷ [])) → Wrote r text out n left
      by true q e = absurd (never_counted (sym (ap (λ (o : Outcome). o.answer) e)))
      by false q e =
          let k : n ≡ length text = counted_count (ap (λ (o : Outcome). o.answer) e) in
          let w : left ≡ at_front text out = only (ap (λ (o : Outcome). o.stores) e) in
          record { values = vs; passed = p; count = k; fits = ltb-false _ _ q; front = ap (take n) w ∙ take_at text (drop (length text) out) n (sym k); whole = w }

  pub wrote : (r : Report) → outcome (counted n) (left ∷ []) ≡ unless_refused r (out ∷ []) (fitted text out) → Wrote r text out n left
  wrote (done vs) e = written vs (done vs) refl e
  wrote (refused k l) e = absurd (never_counted (sym (ap (λ (o : Outcome). o.answer) e)))

-- ---- both checks count or refuse

pub send_answers : (text : List ℕ) → CountOrRefusal (send_out_check text)
unfolding send_out_check
send_answers text = then_answers (read_text text).answer _ (mark_answers (read_text text).stored)

fault_answers : (all : Seen) (i : ℕ) (s : Seen) (ls : List TextLine) → CountOrRefusal (first_fault all i s ls)
fault_answers all i s [] = counts s.count (fault-nil all i s)
fault_answers all i s (l ∷ ls) = by (fault_answers all (i + 1) (after s l) ls)
  where
    by : CountOrRefusal (first_fault all (i + 1) (after s l) ls) → CountOrRefusal (first_fault all i s (l ∷ ls))
    by c = rw (fault-cons all i s l ls) (either (eqb (line_fault all s l) 0) _ _ c (refuses (line_fault all s l) i refl))

pub take_answers : (text : List ℕ) → CountOrRefusal (take_in_check text)
unfolding take_in_check
take_answers text = fault_answers (seen_from none_seen (text_lines text)) 0 none_seen (text_lines text)

record Counted (r : Report) : Type 0 where
  number : ℕ
  is : r ≡ counted number

counted_done : {r : Report} {vs : List ℕ} → CountOrRefusal r → r ≡ done vs → Counted r
counted_done (counts n e) q = record { number = n; is = e }
counted_done (refuses k l e) q = absurd (never_done (sym e ∙ q))

-- ---- what was written is a part of what was lent

module _ (text out left : List ℕ) (x : Report) where
  fitted_bytes : outcome x (left ∷ []) ≡ fitted text out → bytes_of x ≤ length left
  unfolding fitted
  fitted_bytes e = by (ltb (length out) (length text)) refl e
    where
      by : (t : Bool) → ltb (length out) (length text) ≡ t
          → outcome x (left ∷ []) ≡ cond t (outcome (refused 17 0) (out ∷ [])) (outcome (counted (length text)) (at_front text out ∷ [])) → bytes_of x ≤ length left
      by true q e = rw (ap (λ (o : Outcome). o.answer) e) (omega arith)
      by false q e =
          rw (ap (λ (o : Outcome). o.answer) e, only (ap (λ (o : Outcome). o.stores) e)) (omega (arith, length-append text (drop (length text) out)))

  pub bytes_fit : (r : Report) → outcome x (left ∷ []) ≡ unless_refused r (out ∷ []) (fitted text out) → bytes_of x ≤ length left
  bytes_fit (done vs) e = fitted_bytes e
  bytes_fit (refused k l) e = rw (ap (λ (o : Outcome). o.answer) e) (omega arith)

pub sent_bytes_lem : (text out left : List ℕ) (x : Report) → outcome x (left ∷ []) ≡ send_out_outcome text out → bytes_of x ≤ length left
unfolding send_out_outcome
sent_bytes_lem text out left x e = bytes_fit (sent_out text) out left x (send_out_check text) e

pub taken_bytes_lem : (text out left : List ℕ) (x : Report) → outcome x (left ∷ []) ≡ take_in_outcome text out → bytes_of x ≤ length left
unfolding take_in_outcome
taken_bytes_lem text out left x e = bytes_fit (taken_in text) out left x (take_in_check text) e

-- ---- a text comes home

sent_wrote : (text out left : List ℕ) (n : ℕ) → outcome (counted n) (left ∷ []) ≡ send_out_outcome text out → Wrote (send_out_check text) (sent_out text) out n left
unfolding send_out_outcome
sent_wrote text out left n e = wrote (sent_out text) out n left (send_out_check text) e

taken_wrote : (text out left : List ℕ) (n : ℕ) → outcome (counted n) (left ∷ []) ≡ take_in_outcome text out → Wrote (take_in_check text) (taken_in text) out n left
unfolding take_in_outcome
taken_wrote text out left n e = wrote (taken_in text) out n left (take_in_check text) e

home_outcome : (text home : List ℕ) (k : ℕ) → send_out_check text ≡ counted k → length text ≤ length home → take_in_outcome (sent_out text) home ≡ outcome (counted (length text)) (at_front text home ∷ [])
unfolding take_in_outcome fitted
home_outcome text home k e h =
    let w = same_bytes_lem text k e in
    rw (w.taken, w.same, le-ltb (length home) (length text) h)

pub home_claim : (text out left : List ℕ) (sent : Report) (home after : List ℕ) (taken : Report)
    → outcome sent (left ∷ []) ≡ send_out_outcome text out → outcome taken (after ∷ []) ≡ take_in_outcome (take (bytes_of sent) left) home → HomeCalls text home sent taken after
home_claim text out left sent home after taken e f n q h =
    let w = sent_wrote text out left n (ap (λ (x : Report). outcome x (left ∷ [])) (sym q) ∙ e) in
    let c = counted_done (send_answers text) w.passed in
    let g : outcome taken (after ∷ []) ≡ outcome (counted (length text)) (at_front text home ∷ []) =
    f ∙ ap (λ (x : Report). take_in_outcome (take (bytes_of x) left) home) q ∙ ap (λ (t : List ℕ). take_in_outcome t home) w.front ∙ home_outcome text home c.number c.is h in
    (ap (λ (o : Outcome). o.answer) g, only (ap (λ (o : Outcome). o.stores) g))

-- ---- what was taken in is accepted

only_room : (text out left : List ℕ) (j k l : ℕ) → send_out_check text ≡ counted j → outcome (refused k l) (left ∷ []) ≡ send_out_outcome text out → (k ≡ 17) × (l ≡ 0)
unfolding send_out_outcome fitted
only_room text out left j k l e f = by (ltb (length out) (length (sent_out text))) (rw e at f)
  where
    same : {a b c d : ℕ} → refused a b ≡ refused c d → (a ≡ c) × (b ≡ d)
    same q = (cc, cc)

    by : (t : Bool) → outcome (refused k l) (left ∷ []) ≡ cond t (outcome (refused 17 0) (out ∷ [])) (outcome (counted (length (sent_out text))) (at_front (sent_out text) out ∷ [])) → (k ≡ 17) × (l ≡ 0)
    by true q = same (ap (λ (o : Outcome). o.answer) q)
    by false q = absurd (never_counted (ap (λ (o : Outcome). o.answer) q))

pub accepted_claim : (text out left : List ℕ) (taken : Report) (published after : List ℕ) (sent : Report)
    → outcome taken (left ∷ []) ≡ take_in_outcome text out → outcome sent (after ∷ []) ≡ send_out_outcome (take (bytes_of taken) left) published → AcceptedCalls taken sent
accepted_claim text out left taken published after sent e f n k l q r =
    let w = taken_wrote text out left n (ap (λ (x : Report). outcome x (left ∷ [])) (sym q) ∙ e) in
    let c = counted_done (take_answers text) w.passed in
    let front : take (bytes_of taken) left ≡ taken_in text = ap (λ (x : Report). take (bytes_of x) left) q ∙ w.front in
    only_room (taken_in text) published after c.number k l (taken_accepted text c.number c.is)
    (ap (λ (x : Report). outcome x (after ∷ [])) (sym r) ∙ f ∙ ap (λ (t : List ℕ). send_out_outcome t published) front)
