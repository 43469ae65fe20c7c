-- What the two programs print, by the conversion that was made: how long it is at most, and that it is told rightly. Assumes nothing.
use Prim.Native.Nat.{ℕ, ◌≤◌, ◌<◌}
use mathlib.Core.Bool.{Bool, true, false, cond}
use mathlib.Core.Path.{◌≡◌, refl, sym, ap, ap₂, ◌∙◌}
use mathlib.Core.List.{List, [], ◌∷◌}
use native.Mathlib.Omega.{arith}
use lib.Dec.{ltb}
use lib.ListN.{length}
use borrow.Author.Tests.{ne_eqb, lt-ltb, le-ltb}
use Rattle.model.specs.Answers.{number_of, report, Report, counted, refused, Outcome, outcome, unless_refused, at_front}
use Rattle.model.specs.Text.{fitted}
use Rattle.model.specs.Programs.{refusal_text, or_refusal}
use Rattle.model.proofs.Acceptance.{accepted_right}
use Rattle.model.proofs.CheckAnswers.{CountOrRefusal, counts, refuses, refusal}
use Rattle.printing.proofs.SizeLaws.{spelled_most}
use Rattle.lines.proofs.LeftLaws.{all_fits}
use Rattle.lines.proofs.LineTexts.{refusal_most}
use Rattle.published.specs.Published.{take_in_check, taken_in, take_in_outcome, send_out_check, sent_out, send_out_outcome, published}
use Rattle.std.specs.Prelude.{Result, Ok, Err}
use Rattle.model.specs.declared.Condition.{Condition}
use Rattle.model.specs.declared.Condition.TheVariants.{NoNewline, NotFiveCommas, UnknownMark, UnknownOpcode, WrongFields, WrongOperand, TooManyLines, StoreFull, TooLong, ReservedPlace, WrongDestination, SensitiveArgument, NoMacro, NoBit, TargetAbove, NoRoom, WrongLength, WrongImage, TraceTooShort, SeveralValues, TooManyValues, UnknownLayout, WrongLabel, NoCounterpart, WrongWatch, WrongMap, WrongChoice, TooFewWords}
use Rattle.model.specs.declared.Refusal.{Refusal}
use Rattle.published.proofs.SendLaws.{text_long}
use Rattle.published.proofs.RoundTrip.{sent, sent_out_lem, taken_accepted}
use Rattle.published.proofs.HomeCalls.{send_answers, take_answers}
use Rattle.filters.specs.Filters.{filter_size, takein_prints, sendout_prints, taken_bytes, sent_bytes, Narrow, told_text}
use Rattle.filters.proofs.RefusalLaws.{Within, send_within, Above, take_above}

-- ---- how long

accepted_long : (text : List ℕ) (n : ℕ) → send_out_check text ≡ counted n → length text ≤ taken_bytes
accepted_long text n e =
    let s = sent text n e in
    omega (arith, ap length s.spelled, spelled_most s.lines_are s.right, (accepted_right s.lines_are s.accepted).few)

pub taken_long : (text : List ℕ) (n : ℕ) → take_in_check text ≡ counted n → length (taken_in text) ≤ taken_bytes
taken_long text n e = accepted_long (taken_in text) n (taken_accepted text n e)

pub sent_long : (text : List ℕ) (n : ℕ) → send_out_check text ≡ counted n → length (sent_out text) ≤ sent_bytes
unfolding published
sent_long text n e =
    let s = sent text n e in
    omega (arith, ap length (sent_out_lem text n s), text_long s.lines_are 0 s.lines_are, (accepted_right s.lines_are s.accepted).few)

-- ---- a conversion, told

-- a check that counts, with a text of so many bytes, or refuses with other than 17
data Told (r : Report) (text : List ℕ) (most : ℕ) : Type 0 where
  writes : (n : ℕ) → r ≡ counted n → length text ≤ most → Told r text most
  turns_down : (k l : ℕ) → r ≡ refused k l → (k ≡ 17 → ⊥) → l < 65536 → Told r text most

module _ (text out left : List ℕ) (x : Report) (most : ℕ) (small : most < 4294967296) where
  written-narrow : length text ≤ most → outcome x (left ∷ []) ≡ fitted text out → Narrow x
  unfolding fitted
  written-narrow h e = by (ltb (length out) (length text)) e
    where
      by : (t : Bool) → outcome x (left ∷ []) ≡ cond t (outcome (refused 17 0) (out ∷ [])) (outcome (counted (length text)) (at_front text out ∷ [])) → Narrow x
      by true q = rw (ap (λ (o : Outcome). o.answer) q) (omega arith)
      by false q = rw (ap (λ (o : Outcome). o.answer) q) (omega arith)

  narrow : (r : Report) → Told r text most → outcome x (left ∷ []) ≡ unless_refused r (out ∷ []) (fitted text out) → Narrow x
  narrow r (writes n q h) e = written-narrow h (e ∙ ap (λ (y : Report). unless_refused y (out ∷ []) (fitted text out)) q)
  narrow r (turns_down k l q h g) e = rw (ap (λ (o : Outcome). o.answer) (e ∙ ap (λ (y : Report). unless_refused y (out ∷ []) (fitted text out)) q)) g

  written-told : outcome x (left ∷ []) ≡ fitted text out → told_text x left ≡ fitted text out
  unfolding fitted told_text
  written-told e = by (ltb (length out) (length text)) e
    where
      by : (t : Bool) → outcome x (left ∷ []) ≡ cond t (outcome (refused 17 0) (out ∷ [])) (outcome (counted (length text)) (at_front text out ∷ []))
          → told_text x left ≡ cond t (outcome (refused 17 0) (out ∷ [])) (outcome (counted (length text)) (at_front text out ∷ []))
      by true q = ap₂ told_text (ap (λ (o : Outcome). o.answer) q) (only (ap (λ (o : Outcome). o.stores) q))
        where
          only : {a b : List ℕ} → ◌≡◌ {A = List (List ℕ)} (a ∷ []) (b ∷ []) → a ≡ b
          only z = cc
      by false q = ap₂ told_text (ap (λ (o : Outcome). o.answer) q) (only (ap (λ (o : Outcome). o.stores) q))
        where
          only : {a b : List ℕ} → ◌≡◌ {A = List (List ℕ)} (a ∷ []) (b ∷ []) → a ≡ b
          only z = cc

  refused_told : (k l : ℕ) → (k ≡ 17 → ⊥) → outcome x (left ∷ []) ≡ outcome (refused k l) (out ∷ []) → told_text x left ≡ fitted (refusal_text k l) out
  unfolding told_text
  refused_told k l h q = ap₂ told_text (ap (λ (o : Outcome). o.answer) q) (only (ap (λ (o : Outcome). o.stores) q)) ∙ rw (ne_eqb k 17 h)
    where
      only : {a b : List ℕ} → ◌≡◌ {A = List (List ℕ)} (a ∷ []) (b ∷ []) → a ≡ b
      only z = cc

  told : (r : Report) → Told r text most → outcome x (left ∷ []) ≡ unless_refused r (out ∷ []) (fitted text out) → told_text x left ≡ fitted (or_refusal r text) out
  told r (writes n q h) e =
      written-told (e ∙ ap (λ (y : Report). unless_refused y (out ∷ []) (fitted text out)) q) ∙ ap (λ (y : Report). fitted (or_refusal y text) out) (sym q)
  told r (turns_down k l q h g) e =
      refused_told k l h (e ∙ ap (λ (y : Report). unless_refused y (out ∷ []) (fitted text out)) q) ∙ ap (λ (y : Report). fitted (or_refusal y text) out) (sym q)

-- ---- both programs

take-told : (input : List ℕ) → length input ≤ filter_size → Told (take_in_check input) (taken_in input) taken_bytes
take-told input h = by (take_answers input) (take_above input 65536 h)
  where
    by : CountOrRefusal (take_in_check input) → Above 65536 (take_in_check input) → Told (take_in_check input) (taken_in input) taken_bytes
    by (counts n e) a = writes n e (taken_long input n e)
    by (refuses k l e) a = let w : Above 65536 (refused k l) = rw e at a in turns_down k l e w.0 w.1

send_told : (input : List ℕ) → Told (send_out_check input) (sent_out input) sent_bytes
send_told input = by (send_answers input) (send_within input)
  where
    by : CountOrRefusal (send_out_check input) → Within 16 65536 (send_out_check input) → Told (send_out_check input) (sent_out input) sent_bytes
    by (counts n e) a = writes n e (sent_long input n e)
    by (refuses k l e) a = let w : Within 16 65536 (refused k l) = rw e at a in turns_down k l e (λ z. omega (arith, w.0)) w.1

module _ (input out left : List ℕ) (x : Report) where
  module _ (h : length input ≤ filter_size) (e : outcome x (left ∷ []) ≡ take_in_outcome input out) where
    pub taken-narrow : Narrow x
    unfolding take_in_outcome
    taken-narrow = narrow (taken_in input) out left x taken_bytes (omega arith) (take_in_check input) (take-told input h) e

    pub taken-told : told_text x left ≡ fitted (takein_prints input) out
    unfolding take_in_outcome takein_prints
    taken-told = told (taken_in input) out left x taken_bytes (omega arith) (take_in_check input) (take-told input h) e ∙ sym (rw (le-ltb filter_size (length input) h))

  module _ (h : length input ≤ filter_size) (e : outcome x (left ∷ []) ≡ send_out_outcome input out) where
    pub sent_narrow : Narrow x
    unfolding send_out_outcome
    sent_narrow = narrow (sent_out input) out left x sent_bytes (omega arith) (send_out_check input) (send_told input) e

    pub sent_told : told_text x left ≡ fitted (sendout_prints input) out
    unfolding send_out_outcome sendout_prints
    sent_told = told (sent_out input) out left x sent_bytes (omega arith) (send_out_check input) (send_told input) e ∙ sym (rw (le-ltb filter_size (length input) h))

-- an input that is too long
pub long_taken : (input : List ℕ) → filter_size < length input → refusal_text 8 0 ≡ takein_prints input
unfolding takein_prints
long_taken input h = rw (lt-ltb filter_size (length input) h)

pub long_sent : (input : List ℕ) → filter_size < length input → refusal_text 8 0 ≡ sendout_prints input
unfolding sendout_prints
long_sent input h = rw (lt-ltb filter_size (length input) h)

-- ---- the programs' stores always have room

most : (long : Bool) (r : Report) (text : List ℕ) (top : ℕ) → 20 ≤ top → ((n : ℕ) → r ≡ counted n → length text ≤ top) → CountOrRefusal r
    → length (cond long (refusal_text 8 0) (or_refusal r text)) ≤ top
most true r text top h g c = omega (arith, refusal_most 8 0)
most false r text top h g (counts n e) = rw e (g n e)
most false r text top h g (refuses k l e) = rw e (omega (arith, refusal_most k l))

pub taken_prints_all : (input out : List ℕ) → taken_bytes ≤ length out → fitted (takein_prints input) out ≡ outcome (counted (length (takein_prints input))) (at_front (takein_prints input) out ∷ [])
unfolding takein_prints
taken_prints_all input out h =
    sym (all_fits (takein_prints input) out (omega (arith, most (ltb filter_size (length input)) (take_in_check input) (taken_in input) taken_bytes (omega arith) (taken_long input) (take_answers input))))

pub sent_prints_all : (input out : List ℕ) → sent_bytes ≤ length out → fitted (sendout_prints input) out ≡ outcome (counted (length (sendout_prints input))) (at_front (sendout_prints input) out ∷ [])
unfolding sendout_prints
sent_prints_all input out h =
    sym (all_fits (sendout_prints input) out (omega (arith, most (ltb filter_size (length input)) (send_out_check input) (sent_out input) sent_bytes (omega arith) (sent_long input) (send_answers input))))

-- ---- the answers of a conversion, told by the code

module _ (a : Result ℕ (Refusal ℕ)) (n : ℕ) (e : a ≡ Ok n) where
  pub count-narrow : Narrow (report a) → n < 4294967296
  count-narrow h = rw e at h

  pub tell_count : (out : List ℕ) → outcome (counted n) (out ∷ []) ≡ told_text (report a) out
  unfolding told_text
  tell_count out = rw e

-- only no room is 17
room_17 : (c : Condition) → number_of c ≡ 17 → c ≡ NoRoom
room_17 NoNewline q = absurd (omega arith)
room_17 NotFiveCommas q = absurd (omega arith)
room_17 UnknownMark q = absurd (omega arith)
room_17 UnknownOpcode q = absurd (omega arith)
room_17 WrongFields q = absurd (omega arith)
room_17 WrongOperand q = absurd (omega arith)
room_17 TooManyLines q = absurd (omega arith)
room_17 StoreFull q = absurd (omega arith)
room_17 TooLong q = absurd (omega arith)
room_17 ReservedPlace q = absurd (omega arith)
room_17 WrongDestination q = absurd (omega arith)
room_17 SensitiveArgument q = absurd (omega arith)
room_17 NoMacro q = absurd (omega arith)
room_17 NoBit q = absurd (omega arith)
room_17 TargetAbove q = absurd (omega arith)
room_17 NoRoom q = refl
room_17 WrongLength q = absurd (omega arith)
room_17 WrongImage q = absurd (omega arith)
room_17 TraceTooShort q = absurd (omega arith)
room_17 SeveralValues q = absurd (omega arith)
room_17 TooManyValues q = absurd (omega arith)
room_17 UnknownLayout q = absurd (omega arith)
room_17 WrongLabel q = absurd (omega arith)
room_17 NoCounterpart q = absurd (omega arith)
room_17 WrongWatch q = absurd (omega arith)
room_17 WrongMap q = absurd (omega arith)
room_17 WrongChoice q = absurd (omega arith)
room_17 TooFewWords q = absurd (omega arith)

module _ (a : Result ℕ (Refusal ℕ)) (f : Refusal ℕ) (e : a ≡ Err f) where
  pub line_narrow : Narrow (report a) → f.line < 65536
  line_narrow h = rw e at h

  pub tell_room : (out : List ℕ) → f.condition ≡ NoRoom → outcome (refusal f) (out ∷ []) ≡ told_text (report a) out
  unfolding told_text
  tell_room out q = rw (e, q)

  pub tell_line : (out : List ℕ) → (f.condition ≡ NoRoom → ⊥) → fitted (refusal_text (number_of f.condition) f.line) out ≡ told_text (report a) out
  unfolding told_text
  tell_line out q = rw (e, ne_eqb (number_of f.condition) 17 (λ z. q (room_17 f.condition z)))
