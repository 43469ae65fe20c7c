-- What is shown of request 08. Assumes nothing.
use Rattle.std.specs.Prelude.{◌≡◌, ℕ, ◌≤◌, length, get_or}
use mathlib.Core.List.{List, flat_map}
use Rattle.model.specs.declared.Line.{Line}
use Rattle.model.specs.Text.{spell_line}
use Rattle.model.specs.Marks.{Accepted}
use Rattle.model.specs.Answers.{Report, done, counted, refused, at_front}
use Rattle.published.specs.Published.{send_out_check, sent_out, take_in_check, taken_in}

-- ---- text that sending out does not refuse is accepted text: the lines of an accepted program, in our line form

pub record AcceptedText (text : List ℕ) (n : ℕ) : Type 0 where
  pub program : List Line
  pub accepted : Accepted program
  pub spelled : flat_map spell_line program ≡ text
  pub count : length program ≡ n

abbrev pub SentAccepted : Type 0
SentAccepted = (text : List ℕ) (n : ℕ) → send_out_check text ≡ counted n → AcceptedText text n

-- ---- accepted text sent out and taken in comes home with the same bytes. (How it is spelled on the way rests on the definitions alone)

-- nothing of what is sent out is refused on the way in, and the same text comes of it
pub record ComesHome (text : List ℕ) (n : ℕ) : Type 0 where
  pub taken : take_in_check (sent_out text) ≡ counted n
  pub same : taken_in (sent_out text) ≡ text

abbrev pub SameBytes : Type 0
SameBytes = (text : List ℕ) (n : ℕ) → send_out_check text ≡ counted n → ComesHome text n

-- ---- what is taken in is accepted text, with as many lines; so, sent out and taken in again, it is the same

abbrev pub TakenAccepted : Type 0
TakenAccepted = (text : List ℕ) (n : ℕ) → take_in_check text ≡ counted n → send_out_check (taken_in text) ≡ counted n

abbrev pub SameAgain : Type 0
SameAgain = (text : List ℕ) (n : ℕ) → take_in_check text ≡ counted n → ComesHome (taken_in text) n

-- ---- the same of the calls of `send_out` and `take_in`

-- the bytes that a call wrote
abbrev pub bytes_of : Report → ℕ
bytes_of (done values) = get_or values 0 0
bytes_of (refused number line) = 0

-- a text sent out, and what was written taken in: where the first is not refused, and the second is lent room for the text, the text stands there
abbrev pub HomeCalls : List ℕ → List ℕ → Report → Report → List ℕ → Type 0
HomeCalls text home sent taken left = (n : ℕ) → sent ≡ counted n → length text ≤ length home → (taken ≡ counted (length text)) × (left ≡ at_front text home)

-- what was taken in, sent out: refused with nothing but 17
abbrev pub AcceptedCalls : Report → Report → Type 0
AcceptedCalls taken sent = (n k l : ℕ) → taken ≡ counted n → sent ≡ refused k l → (k ≡ 17) × (l ≡ 0)
