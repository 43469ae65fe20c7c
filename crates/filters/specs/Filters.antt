-- What the programs `takein` and `sendout` print of the bytes on standard input: the converted text, or the refusal. Assumes nothing.
use Rattle.std.specs.Prelude.{cond, List, [], ◌∷◌, ℕ, ◌+◌, ◌*◌, ◌<◌, ltb, eqb, length, get_or}
use Rattle.model.specs.Limits.{max_accepted}
use Rattle.model.specs.Answers.{Report, done, refused, Outcome, outcome}
use Rattle.model.specs.Text.{fitted}
use Rattle.model.specs.Programs.{refusal_text, or_refusal}
use Rattle.published.specs.Published.{take_in_check, taken_in, send_out_check, sent_out}

-- the most bytes that they read
abbrev pub filter_size : ℕ
filter_size = 65536

-- a longer input is refused with 8 at line 0; then what taking in refuses
unfoldable pub takein_prints : List ℕ → List ℕ
takein_prints input = cond (ltb filter_size (length input)) (refusal_text 8 0) (or_refusal (take_in_check input) (taken_in input))

-- the same of sending out
unfoldable pub sendout_prints : List ℕ → List ℕ
sendout_prints input = cond (ltb filter_size (length input)) (refusal_text 8 0) (or_refusal (send_out_check input) (sent_out input))

-- the most bytes that they print: a line of our form has at most 34 bytes, a published one with its label 61, and the label at the end 8
abbrev pub taken_bytes : ℕ
taken_bytes = 34 * max_accepted

abbrev pub sent_bytes : ℕ
sent_bytes = 61 * max_accepted + 8

-- ---- a conversion that was made, told

-- its numbers are those of an answer: a count below 2^32, a line below 2^16
abbrev pub Narrow : Report → Type 0
Narrow (done values) = get_or values 0 0 < 4294967296
Narrow (refused number line) = line < 65536

-- the count of what was written; 17, where nothing was; else the line of the refusal in the store
unfoldable pub told_text : Report → List ℕ → Outcome
told_text (done values) out = outcome (done values) (out ∷ [])
told_text (refused number line) out = cond (eqb number 17) (outcome (refused number line) (out ∷ [])) (fitted (refusal_text number line) out)
