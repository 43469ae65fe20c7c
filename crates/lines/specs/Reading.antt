-- What the line reader finds at a position of a text, in the model's terms, and a text that is read whole.
-- Assumes nothing.
use Rattle.std.specs.Prelude.{cond, List, ℕ, eqb, length, drop}
use Rattle.std.specs.Prelude.{Option as Step, None, Some, Result}
use Rattle.std.proofs.Math.Option.{Option, none, some}
use Rattle.model.specs.Limits.{max_lines}
use Rattle.model.specs.Stored.{Parsed}
use Rattle.model.specs.Text.{newline, past, front_line, Reading, reading}
use Rattle.model.specs.declared.Condition.{Condition}
use Rattle.text.specs.declared.Stored.{Stored}
use Rattle.text.specs.Lines.{meaning}
use Rattle.lines.specs.declared.reader.Reader.{Reader}
use Rattle.lines.specs.declared.reader.Taken.{Taken}

-- what stands at the front of a text: nothing at its end, else the line
unfoldable pub front_step : List ℕ → Option Parsed
front_step text = cond (eqb (length text) 0) none (some (front_line text))

-- the same, and the text after it
pub record Front : Type 0 where
  pub step : Option Parsed
  pub rest : List ℕ

abbrev pub front_of : List ℕ → Front
front_of text = record { step = front_step text; rest = past newline text }

-- what the code's answers mean
abbrev pub step_meaning : Step (Result Stored Condition) → Option Parsed
step_meaning None = none
step_meaning (Some p) = some (meaning p)

abbrev pub taken_meaning : List ℕ → Taken → Front
taken_meaning text t = record { step = step_meaning t.step; rest = drop t.at text }

-- the text that a reader has left
abbrev pub left : Reader → List ℕ
left r = drop r.at r.text.now

-- the input read, with room for every line
unfoldable pub read_input : List ℕ → Reading
unfolding reading
read_input input = reading max_lines 0 max_lines input
