-- What the code's answer for a line means, in the model's terms.
-- Assumes nothing.
use Rattle.std.specs.Prelude.{cond, List, [], ◌∷◌, ℕ, ◌*◌, ◌/◌, ltb, length}
use Rattle.std.proofs.lemmas.List.Edits.{sets}
use Rattle.std.specs.Prelude.{Result, Ok, Err}
use Rattle.model.specs.declared.Condition.{Condition}
use Rattle.model.specs.Answers.{number_of}
use Rattle.model.specs.Limits.{line_width}
use Rattle.model.specs.Stored as stored
use Rattle.text.specs.declared.Stored.{Stored}

-- the six numbers of a line, as the store has them
abbrev pub numbers_of : Stored → List ℕ
numbers_of l = l.mark ∷ l.opcode ∷ l.destination ∷ l.first ∷ l.second ∷ l.target ∷ []

abbrev pub meaning : Result Stored Condition → stored.Parsed
meaning (Ok l) = stored.numbers (numbers_of l)
meaning (Err k) = stored.wrong (number_of k)

-- the numbers of line n put into a store, where it has room for the line
unfoldable pub kept : List ℕ → ℕ → List ℕ → List ℕ
kept store n line = cond (ltb n (length store / line_width)) (sets store (line_width * n) line) store
