-- The text of a run, as it is put together from the trace store.
-- Assumes nothing.
use Rattle.std.specs.Prelude.{List, [], ◌∷◌, ℕ, ◌*◌, take, replicate}
use Rattle.model.specs.Layouts.{neighbours}
use Rattle.model.specs.Limits.{state_size, row_width}
use Rattle.model.specs.Stored.{lines}
use Rattle.model.specs.Run.{run_on, run}
use Rattle.model.specs.Images.{image}
use Rattle.model.specs.Programs.{trace_budget, trace_text}
use Rattle.lines.specs.Printing.{lines_text}

-- the trace of a stored program's run from the image of the all-zero state
unfoldable pub run_text : List ℕ → List ℕ
unfolding trace_text run_on image
run_text p = trace_text (lines p) (run (lines p) trace_budget 0 (image neighbours (replicate state_size 0)))

-- the rows of the steps done, then a word and the steps
unfoldable pub ended_text : List ℕ → List ℕ → ℕ → List ℕ
unfolding lines_text
ended_text trace word steps = lines_text (take (row_width * steps) trace) word (steps ∷ [])
