-- What comes of the programs' input before anything is printed: the expansion of the program that it is, or a refusal.
-- Assumes nothing.
use Rattle.std.specs.Prelude.{cond, ℕ, ◌*◌, ltb, length}
use mathlib.Core.List.{List, [], ◌∷◌, flat_map}
use Rattle.model.specs.Layouts.{neighbours}
use Rattle.model.specs.declared.Line.{Line}
use Rattle.model.specs.Limits.{line_width, longest, max_accepted}
use Rattle.model.specs.Answers.{Report, counted, refused, Outcome, outcome, and_then, unless_refused, at_front}
use Rattle.model.specs.Stored.{codes, lines}
use Rattle.model.specs.Marks.{mark_check}
use Rattle.model.specs.Expansion.{expand}
use Rattle.model.specs.Programs.{input_size}
use Rattle.lines.specs.Reading.{read_input}

-- the numbers of the longest expansion
abbrev pub most_numbers : ℕ
most_numbers = line_width * (longest * max_accepted)

-- the lines of the expansion, where nothing is refused
unfoldable pub expansion_of : List ℕ → List Line
unfolding read_input expand
expansion_of input = expand neighbours (lines (read_input input).stored)

-- 8 a longer input, then what reading refuses, then the mark check, else the count of the expansion's lines
unfoldable pub load_answer : List ℕ → Report
unfolding read_input mark_check expansion_of
load_answer input =
    cond (ltb input_size (length input)) (refused 8 0)
    (and_then (read_input input).answer (and_then (mark_check (read_input input).stored) (counted (length (expansion_of input)))))

-- the expansion at the front of a store, or the refusal
unfoldable pub load_outcome : List ℕ → List ℕ → Outcome
unfolding load_answer expansion_of flat_map
load_outcome input store =
    unless_refused (load_answer input) (store ∷ []) (outcome (load_answer input) (at_front (flat_map codes (expansion_of input)) store ∷ []))
