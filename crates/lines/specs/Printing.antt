-- The text of lines of numbers, and of the rows of a trace store.
-- Assumes nothing.
use mathlib.Core.List.{List, [], ◌∷◌, ◌++◌, flat_map}
use Rattle.std.specs.Prelude.{ℕ, zero, suc, ◌/◌, length, take, drop}
use Rattle.model.specs.Limits.{row_width}
use Rattle.model.specs.Programs.{numbers_text}

-- the first n rows of numbers that stand one after the other
unfoldable pub rows_from : ℕ → List ℕ → List (List ℕ)
rows_from zero numbers = []
rows_from (suc n) numbers = take row_width numbers ∷ rows_from n (drop row_width numbers)

-- the text of rows, each a line
unfoldable pub rows_text : ℕ → List ℕ → List ℕ
unfolding rows_from numbers_text flat_map
rows_text n numbers = flat_map numbers_text (rows_from n numbers)

-- rows, then a last line of a word and numbers
unfoldable pub lines_text : List ℕ → List ℕ → List ℕ → List ℕ
unfolding rows_text numbers_text
lines_text rows word last = rows_text (length rows / row_width) rows ++ (word ++ numbers_text last)
