-- The most bytes that the two programs print.
-- Assumes nothing.
use Rattle.std.specs.Prelude.{ℕ, ◌+◌, ◌*◌}
use Rattle.model.specs.Limits.{row_width, max_accepted, longest}
use Rattle.model.specs.Programs.{trace_budget}

-- a line of the expansion has at most 34 bytes
abbrev pub expansion_bytes : ℕ
expansion_bytes = 34 * longest * max_accepted

-- a number of a row has at most five digits, and a comma or the newline follows it; the last line has at most 13 bytes
abbrev pub row_bytes : ℕ
row_bytes = 6 * row_width

abbrev pub trace_bytes : ℕ
trace_bytes = row_bytes * trace_budget + 13
