-- The bounds of document 01, as the requests change them, each under one name.
-- Assumes nothing.
use Rattle.std.specs.Prelude.{ℕ}

-- the bytes of a state: 32 registers, then 512 cells
abbrev pub state_size : ℕ
state_size = 544

-- the numbers of a stored line
abbrev pub line_width : ℕ
line_width = 6

-- the numbers of a trace row
abbrev pub row_width : ℕ
row_width = 9

-- the most lines of a text or a stored program, and the greatest target
abbrev pub max_lines : ℕ
max_lines = 32768

-- the most lines of an accepted program
abbrev pub max_accepted : ℕ
max_accepted = 1024

-- the most lines that one line expands to
abbrev pub longest : ℕ
longest = 18

-- the first bytes of a line among which its newline must be
abbrev pub line_reach : ℕ
line_reach = 41
