-- 'The two programs': what they print of the bytes on standard input.
-- Assumes nothing.
use Rattle.std.specs.Prelude.{cond, ℕ, ltb, length, replicate}
use mathlib.Core.List.{List, [], ◌∷◌, ◌++◌, flat_map}
use Rattle.model.specs.declared.Line.{Line}
use Rattle.model.specs.Limits.{state_size, max_lines}
use Rattle.model.specs.Answers.{Report, done, refused}
use Rattle.model.specs.Stored.{lines}
use Rattle.model.specs.Text.{newline, comma, decimal, spell_line, reading}
use Rattle.model.specs.Run.{Ran, run_on, run}
use Rattle.model.specs.Layouts.{neighbours}
use Rattle.model.specs.Images.{image}
use Rattle.model.specs.Expansion.{expand}
use Rattle.model.specs.Marks.{mark_check}

-- the most bytes that they read, and the budget of the second
abbrev pub input_size : ℕ
input_size = 4096

abbrev pub trace_budget : ℕ
trace_budget = 1000

-- numbers parted by commas, ended by a newline
unfoldable pub numbers_text : List ℕ → List ℕ
unfolding decimal
numbers_text [] = newline ∷ []
numbers_text (n ∷ []) = decimal n ++ (newline ∷ [])
numbers_text (n ∷ m ∷ ns) = decimal n ++ (comma ∷ numbers_text (m ∷ ns))

-- `refused,number,line`
unfoldable pub refusal_text : ℕ → ℕ → List ℕ
unfolding numbers_text
refusal_text number line = 114 ∷ 101 ∷ 102 ∷ 117 ∷ 115 ∷ 101 ∷ 100 ∷ comma ∷ numbers_text (number ∷ line ∷ [])

-- `spent,steps` where the run stands below the line count, else `halted,steps`
unfoldable pub ending_text : List Line → Ran → List ℕ
unfolding numbers_text
ending_text p x =
    cond (ltb x.at (length p))
    (115 ∷ 112 ∷ 101 ∷ 110 ∷ 116 ∷ comma ∷ numbers_text (length x.rows ∷ []))
    (104 ∷ 97 ∷ 108 ∷ 116 ∷ 101 ∷ 100 ∷ comma ∷ numbers_text (length x.rows ∷ []))

-- a trace: its rows, then the ending and the steps
unfoldable pub trace_text : List Line → Ran → List ℕ
unfolding numbers_text ending_text flat_map
trace_text p x = flat_map numbers_text x.rows ++ ending_text p x

-- a text where nothing was refused, else the refusal
abbrev pub or_refusal : Report → List ℕ → List ℕ
or_refusal (done values) text = text
or_refusal (refused number line) text = refusal_text number line

-- what is printed of the program that the input is: a longer input is refused with 8 at line 0; then what reading refuses, then the
-- mark check
unfoldable pub printed : (List Line → List ℕ) → List ℕ → List ℕ
unfolding reading mark_check refusal_text
printed text input =
    let r = reading max_lines 0 max_lines input in
    cond (ltb input_size (length input)) (refusal_text 8 0)
    (or_refusal r.answer
    (or_refusal (mark_check r.stored)
    (text (lines r.stored))))

-- the first program prints the expansion
unfoldable pub expand_prints : List ℕ → List ℕ
unfolding printed expand spell_line flat_map
expand_prints input = printed (λ p. flat_map spell_line (expand neighbours p)) input

-- the second runs that expansion from the image of the all-zero state, and prints the trace
unfoldable pub trace_prints : List ℕ → List ℕ
unfolding printed expand run_on image trace_text
trace_prints input = printed (λ p. trace_text (expand neighbours p) (run (expand neighbours p) trace_budget 0 (image neighbours (replicate state_size 0)))) input
