-- What the third program prints: the verdict of the walk on machine text from standard input, in one line.
-- Assumes nothing.
use Rattle.std.specs.Prelude.{◌≡◌, cond, List, [], ◌∷◌, ◌++◌, ℕ, zero, suc, ◌-◌, ◌*◌, ltb, eqb, length, get_or, replicate}
use Rattle.model.specs.Layouts.{neighbours}
use Rattle.model.specs.Limits.{state_size, max_lines}
use Rattle.model.specs.Answers.{Report, done, refused}
use Rattle.model.specs.Places.{kind}
use Rattle.model.specs.Code.{code}
use Rattle.model.specs.Images.{by_kind, fixed}
use Rattle.model.specs.Text.{comma, reading}
use Rattle.model.specs.Programs.{numbers_text, refusal_text, or_refusal}
use Rattle.sets.specs.Walk.{max_values, set_width, verdict_report}

-- the most bytes that it reads, and the budget of the walk
abbrev pub verdict_size : ℕ
verdict_size = 262144

abbrev pub verdict_budget : ℕ
verdict_budget = 65535

-- ---- the sets of all images of bit states whose public places are 0

-- what such an image may hold at place i
unfoldable pub image_values : ℕ → List ℕ
unfolding kind fixed code
image_values i = by_kind (kind i) (fixed neighbours i ∷ []) (0 ∷ []) (code neighbours 1 ∷ code neighbours 0 ∷ [])

-- a set as 17 bytes: its count, its values, and 0 in the rest
abbrev pub set_bytes : List ℕ → List ℕ
set_bytes values = length values ∷ (values ++ replicate (max_values - length values) 0)

-- the sets of n places from place i on
unfoldable pub image_sets_from : ℕ → ℕ → List ℕ
unfolding image_values
image_sets_from i zero = []
image_sets_from i (suc n) = set_bytes (image_values i) ++ image_sets_from (suc i) n

unfoldable pub image_sets : List ℕ
unfolding image_sets_from
image_sets = image_sets_from 0 state_size

-- ---- the line

-- `balanced,steps`, `spent,steps` and `leak,line`
unfoldable pub balanced_text : ℕ → List ℕ
unfolding numbers_text
balanced_text steps = 98 ∷ 97 ∷ 108 ∷ 97 ∷ 110 ∷ 99 ∷ 101 ∷ 100 ∷ comma ∷ numbers_text (steps ∷ [])

unfoldable pub spent_text : ℕ → List ℕ
unfolding numbers_text
spent_text steps = 115 ∷ 112 ∷ 101 ∷ 110 ∷ 116 ∷ comma ∷ numbers_text (steps ∷ [])

unfoldable pub leak_text : ℕ → List ℕ
unfolding numbers_text
leak_text line = 108 ∷ 101 ∷ 97 ∷ 107 ∷ comma ∷ numbers_text (line ∷ [])

-- one of them by the verdict's first value, 0 balanced, 1 spent or 2 a leak, or `refused,number,line`
unfoldable pub verdict_text : Report → List ℕ
unfolding balanced_text spent_text leak_text refusal_text
verdict_text (done values) =
    cond (eqb (get_or values 0 0) 0) (balanced_text (get_or values 2 0))
    (cond (eqb (get_or values 0 0) 1) (spent_text (get_or values 2 0))
    (leak_text (get_or values 1 0)))
verdict_text (refused number line) = refusal_text number line

-- a longer input is refused with 8 at line 0; then what reading refuses; then the verdict
unfoldable pub verdict_prints : List ℕ → List ℕ
unfolding reading refusal_text verdict_report image_sets verdict_text
verdict_prints input =
    let r = reading max_lines 0 max_lines input in
    cond (ltb verdict_size (length input)) (refusal_text 8 0)
    (or_refusal r.answer
    (verdict_text (verdict_report r.stored image_sets verdict_budget)))

-- the most bytes of the line: a word of at most 9 with its comma and one number, or `refused,` and two, each number with what follows it
-- in at most 6
abbrev pub verdict_bytes : ℕ
verdict_bytes = 20

-- neither a leak nor a refusal
pub data NoAlarm (text : List ℕ) : Type 0 where
  balanced : (steps : ℕ) → text ≡ balanced_text steps → NoAlarm text
  spent : (steps : ℕ) → text ≡ spent_text steps → NoAlarm text

-- ---- what the code has written when it has come to place i: the sets before it, and 0 in the rest of the store
unfoldable pub sets_before : ℕ → List ℕ
unfolding image_sets_from
sets_before i = image_sets_from 0 i ++ replicate (set_width * (state_size - i)) 0
