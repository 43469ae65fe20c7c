-- Req 01, what a verdict means, what it is for expansions, and what a step on sets is. Each claim stands alone: what it assumes is
-- written in it.
-- Assumes nothing.
use Rattle.std.specs.Prelude.{◌≡◌, not, ◌⊎◌, ℕ, ◌*◌, ◌≤◌, ◌<◌, T, get_or, length}
use mathlib.Core.List.{List, [], ◌∷◌, flat_map}
use Rattle.model.specs.declared.Line.{Line}
use Rattle.model.specs.declared.Layout.{Layout}
use Rattle.model.specs.Limits.{state_size}
use Rattle.model.specs.Answers.{Report, done, refused}
use Rattle.model.specs.Places.{State, kind}
use Rattle.model.specs.Step.{row, result, bus_after}
use Rattle.model.specs.Run.{Ran, run, answer}
use Rattle.model.specs.Stored.{codes, lines}
use Rattle.model.specs.Layouts.{Known}
use Rattle.model.specs.Code.{code}
use Rattle.model.specs.Expansion.{expand}
use Rattle.model.specs.Marks.{Accepted}
use Rattle.model.specs.Images.{fixed, by_kind}
use Rattle.sets.specs.Walk.{Sets, max_values, set_width, sets_of, sized, values, written, buses, steady, verdict_report}

abbrev pub In : ℕ → List ℕ → Type 0
In x [] = ⊥
In x (y ∷ ys) = (x ≡ y) ⊎ In x ys

-- a state drawn from the sets: each place has a value of its set
pub record Drawn (S : Sets) (s : State) : Type 0 where
  pub long : length s ≡ state_size
  pub each : (i : ℕ) → i < state_size → In (get_or s i 0) (values S i)

-- balanced or spent
abbrev pub Clear : Report → Type 0
Clear (done values) = get_or values 0 0 < 2
Clear (refused number line) = ⊥

-- ---- sound: balanced or spent means equal traces for all runs from those values within the budget, whatever the program

-- two runs have the same trace, and each is answered what the walk reports: halted where that is balanced, spent where it is spent, with
-- its counter and steps
pub record Alike (r : Report) (p : List Line) (x y : Ran) : Type 0 where
  pub traces : x.rows ≡ y.rows
  pub one : answer p x ≡ r
  pub other : answer p y ≡ r

abbrev pub Sound : Type 0
Sound = (p sets : List ℕ) (n : ℕ) → Clear (verdict_report p sets n) → (s u : State) → Drawn (sets_of sets) s → Drawn (sets_of sets) u
    → Alike (verdict_report p sets n) (lines p) (run (lines p) n 0 s) (run (lines p) n 0 u)

-- ---- no false alarm: an expansion of an accepted program is always balanced or spent when the sets hold only images and each public
-- place has one value

-- a set of place i that holds only what images have there, and one value where the place is public
unfoldable pub OnlyImage : Layout → ℕ → List ℕ → Type 0
unfolding kind fixed code
OnlyImage L i xs =
    by_kind (kind i)
    ((x : ℕ) → In x xs → x ≡ fixed L i)
    ((x y : ℕ) → In x xs → In y xs → x ≡ y)
    ((x : ℕ) → In x xs → In x (code L 1 ∷ code L 0 ∷ []))

-- 544 sets of 1 to 16 values that hold only images
pub record Images (L : Layout) (sets : List ℕ) : Type 0 where
  pub long : length sets ≡ set_width * state_size
  pub sizes : T (sized state_size sets)
  pub only : (i : ℕ) → i < state_size → OnlyImage L i (values (sets_of sets) i)

abbrev pub NoFalseAlarm : Type 0
NoFalseAlarm = (L : Layout) → Known L → (p : List Line) → Accepted p → (sets : List ℕ) (n : ℕ) → Images L sets
    → Clear (verdict_report (flat_map codes (expand L p)) sets n)

-- ---- exact steps: the written set is exactly the results of the states drawn from the sets, the bus may hold afterwards exactly what it may
-- hold after one of them, and a step leaks exactly where two of them show different rows

-- each value once
unfoldable pub Once : List ℕ → Type 0
Once [] = Unit {0}
Once (x ∷ xs) = (In x xs → ⊥) × Once xs

-- 544 sets, each with a value, and each value once: the sets of a start that is not refused are so, and a step keeps them so
pub record Full (S : Sets) : Type 0 where
  pub long : length S ≡ state_size
  pub some_in : (i : ℕ) → i < state_size → 0 < length (values S i)
  pub once : (i : ℕ) → i < state_size → Once (values S i)

-- bus lists what the bus may hold before
pub record Exact (S : Sets) (bus : List ℕ) (l : Line) (k : ℕ) : Type 0 where
  pub all_results : (s : State) → Drawn S s → In (result l s) (written S l)
  pub each_once : Once (written S l)
  pub no_others : (x : ℕ) → In x (written S l) → (s : State) × Drawn S s × (x ≡ result l s)
  pub all_buses : (s : State) (b : ℕ) → Drawn S s → In b bus → In (bus_after l s b) (buses S bus l)
  pub each_bus_once : Once (buses S bus l)
  pub no_other_buses : (x : ℕ) → In x (buses S bus l) → (s : State) × (b : ℕ) × Drawn S s × In b bus × (x ≡ bus_after l s b)
  -- the last address is that of one operand, whose base has at most 16 values
  pub buses_fit : ((i : ℕ) → length (values S i) ≤ max_values) → length bus ≤ max_values → length (buses S bus l) ≤ max_values
  pub like_rows : T (steady S bus l k) → (s u : State) (b c : ℕ) → Drawn S s → Drawn S u → In b bus → In c bus → row l k s b ≡ row l k u c
  pub unlike_rows : T (not (steady S bus l k))
      → (s : State) × (u : State) × (b : ℕ) × (c : ℕ) × Drawn S s × Drawn S u × In b bus × In c bus × (row l k s b ≡ row l k u c → ⊥)

abbrev pub ExactSteps : Type 0
ExactSteps = (S : Sets) → Full S → (bus : List ℕ) (l : Line) (k : ℕ) → Exact S bus l k
