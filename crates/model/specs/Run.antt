-- 'One step', the run: from a start counter with a budget of steps, its trace and its answer, and conditions 18 and 20.
-- Assumes nothing.
use Rattle.std.specs.Prelude.{cond, ℕ, zero, suc, ◌*◌, ltb, eqb, length}
use mathlib.Core.List.{List, [], ◌∷◌, flat_map}
use Rattle.std.proofs.Math.Option.{none, some}
use Rattle.std.proofs.Math.ListN.{get_elem?}
use Rattle.model.specs.declared.Line.{Line}
use Rattle.model.specs.Limits.{state_size, row_width}
use Rattle.model.specs.Answers.{Report, halted, spent, refused, Outcome, outcome, unless_refused, at_front}
use Rattle.model.specs.Places.{State}
use Rattle.model.specs.Stored.{lines, program_check}
use Rattle.model.specs.Step.{Row, next, after, bus_after, row}

-- where a run stands, its state, its bus, and the rows of the steps done, in their order
pub record Ran : Type 0 where
  pub at : ℕ
  pub state : State
  pub bus : ℕ
  pub rows : List Row

abbrev pub ran : ℕ → State → ℕ → List Row → Ran
ran k s b rows = record { at = k; state = s; bus = b; rows = rows }

abbrev pub push : Row → Ran → Ran
push r x = ran x.at x.state x.bus (r ∷ x.rows)

-- up to n steps from counter k, state s and bus b; the program ends where no line stands at the counter
unfoldable pub run_on : List Line → ℕ → ℕ → State → ℕ → Ran
run_on p zero k s b = ran k s b []
run_on p (suc n) k s b = elim (get_elem? p k) [ none ↦ ran k s b [] | some l ↦ push (row l k s b) (run_on p n (next l k s) (after l s) (bus_after l s b)) ]

-- the bus starts at 0 in every run
abbrev pub run : List Line → ℕ → ℕ → State → Ran
run p n k s = run_on p n k s 0

-- halted where the counter reached the end, else spent; the steps done are the rows'
unfoldable pub answer : List Line → Ran → Report
answer p x = cond (ltb x.at (length p)) (spent x.at (length x.rows)) (halted x.at (length x.rows))

-- what a run leaves: its state, and the rows' numbers one after the other at the front of the trace store
unfoldable pub run_leaves : List Line → Ran → List ℕ → Outcome
unfolding answer flat_map
run_leaves p x trace = outcome (answer p x) (x.state ∷ at_front (flat_map (λ r. r) x.rows) trace ∷ [])

-- 7, 3 to 6, then 18, then 20 a trace store too short for the budget
unfoldable pub run_outcome : List ℕ → ℕ → ℕ → State → List ℕ → Outcome
unfolding program_check run_on run_leaves
run_outcome p start budget state trace =
    unless_refused (program_check p) (state ∷ trace ∷ [])
    (cond (eqb (length state) state_size)
    (cond (ltb (length trace) (row_width * budget))
    (outcome (refused 20 0) (state ∷ trace ∷ []))
    (run_leaves (lines p) (run (lines p) budget start state) trace))
    (outcome (refused 18 0) (state ∷ trace ∷ [])))
