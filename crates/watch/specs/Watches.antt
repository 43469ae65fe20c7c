-- Req 09, 'Watching eight places in one run': the places that a run writes, beside the model's `run` and without changing it, and what
-- each of up to eight watches holds after it. Assumes nothing.
use Rattle.std.specs.Prelude.{ℕ, zero, suc, Bool, false, cond, ◌||◌, List, [], ◌∷◌, map, length, ◌==◌, nat_le, nat_lt, slice_index}
use Rattle.std.proofs.Math.Option.{none, some}
use Rattle.std.proofs.Math.ListN.{get_elem?}
use Rattle.model.specs.declared.Line.{Line}
use Rattle.model.specs.Limits.{state_size}
use Rattle.model.specs.Answers.{Report, done, refused, Outcome, outcome}
use Rattle.model.specs.Places.{State, place}
use Rattle.model.specs.Stored.{lines}
use Rattle.model.specs.Step.{next, after}
use Rattle.model.specs.Run.{run, run_outcome}
use Rattle.watch.specs.declared.Watch.{Watch}

-- ---- the places written by the steps of a run, in order

-- up to n steps from counter k and state s, one place for each step: the place of the line's destination, past the state where it has none
unfoldable pub places_written : List Line → ℕ → ℕ → State → List ℕ
unfolding place next after
places_written p zero k s = []
places_written p (suc n) k s = elim (get_elem? p k) [ none ↦ [] | some l ↦ place l.destination s ∷ places_written p n (next l k s) (after l s) ]

-- how many writes reached place i
unfoldable pub writes_to : ℕ → List ℕ → ℕ
writes_to i [] = 0
writes_to i (j ∷ js) = cond (i == j) (suc (writes_to i js)) (writes_to i js)

-- the step of the last one, 0 for none, the first step is 1: a later write goes before this one, and is one step further than in the rest
unfoldable pub last_step : ℕ → List ℕ → ℕ
last_step i [] = 0
last_step i (j ∷ js) = cond (nat_lt 0 (last_step i js)) (suc (last_step i js)) (cond (i == j) 1 0)

-- ---- watches

abbrev pub watch : ℕ → ℕ → ℕ → ℕ → Watch
watch place value writes step = record { place = place; value = value; writes = writes; step = step }

-- a fresh watch of a place
abbrev pub unused : ℕ → Watch
unused place = watch place 0 0 0

-- a watch after a run that wrote these places and left this state: nothing but its place is kept
abbrev pub watched : List ℕ → State → Watch → Watch
watched js s w = watch w.place (slice_index s w.place) (writes_to w.place js) (last_step w.place js)

abbrev pub max_watches : ℕ
max_watches = 8

-- some place is above 543
unfoldable pub some_past : List Watch → Bool
some_past [] = false
some_past (w ∷ ws) = nat_le state_size w.place || some_past ws

-- 26: more than eight watches or a place above 543
unfoldable pub unwatchable : List Watch → Bool
unfolding some_past
unwatchable ws = nat_lt max_watches (length ws) || some_past ws

-- ---- a run with watches

-- what the run leaves, and the watches
pub record Watched : Type 0 where
  pub run : Outcome
  pub watches : List Watch

abbrev pub both : Outcome → List Watch → Watched
both run watches = record { run = run; watches = watches }

-- what comes of a run that is refused, and of one that is not
abbrev pub by_answer : Report → Watched → Watched → Watched
by_answer (refused number line) turned_down ran = turned_down
by_answer (done values) turned_down ran = ran

-- refused as `run`, then with 26 at line 0: state, trace and watches stay. Else answer, state and trace are those of `run`, and each watch is
-- what the places written and the last state make of it
unfoldable pub watch_outcome : List ℕ → ℕ → ℕ → State → List ℕ → List Watch → Watched
unfolding places_written unwatchable run_outcome
watch_outcome p start budget state trace watches =
    let alone = run_outcome p start budget state trace in
    by_answer alone.answer (both alone watches)
    (cond (unwatchable watches)
    (both (outcome (refused 26 0) (state ∷ trace ∷ [])) watches)
    (both alone (map (watched (places_written (lines p) budget start state) (run (lines p) budget start state).state) watches)))
