-- What is shown of request 09. Each claim stands alone: what it assumes is written in it.
-- Assumes nothing.
use Rattle.std.specs.Prelude.{◌≡◌, ℕ, false, List, [], ◌∷◌, map, length, slice_index}
use Rattle.model.specs.declared.Line.{Line}
use Rattle.model.specs.Answers.{done, refused, Outcome, outcome}
use Rattle.model.specs.Places.{State}
use Rattle.model.specs.Run.{run, run_outcome}
use Rattle.watch.specs.declared.Watch.{Watch}
use Rattle.watch.specs.Watches.{places_written, last_step, unused, unwatchable, both, watch_outcome}

-- ---- trace and state are those without the list, and so is the answer

abbrev pub SameRun : Type 0
SameRun = (p : List ℕ) (start budget : ℕ) (s : State) (t : List ℕ) (ws : List Watch) → unwatchable ws ≡ false → (watch_outcome p start budget s t ws).run ≡ run_outcome p start budget s t

-- the same of two calls, one with watches of these places and one without: lent the same, they answer and leave the same
abbrev pub SameCalls : List ℕ → List (List ℕ) → List (List ℕ) → Outcome → Outcome → Type 0
SameCalls places lent lent_alone left left_alone = unwatchable (map unused places) ≡ false → lent ≡ lent_alone → left ≡ left_alone

-- ---- a refusal leaves everything as it was

abbrev pub Untouched : Type 0
Untouched = (p : List ℕ) (start budget : ℕ) (s : State) (t : List ℕ) (ws : List Watch) (k l : ℕ) → (watch_outcome p start budget s t ws).run.answer ≡ refused k l
    → watch_outcome p start budget s t ws ≡ both (outcome (refused k l) (s ∷ t ∷ [])) ws

-- ---- else what the watches held before, their place aside, does not matter

abbrev pub places_of : List Watch → List ℕ
places_of ws = map (λ w. w.place) ws

abbrev pub PlacesAlone : Type 0
PlacesAlone = (p : List ℕ) (start budget : ℕ) (s : State) (t : List ℕ) (ws us : List Watch) (vs : List ℕ) → places_of ws ≡ places_of us → (watch_outcome p start budget s t ws).run.answer ≡ done vs
    → watch_outcome p start budget s t ws ≡ watch_outcome p start budget s t us

-- ---- one place is written for each step

abbrev pub OneEach : Type 0
OneEach = (p : List Line) (n k : ℕ) (s : State) → length (places_written p n k s) ≡ length (run p n k s).rows

-- ---- a place's last value is the one that its last write left: the run cut off after that step, or before the first where there is none,
-- has it already

abbrev pub LastWrite : Type 0
LastWrite = (p : List Line) (n k i : ℕ) (s : State) → slice_index (run p (last_step i (places_written p n k s)) k s).state i ≡ slice_index (run p n k s).state i
