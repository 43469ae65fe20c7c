-- Request 01, said of the functions that run. `verdict_report`, `expand_outcome` and `run_outcome` are what the promises of `judge`, `expand` and `run` say of
-- every call. Assumes nothing.
use Rattle.std.specs.Prelude.{◌≡◌, List, ℕ, ◌*◌, ◌≤◌, length, get_or}
use Rattle.model.specs.Layouts.{layout_of}
use Rattle.model.specs.Limits.{row_width}
use Rattle.model.specs.Answers.{Report, done, refused, Outcome}
use Rattle.model.specs.Places.{State}
use Rattle.model.specs.Run.{run_outcome}
use Rattle.sets.specs.Walk.{sets_of, verdict_report}
use Rattle.sets.specs.Claims.{Drawn, Clear, Images}
use Rattle.balance.specs.EntryClaims.{Expanded, listing, SameCalls}

-- two states drawn from the sets, and room for the rows of b steps from each
pub record DrawnTwins (sets : List ℕ) (b : ℕ) (s t : State) (x y : List ℕ) : Type 0 where
  pub one : Drawn (sets_of sets) s
  pub other : Drawn (sets_of sets) t
  pub room : row_width * b ≤ length x
  pub other_room : row_width * b ≤ length y

-- two calls of `run` are answered what `judge` reported, and the same rows stand at the front of both trace stores
pub record AsJudged (r : Report) (x y : List ℕ) (one other : Outcome) : Type 0 where
  pub same : SameCalls x y one other
  pub told : one.answer ≡ r

-- sound: where `judge` refused nothing and reported no leak, the runs from line 0 are as it says
abbrev pub SoundCalls : Type 0
SoundCalls = (q sets : List ℕ) (b : ℕ) (s t : State) (x y : List ℕ) → DrawnTwins sets b s t x y → Clear (verdict_report q sets b)
    → AsJudged (verdict_report q sets b) x y (run_outcome q 0 b s x) (run_outcome q 0 b t y)

-- no false alarm: of what `expand` wrote, from sets that hold only images in the same layout
abbrev pub ClearExpansion : Type 0
ClearExpansion = (position spacing : ℕ) (p e : List ℕ) (n : ℕ) → Expanded position spacing p e n
    → (sets : List ℕ) (b : ℕ) → Images (layout_of position spacing) sets → Clear (verdict_report (listing e n) sets b)

-- ---- what `judged_expansion` answers: the verdict on the lines that `expand` left at the front of e, or what `expand` refused

abbrev pub verdict_on : Report → List ℕ → List ℕ → ℕ → Report
verdict_on (done values) e sets b = verdict_report (listing e (get_or values 0 0)) sets b
verdict_on (refused number line) e sets b = refused number line
