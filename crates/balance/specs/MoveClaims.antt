-- Request 06, said of the functions that run. `move_outcome`, `expand_outcome`, `to_image_outcome` and `run_outcome` are what the promises of `move_image`,
-- `expand`, `to_image` and `run` say of every call, so a hypothesis below is a call that was not refused. Assumes nothing.
use Rattle.std.specs.Prelude.{◌≡◌, List, [], ◌∷◌, ℕ, ◌+◌, ◌*◌, ◌≤◌, length, get_or}
use Rattle.model.specs.Layouts.{layout_of}
use Rattle.model.specs.Limits.{state_size, row_width}
use Rattle.model.specs.Answers.{Report, done, counted, Outcome, outcome}
use Rattle.model.specs.Places.{State}
use Rattle.model.specs.Stored.{lines}
use Rattle.model.specs.Run.{run}
use Rattle.model.specs.Images.{SamePublic, ButScratch, to_image_outcome, from_image_outcome}
use Rattle.model.specs.Expansion.{start}
use Rattle.model.specs.Claims.{span}
use Rattle.images.specs.Moving.{move_outcome}
use Rattle.images.specs.Claims.{Cleared}
use Rattle.balance.specs.EntryClaims.{Expanded, Imaged, listing}

-- `move_image` was lent the image v and some state, and left w in it
pub record Moved (old_position old_spacing new_position new_spacing : ℕ) (v w : State) : Type 0 where
  pub lent : State
  pub call : move_outcome old_position old_spacing new_position new_spacing v lent ≡ outcome (counted state_size) (w ∷ [])

-- the state that a call left
abbrev pub state_left : Outcome → State
state_left o = get_or o.stores 0 []

-- ---- a move is the way back and then the image: `from_image` in the old layout and `to_image` in the new one, lent a state each, are not
-- refused where `move_image` was not, and the second leaves the same bytes

pub record ByBits (old_position old_spacing new_position new_spacing : ℕ) (v w lent other : State) : Type 0 where
  pub bits : State
  pub back_call : from_image_outcome old_position old_spacing v lent ≡ outcome (counted state_size) (bits ∷ [])
  pub image_call : to_image_outcome new_position new_spacing bits other ≡ outcome (counted state_size) (w ∷ [])

abbrev pub MovedByBits : Type 0
MovedByBits = (old_position old_spacing new_position new_spacing : ℕ) (v w : State) → Moved old_position old_spacing new_position new_spacing v w
    → (lent other : State) → length lent ≡ state_size → length other ≡ state_size → ByBits old_position old_spacing new_position new_spacing v w lent other

-- ---- there and back: the second call, lent a state, is not refused, and leaves the first image with r1 to r3 cleared

pub record HomeCall (v : State) (second : Outcome) : Type 0 where
  pub home : State
  pub call : second ≡ outcome (counted state_size) (home ∷ [])
  pub cleared : Cleared v home

abbrev pub MovedHome : Type 0
MovedHome = (old_position old_spacing new_position new_spacing : ℕ) (v w : State) → Moved old_position old_spacing new_position new_spacing v w
    → (lent : State) → length lent ≡ state_size → HomeCall v (move_outcome new_position new_spacing old_position old_spacing w lent)

-- ---- a run continued in the new layout

-- what a caller of `continue_run` has in hand: the listings that `expand` wrote of one program in the two layouts; the image of a bit state in
-- the old one, twice; the start of a source line there, and as budgets the lengths of the parts of the lines done in `steps` source steps, and in
-- `more` steps more; in the new one the start of the line where the source stands at the move, and the lengths for the steps after it; and
-- stores for all that is written
pub record Continuing (old_position old_spacing new_position new_spacing : ℕ) (old_listing : List ℕ) (old_start budget : ℕ) (old_image : State) (trace : List ℕ) (moved : State)
    (new_listing : List ℕ) (new_start new_budget : ℕ) (new_trace : List ℕ) (whole_budget : ℕ) (whole_image : State) (whole_trace : List ℕ) (whole_moved : State) : Type 0 where
  pub program : List ℕ
  pub line : ℕ
  pub steps : ℕ
  pub more : ℕ
  pub bits : State
  pub move_line : ℕ
  pub end_line : ℕ
  pub written : List ℕ
  pub count : ℕ
  pub new_written : List ℕ
  pub new_count : ℕ
  pub expanded : Expanded old_position old_spacing program written count
  pub new_expanded : Expanded new_position new_spacing program new_written new_count
  pub imaged : Imaged old_position old_spacing bits old_image
  pub same_image : whole_image ≡ old_image
  pub is_listing : old_listing ≡ listing written count
  pub is_new_listing : new_listing ≡ listing new_written new_count
  pub is_move_line : move_line ≡ (run (lines program) steps line bits).at
  pub is_end_line : end_line ≡ (run (lines program) (steps + more) line bits).at
  pub is_start : old_start ≡ start (layout_of old_position old_spacing) (lines program) line
  pub is_new_start : new_start ≡ start (layout_of new_position new_spacing) (lines program) move_line
  pub is_span : budget ≡ span (layout_of old_position old_spacing) (lines program) steps line bits
  pub is_whole_span : whole_budget ≡ span (layout_of old_position old_spacing) (lines program) (steps + more) line bits
  pub is_new_span : new_budget ≡ span (layout_of new_position new_spacing) (lines program) more move_line (run (lines program) steps line bits).state
  pub room : row_width * budget ≤ length trace
  pub new_room : row_width * new_budget ≤ length new_trace
  pub whole_room : row_width * whole_budget ≤ length whole_trace
  pub long : length moved ≡ state_size
  pub whole_long : length whole_moved ≡ state_size

-- the old run stands at the start of the line of the move, and was moved; the new run stands at the start of the last line, where the old run would
-- stand; and its state is the moved image of what the old run would have had, scratch excepted
pub record ContinuedCalls (old_position old_spacing new_position new_spacing : ℕ) (program : List ℕ) (move_line end_line budget new_budget whole_budget : ℕ)
    (run moved new_run whole_run whole_moved : Report) (after would : State) : Type 0 where
  pub ending : ℕ
  pub new_ending : ℕ
  pub whole_ending : ℕ
  pub stood : run ≡ done (ending ∷ start (layout_of old_position old_spacing) (lines program) move_line ∷ budget ∷ [])
  pub went : moved ≡ counted state_size
  pub stands : new_run ≡ done (new_ending ∷ start (layout_of new_position new_spacing) (lines program) end_line ∷ new_budget ∷ [])
  pub would_stand : whole_run ≡ done (whole_ending ∷ start (layout_of old_position old_spacing) (lines program) end_line ∷ whole_budget ∷ [])
  pub would_go : whole_moved ≡ counted state_size
  pub holds : ButScratch after would

-- ---- the traces from the move on

-- what a caller of `moved_twins` has in hand: a listing that `expand` wrote in the new layout, the start of a source line, two images that
-- agree in the public places, whatever their layouts, and stores for the rows of b steps from each
pub record MovedTwin (position spacing : ℕ) (q : List ℕ) (i b : ℕ) (v w : State) (x y : List ℕ) : Type 0 where
  pub program : List ℕ
  pub written : List ℕ
  pub count : ℕ
  pub line : ℕ
  pub expanded : Expanded position spacing program written count
  pub is_listing : q ≡ listing written count
  pub is_start : i ≡ start (layout_of position spacing) (lines program) line
  pub same : SamePublic v w
  pub room : row_width * b ≤ length x
  pub other_room : row_width * b ≤ length y
