-- Demand 3 of what runs. `expand_outcome`, `to_image_outcome`, `from_image_outcome` and `run_outcome` are what the promises of
-- `expand`, `to_image`, `from_image` and `run` say of every call, so a hypothesis below is a call that was not refused; where it names a
-- layout, that is one of the six. Assumes nothing.
use Rattle.std.specs.Prelude.{◌≡◌, List, [], ◌∷◌, ℕ, ◌*◌, ◌≤◌, length, take}
use Rattle.model.specs.Layouts.{layout_of}
use Rattle.model.specs.Limits.{state_size, line_width, row_width}
use Rattle.model.specs.Answers.{done, counted, Outcome, outcome, at_front}
use Rattle.model.specs.Places.{State}
use Rattle.model.specs.Stored.{lines}
use Rattle.model.specs.Run.{run_outcome}
use Rattle.model.specs.Images.{SamePublic, ButScratch, image, to_image_outcome, from_image_outcome}
use Rattle.model.specs.Expansion.{start, expand_outcome}
use Rattle.model.specs.Claims.{span}

-- `expand` was lent the program p and some store, answered n lines, and left them at the front of e
pub record Expanded (position spacing : ℕ) (p e : List ℕ) (n : ℕ) : Type 0 where
  pub lent : List ℕ
  pub call : expand_outcome position spacing p lent ≡ outcome (counted n) (e ∷ [])

-- `to_image` was lent the state s and some state, and left v in it
pub record Imaged (position spacing : ℕ) (s v : State) : Type 0 where
  pub lent : State
  pub call : to_image_outcome position spacing s lent ≡ outcome (counted state_size) (v ∷ [])

-- the listing that a run is lent: the n lines that `expand` wrote
abbrev pub listing : List ℕ → ℕ → List ℕ
listing e n = take (line_width * n) e

-- (a) two calls of `run` on what `expand` and `to_image` wrote, from the start of the same source line with the same budget: neither is
-- refused, the answers are equal, and the same rows stand at the front of both trace stores, each of which is otherwise as it was
pub record SameCalls (x y : List ℕ) (one other : Outcome) : Type 0 where
  pub values : List ℕ
  pub rows : List ℕ
  pub state_one : State
  pub state_other : State
  pub one_call : one ≡ outcome (done values) (state_one ∷ at_front rows x ∷ [])
  pub other_call : other ≡ outcome (done values) (state_other ∷ at_front rows y ∷ [])

abbrev pub EqualTraceStores : Type 0
EqualTraceStores = (position spacing : ℕ) (p e : List ℕ) (n : ℕ) → Expanded position spacing p e n
    → (s t v w : State) → Imaged position spacing s v → Imaged position spacing t w → SamePublic s t
    → (k b : ℕ) (x y : List ℕ) → row_width * b ≤ length x → row_width * b ≤ length y
    → SameCalls x y (run_outcome (listing e n) (start (layout_of position spacing) (lines p) k) b v x) (run_outcome (listing e n) (start (layout_of position spacing) (lines p) k) b w y)

-- (b) a call of `run` on the source and its bit state for m steps, and one on what `expand` and `to_image` wrote for the lengths of the
-- parts of the lines done: the expansion stands at the start of the line where the source stands, and `from_image` of its state gives the
-- source's state back
pub record FollowingCalls (position spacing : ℕ) (p : List ℕ) (n : ℕ) (source expansion : Outcome) : Type 0 where
  pub ending : ℕ
  pub counter : ℕ
  pub steps : ℕ
  pub bits : State
  pub trace : List ℕ
  pub ending_expanded : ℕ
  pub state : State
  pub trace_expanded : List ℕ
  pub source_call : source ≡ outcome (done (ending ∷ counter ∷ steps ∷ [])) (bits ∷ trace ∷ [])
  pub expansion_call : expansion ≡ outcome (done (ending_expanded ∷ start (layout_of position spacing) (lines p) counter ∷ n ∷ [])) (state ∷ trace_expanded ∷ [])
  pub image : ButScratch state (image (layout_of position spacing) bits)
  pub back : (lent : State) → length lent ≡ state_size → from_image_outcome position spacing state lent ≡ outcome (counted state_size) (bits ∷ [])

abbrev pub SourceFollowed : Type 0
SourceFollowed = (position spacing : ℕ) (p e : List ℕ) (n : ℕ) → Expanded position spacing p e n → (s v : State) → Imaged position spacing s v
    → (k m : ℕ) (x y : List ℕ) → row_width * m ≤ length x → row_width * span (layout_of position spacing) (lines p) m k s ≤ length y
    → FollowingCalls position spacing p (span (layout_of position spacing) (lines p) m k s) (run_outcome p k m s x)
    (run_outcome (listing e n) (start (layout_of position spacing) (lines p) k) (span (layout_of position spacing) (lines p) m k s) v y)

-- ---- what a caller of `twin_runs` and of `follow` has in hand

-- a listing that `expand` wrote in some layout, the start of a source line, and the images of two bit states that agree in the public places
pub record Twin (q : List ℕ) (i b : ℕ) (v w : State) (x y : List ℕ) : Type 0 where
  pub position : ℕ
  pub spacing : ℕ
  pub program : List ℕ
  pub written : List ℕ
  pub count : ℕ
  pub line : ℕ
  pub bits : State
  pub other_bits : State
  pub expanded : Expanded position spacing program written count
  pub is_listing : q ≡ listing written count
  pub is_start : i ≡ start (layout_of position spacing) (lines program) line
  pub imaged : Imaged position spacing bits v
  pub other_imaged : Imaged position spacing other_bits w
  pub same : SamePublic bits other_bits
  pub room : row_width * b ≤ length x
  pub other_room : row_width * b ≤ length y

-- a program p with m steps from source line k and a bit state s, the listing that `expand` wrote of it, the line's start, the lengths of
-- the parts of the lines done, and the image
pub record Followable (position spacing : ℕ) (p : List ℕ) (k m : ℕ) (s : State) (x : List ℕ) (q : List ℕ) (i b : ℕ) (v : State) (y : List ℕ) (lent : State) : Type 0 where
  pub written : List ℕ
  pub count : ℕ
  pub expanded : Expanded position spacing p written count
  pub is_listing : q ≡ listing written count
  pub is_start : i ≡ start (layout_of position spacing) (lines p) k
  pub is_span : b ≡ span (layout_of position spacing) (lines p) m k s
  pub imaged : Imaged position spacing s v
  pub room : row_width * m ≤ length x
  pub listing_room : row_width * b ≤ length y
  pub long : length lent ≡ state_size
