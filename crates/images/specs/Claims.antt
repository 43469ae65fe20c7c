-- Req 06, what holds across a move, between any two of the six layouts, a layout and itself too. Each claim stands alone: what it assumes is
-- written in it.
-- Assumes nothing.
use Rattle.std.specs.Prelude.{◌≡◌, List, ℕ, ◌+◌, ◌≤◌, ◌<◌, length, get_or}
use Rattle.model.specs.declared.Layout.{Layout}
use Rattle.model.specs.declared.Line.{Line}
use Rattle.model.specs.declared.Kind.TheVariants.{Neither, Public, Sensitive}
use Rattle.model.specs.Limits.{state_size}
use Rattle.model.specs.Places.{State, kind}
use Rattle.model.specs.Run.{Ran, run, answer}
use Rattle.model.specs.Layouts.{Known}
use Rattle.model.specs.Code.{code}
use Rattle.model.specs.Images.{BitState, SamePublic, ButScratch, fixed, image}
use Rattle.model.specs.Expansion.{start, expand}
use Rattle.model.specs.Marks.{Accepted}
use Rattle.model.specs.Claims.{span, Follows}
use Rattle.images.specs.Moving.{StoredImage, moved}

-- ---- each place of a moved image: public places stay, a bit's old code becomes its new one, and the others are as in every image of the new
-- layout, 0 in r0 to r3 and the table page

pub record MovedPlaces (old new : Layout) (v : State) : Type 0 where
  pub long : length (moved old new v) ≡ state_size
  pub public : (i : ℕ) → i < state_size → kind i ≡ Public → get_or (moved old new v) i 0 ≡ get_or v i 0
  pub sensitive : (i b : ℕ) → i < state_size → kind i ≡ Sensitive → b ≤ 1 → get_or v i 0 ≡ code old b → get_or (moved old new v) i 0 ≡ code new b
  pub others : (i : ℕ) → i < state_size → kind i ≡ Neither → get_or (moved old new v) i 0 ≡ fixed new i

abbrev pub EachPlace : Type 0
EachPlace = (old new : Layout) → Known old → (v : State) → StoredImage old v → MovedPlaces old new v

-- ---- moving there and back gives the same bytes but for r1 to r3, which are 0; nothing is refused on the way

pub record Cleared (v w : State) : Type 0 where
  pub same : ButScratch w v
  pub scratch : (i : ℕ) → 1 ≤ i → i ≤ 3 → get_or w i 0 ≡ 0

pub record ComesHome (old new : Layout) (v : State) : Type 0 where
  pub taken : StoredImage new (moved old new v)
  pub home : Cleared v (moved new old (moved old new v))

abbrev pub ThereAndBack : Type 0
ThereAndBack = (old new : Layout) → Known old → Known new → (v : State) → StoredImage old v → ComesHome old new v

-- ---- a run continued in the new layout's expansion, from the same source line

-- what the old layout's run has after n whole source lines, begun at line k on the image of s
abbrev pub old_run : Layout → List Line → ℕ → ℕ → State → Ran
old_run old p k n s = run (expand old p) (span old p n k s) (start old p k) (image old s)

-- moved then, and continued for m source lines more from the line where the source stands
abbrev pub new_run : Layout → Layout → List Line → ℕ → ℕ → ℕ → State → Ran
new_run old new p k n m s =
    let source = run p n k s in
    run (expand new p) (span new p m source.at source.state) (start new p source.at) (moved old new (old_run old p k n s).state)

-- the old run stands between two source lines and has a stored image; moved, this is the image of the source's state, so that all that
-- `Follows` says goes on; and after m lines more the new run stands at the start of the line where the source stands after n + m, and has
-- the moved image of what the old run would have had, scratch excepted
pub record Continues (old new : Layout) (p : List Line) (k n m : ℕ) (s : State) : Type 0 where
  pub stood : (old_run old p k n s).at ≡ start old p (run p n k s).at
  pub taken : StoredImage old (old_run old p k n s).state
  pub image : moved old new (old_run old p k n s).state ≡ image new (run p n k s).state
  pub follows : Follows new p (run p n k s).at m (run p n k s).state
  pub steps : length (new_run old new p k n m s).rows ≡ span new p m (run p n k s).at (run p n k s).state
  pub stands : (new_run old new p k n m s).at ≡ start new p (run p (n + m) k s).at
  pub holds : ButScratch (new_run old new p k n m s).state (moved old new (old_run old p k (n + m) s).state)

abbrev pub Continued : Type 0
Continued = (old new : Layout) → Known old → Known new → (p : List Line) → Accepted p → (k n m : ℕ) (s : State) → BitState s → Continues old new p k n m s

-- ---- from the move on, at the same source line and budget, equal traces and the same ending, counter and steps done for any two states moved
-- to that layout, from whatever layouts, that agree in all public places

pub record AlikeMoved (one other new : Layout) (p : List Line) (k b : ℕ) (v w : State) : Type 0 where
  pub traces : (run (expand new p) b (start new p k) (moved one new v)).rows ≡ (run (expand new p) b (start new p k) (moved other new w)).rows
  pub answers : answer (expand new p) (run (expand new p) b (start new p k) (moved one new v)) ≡ answer (expand new p) (run (expand new p) b (start new p k) (moved other new w))

abbrev pub EqualFromTheMove : Type 0
EqualFromTheMove = (one other new : Layout) → Known new → (p : List Line) → Accepted p → (k b : ℕ) (v w : State)
    → StoredImage one v → StoredImage other w → SamePublic v w → AlikeMoved one other new p k b v w
