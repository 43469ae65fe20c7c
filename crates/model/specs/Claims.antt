-- 'The runs of demand 3': the two claims about whole runs of an accepted program's expansion.
-- Assumes nothing.
use Rattle.std.specs.Prelude.{◌≡◌, List, ℕ, zero, suc, ◌+◌, ◌*◌, ◌≤◌, length}
use Rattle.std.proofs.Math.Option.{none, some}
use Rattle.std.proofs.Math.ListN.{get_elem?}
use Rattle.model.specs.declared.Line.{Line}
use Rattle.model.specs.declared.Layout.{Layout}
use Rattle.model.specs.Limits.{longest}
use Rattle.model.specs.Places.{State}
use Rattle.model.specs.Step.{next, after}
use Rattle.model.specs.Run.{run, answer}
use Rattle.model.specs.Images.{BitState, SamePublic, ButScratch, image}
use Rattle.model.specs.Layouts.{Known}
use Rattle.model.specs.Expansion.{size, start, expand}
use Rattle.model.specs.Marks.{Accepted}

-- ---- (a) two runs with the budget b, begun at the start of source line k, from the images of two bit states that agree in all
-- public places: equal traces, and the same ending, counter and steps done

pub record SameRuns (L : Layout) (p : List Line) (k b : ℕ) (s t : State) : Type 0 where
  pub traces : (run (expand L p) b (start L p k) (image L s)).rows ≡ (run (expand L p) b (start L p k) (image L t)).rows
  pub answers : answer (expand L p) (run (expand L p) b (start L p k) (image L s)) ≡ answer (expand L p) (run (expand L p) b (start L p k) (image L t))

abbrev pub EqualTraces : Layout → Type 0
EqualTraces L = (p : List Line) → Accepted p → (k b : ℕ) (s t : State) → BitState s → BitState t → SamePublic s t → SameRuns L p k b s t

-- ---- (b) after any number of whole source lines

-- the lengths of the parts of the lines done in n source steps from line k and state s, a line as often as it was done; no step is
-- done past the source's end
unfoldable pub span : Layout → List Line → ℕ → ℕ → State → ℕ
span L p zero k s = 0
span L p (suc n) k s = elim (get_elem? p k) [ none ↦ 0 | some l ↦ size L l + span L p n (next l k s) (after l s) ]

-- after that many steps the expansion stands at the start of the line where the source stands, or at its end where the source has
-- ended, and its state is the image of the source's but for r1 to r3. The source's state stays a bit state, and the source's steps done
-- take at least as many steps of the expansion and at most `longest` times as many
pub record Follows (L : Layout) (p : List Line) (k n : ℕ) (s : State) : Type 0 where
  pub steps : length (run (expand L p) (span L p n k s) (start L p k) (image L s)).rows ≡ span L p n k s
  pub stands : (run (expand L p) (span L p n k s) (start L p k) (image L s)).at ≡ start L p (run p n k s).at
  pub holds : ButScratch (run (expand L p) (span L p n k s) (start L p k) (image L s)).state (image L (run p n k s).state)
  pub bits : BitState (run p n k s).state
  pub least : length (run p n k s).rows ≤ span L p n k s
  pub most : span L p n k s ≤ longest * length (run p n k s).rows

abbrev pub Correspondence : Layout → Type 0
Correspondence L = (p : List Line) → Accepted p → (k n : ℕ) (s : State) → BitState s → Follows L p k n s

-- demand 3 is one claim, of each of the six layouts
abbrev pub DemandThree : Type 0
DemandThree = (L : Layout) → Known L → EqualTraces L × Correspondence L
