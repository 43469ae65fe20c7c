-- Request 05: the starts of a program's lines and of its end, added up a single time into a list and looked up there.
-- Assumes nothing.
use Rattle.std.specs.Prelude.{◌≡◌, cond, List, ℕ, ◌+◌, ◌<◌, ltb, length, get_or}
use Rattle.model.specs.declared.Layout.{Layout}
use Rattle.model.specs.declared.Line.{Line}
use Rattle.model.specs.Limits.{max_accepted}
use Rattle.model.specs.Marks.{Accepted}
use Rattle.model.specs.Expansion.{start, joined, expand}

-- what is looked up for line t in a list of starts, which has room for those of all lines and of the end; 0 past it
abbrev pub looked_up : List ℕ → ℕ → ℕ
looked_up starts t = cond (ltb t (max_accepted + 1)) (get_or starts t 0) 0

-- what is looked up is each line's start, and for the line count the end's, which is where the expansion ends
pub record Starts (L : Layout) (starts : List ℕ) (p : List Line) : Type 0 where
  pub line : (t : ℕ) → t < length p → looked_up starts t ≡ start L p t
  pub end : looked_up starts (length p) ≡ length (expand L p)

-- so the parts of an accepted program with their targets looked up are its expansion, byte for byte, in every layout
unfoldable pub LookedUp : Type 0
LookedUp = (L : Layout) (starts : List ℕ) (p : List Line) → Accepted p → Starts L starts p → joined L (looked_up starts) p ≡ expand L p
