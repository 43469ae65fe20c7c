-- How the published text of a stored program is put together: the lines that are targets, told beforehand. Assumes nothing.
use Rattle.std.specs.Prelude.{◌≡◌, Bool, true, false, cond, ◌&&◌, List, [], ◌∷◌, ℕ, ◌-◌, ◌≤◌, ltb, leb, length, get_or, set}
use Rattle.model.specs.declared.Line.{Line}
use Rattle.model.specs.Limits.{max_accepted, max_lines}
use Rattle.model.specs.Answers.{counted, Outcome, unless_refused}
use Rattle.model.specs.Stored.{lines}
use Rattle.model.specs.Text.{reading, fitted}
use Rattle.model.specs.Marks.{mark_check}
use Rattle.published.specs.Published.{is_target, published}

-- a target told, by its number
unfoldable pub marked_by : ℕ → List Bool → List Bool
marked_by t used = cond (ltb 0 t && leb t (length used)) (set used (t - 1) true) used

-- whether each line, and the end, is a target
abbrev pub Used : List Line → List Bool → Type 0
Used p used = (i : ℕ) → i ≤ max_accepted → get_or used i false ≡ is_target p i

-- a text that is not read whole into a store of 1,024 lines
abbrev pub Unread : List ℕ → Type 0
Unread text = (n : ℕ) → (reading max_lines 0 max_accepted text).answer ≡ counted n → ⊥

-- the published text of a stored program: 7, 3 to 6, 9 to 16, then 17
unfoldable pub publish_outcome : List ℕ → List ℕ → Outcome
publish_outcome p out = unless_refused (mark_check p) (out ∷ []) (fitted (published (lines p)) out)
