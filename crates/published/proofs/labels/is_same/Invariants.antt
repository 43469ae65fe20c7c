-- `published::labels::is_same` meets its contract. Assumes nothing.
use mathlib.Core.Path.{◌≡◌}
use mathlib.Core.Bool.{◌&&◌}
use lib.ListN.{drop}
use Rattle.model.specs.Text.{same_bytes}
use Rattle.published.proofs.labels.is_same.Given as goal

abbrev pub invariant-loop-i : goal.invariant-loop-i
invariant-loop-i l = l.same && same_bytes (drop l.i l.x) (drop l.i l.y) ≡ same_bytes l.x l.y
