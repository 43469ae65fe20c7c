-- `published::labels::all_alphanumeric` meets its contract. Assumes nothing.
use mathlib.Core.Path.{◌≡◌}
use mathlib.Core.Bool.{◌&&◌}
use lib.ListN.{drop}
use Rattle.published.specs.Published.{all_alphanumeric}
use Rattle.published.proofs.labels.all_alphanumeric.Given as goal

abbrev pub invariant-loop-b : goal.invariant-loop-b
invariant-loop-b l = l.all && all_alphanumeric (drop l.b-index l.s) ≡ all_alphanumeric l.s
