-- `published::taking::collect` meets its contract: what is seen so far, and what is left, give what is seen of the whole text. Assumes nothing.
use Prim.Native.Nat.{◌+◌, ◌-◌}
use lib.ListN.{length}
use mathlib.Core.Path.{◌≡◌}
use Rattle.published.proofs.CollectLaws.{Walked}
use Rattle.published.proofs.taking.collect.Given as goal

abbrev pub invariant-loop-at : goal.invariant-loop-at
invariant-loop-at l = (l.labels.text.now ≡ l.initial.labels.text.now) × Walked l.text l.labels.heads l.labels.table l.at l.i l.labels.count l.n l.clean

abbrev pub decreases-loop-at : goal.decreases-loop-at
decreases-loop-at l = length l.text + 1 - l.at
