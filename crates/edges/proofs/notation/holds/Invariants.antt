-- `edges::notation::holds` is safe and ends: each item makes the rest of the list shorter. Assumes nothing.
use lib.ListN.{length}
use Rattle.edges.proofs.notation.holds.Given as goal

abbrev pub invariant-loop-rest : goal.invariant-loop-rest
invariant-loop-rest l = Unit

abbrev pub decreases-loop-rest : goal.decreases-loop-rest
decreases-loop-rest l = length l.rest
