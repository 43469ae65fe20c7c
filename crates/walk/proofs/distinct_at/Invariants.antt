-- `walk::distinct_at` meets its contract. The loop's invariant: what the values from j on mean, put behind what was noted, is all.
-- Assumes nothing.
use Rattle.model.specs.Places.{kind}
use Rattle.model.specs.Step.{meaning}
use Rattle.walk.proofs.Gathers.{Noted, meant}
use Rattle.walk.proofs.distinct_at.Given as goal

abbrev pub invariant-loop-j : goal.invariant-loop-j
invariant-loop-j l = Noted (meant (meaning l.mark (kind l.i)) l.sets l.i) l.found l.j
