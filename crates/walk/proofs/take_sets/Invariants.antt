-- `walk::take_sets` meets its contract. The loop's invariant: the first i places have their sets and first values. Assumes nothing.
use Rattle.walk.proofs.Gathers.{Took}
use Rattle.walk.proofs.take_sets.Given as goal

abbrev pub invariant-loop-i : goal.invariant-loop-i
invariant-loop-i l = Took l.sets l.own l.state l.i
