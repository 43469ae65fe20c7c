-- `choices::is_at` meets its contract. The loop's invariant: the old values from j on are at that distance exactly where all are. Assumes nothing.
use mathlib.Core.Path.{◌≡◌}
use lib.ListN.{drop}
use Rattle.sets.specs.Walk.{lists_of, values}
use Rattle.choices.specs.Gathering.{all_at}
use Rattle.choices.proofs.is_at.Given as goal

abbrev pub invariant-loop-j : goal.invariant-loop-j
invariant-loop-j l = all_at l.distance l.res (drop l.j (values (lists_of l.sets) l.i)) ≡ all_at l.distance l.res (values (lists_of l.sets) l.i)
