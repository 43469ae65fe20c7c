-- `choices::bus::Bus::is_apart` meets its contract. The loop's invariant: the values that are left are at that distance exactly where all are. Assumes nothing.
use mathlib.Core.Path.{◌≡◌}
use lib.ListN.{drop}
use Rattle.choices.specs.Gathering.{all_at}
use Rattle.choices.proofs.bus.Bus.is_apart.Given as goal

abbrev pub invariant-loop-value : goal.invariant-loop-value
invariant-loop-value l = all_at l.distance l.x (drop l.value-index l.value-items) ≡ all_at l.distance l.x l.value-items
