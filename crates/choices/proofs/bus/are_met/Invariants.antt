-- `choices::bus::are_met` meets its contract. The loop's invariant: the addresses from j on are at that distance exactly where all are.
-- Assumes nothing.
use mathlib.Core.Path.{◌≡◌}
use lib.ListN.{drop}
use Rattle.model.specs.Stored.{operand_of}
use Rattle.sets.specs.Walk.{lists_of}
use Rattle.sets.specs.Addresses.{reached}
use Rattle.choices.specs.Bus.{all_met, met_by}
use Rattle.choices.proofs.bus.are_met.Given as goal

abbrev pub invariant-loop-j : goal.invariant-loop-j
invariant-loop-j l =
    let xs = reached (lists_of l.sets) (operand_of l.code) in
    all_met l.first l.bus (drop l.j xs) ≡ met_by l.bus xs
