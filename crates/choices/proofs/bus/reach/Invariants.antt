-- `choices::bus::reach` meets its contract. The loop's invariant: the bus lists the addresses of the first j values. Assumes nothing.
use mathlib.Core.Path.{◌≡◌}
use mathlib.Core.List.{map}
use lib.ListN.{take}
use Rattle.model.specs.Stored.{operand_of}
use Rattle.sets.specs.Walk.{lists_of, values}
use Rattle.sets.specs.Addresses.{address_by}
use Rattle.choices.proofs.bus.reach.Given as goal

abbrev pub invariant-loop-j : goal.invariant-loop-j
invariant-loop-j l = l.bus ≡ map (address_by (operand_of l.code)) (take l.j (values (lists_of l.sets) l.at))
