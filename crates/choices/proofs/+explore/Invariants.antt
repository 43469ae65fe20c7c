-- `choices::explore` meets its contract. The measure of the calls is what is left of the arguments' places, that of the loop what is
-- left of the values; the loop's invariant is in proofs/Narrowing. Assumes nothing.
use mathlib.Core.Path.{◌≡◌}
use Prim.Native.Nat.{◌-◌, ◌≤◌}
use lib.ListN.{length, get_or}
use Rattle.sets.specs.Walk.{set_width, listed, lists_of, values}
use Rattle.choices.specs.Gathering.{gathered, line_by, argument_places}
use Rattle.choices.proofs.Narrowing.{Turned}
use Rattle.choices.proofs.+explore.Given as goal

abbrev pub invariant-loop-j : goal.invariant-loop-j
invariant-loop-j l =
    (l.n ≡ length (values (lists_of l.initial.sets) l.at)) × (get_or l.found 0 0 ≤ set_width)
    × Turned (line_by l.line) l.counter l.initial.sets l.initial.state l.level l.k l.at (gathered (listed l.initial.found) l.leak l.initial.row) l.sets l.state (gathered (listed l.found) l.seen l.row) l.j

abbrev pub decreases-explore : goal.decreases-explore
decreases-explore l = argument_places - l.level
