-- `walk::walk_lines` meets its contract. The loop's invariant: what is left of the walk gives the same verdict as the whole. Assumes nothing.
use mathlib.Core.Path.{◌≡◌}
use mathlib.Core.List.{[], ◌∷◌}
use Prim.Native.Nat.{◌-◌, ◌≤◌, ◌<◌}
use lib.ListN.{length}
use Rattle.model.specs.Stored.{lines}
use Rattle.sets.specs.Walk.{lists_of, heads, walk}
use Rattle.sets.specs.Claims.{Full}
use Rattle.walk.proofs.walk_lines.Given as goal

abbrev pub invariant-loop-counter : goal.invariant-loop-counter
invariant-loop-counter l =
    (l.steps ≤ l.budget) × (l.state ≡ heads (lists_of l.sets)) × Full (lists_of l.sets) × (0 < length l.bus)
    × (walk (lines l.program) (l.budget - l.steps) l.counter l.steps (lists_of l.sets) l.bus ≡ walk (lines l.program) l.budget 0 0 (lists_of l.initial.sets) (0 ∷ []))

abbrev pub decreases-loop-counter : goal.decreases-loop-counter
decreases-loop-counter l = l.budget - l.steps
