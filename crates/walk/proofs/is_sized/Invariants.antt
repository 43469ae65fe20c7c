-- `walk::is_sized` meets its contract. The loop's invariant: the counts that are left are right exactly where all are. Assumes nothing.
use mathlib.Core.Path.{◌≡◌}
use Prim.Native.Nat.{◌*◌, ◌-◌}
use lib.ListN.{drop}
use Rattle.model.specs.Limits.{state_size}
use Rattle.sets.specs.Walk.{set_width, sized}
use Rattle.walk.proofs.is_sized.Given as goal

abbrev pub invariant-loop-i : goal.invariant-loop-i
invariant-loop-i l = sized (state_size - l.i) (drop (set_width * l.i) l.sets) ≡ sized state_size l.sets
