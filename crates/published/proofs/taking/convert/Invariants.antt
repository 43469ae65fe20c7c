-- `published::taking::convert` meets its contract: what is left to check gives the answer, what is left to store the lines. Assumes nothing.
use Prim.Native.Nat.{◌+◌, ◌-◌}
use lib.ListN.{length}
use Rattle.published.proofs.ConvertLaws.{Converting}
use Rattle.published.proofs.taking.convert.Given as goal

abbrev pub invariant-loop-at : goal.invariant-loop-at
invariant-loop-at l = Converting l.text l.initial.store l.store l.at l.i l.n l.clean

abbrev pub decreases-loop-at : goal.decreases-loop-at
decreases-loop-at l = length l.text + 1 - l.at
