-- `verdicts::write_sets` meets its contract. The loop's invariant: the sets of the first i places are written. Assumes nothing.
use mathlib.Core.Path.{◌≡◌}
use Rattle.verdicts.specs.Verdicts.{sets_before}
use Rattle.verdicts.proofs.write_sets.Given as goal

abbrev pub invariant-loop-i : goal.invariant-loop-i
invariant-loop-i l = l.sets ≡ sets_before l.i
