-- `codewords::weights_right` meets its contract. What is left decides as the whole does. Assumes nothing.
use mathlib.Core.Path.{◌≡◌}
use lib.ListN.{drop}
use Rattle.codewords.specs.Codewords.{weights_right}
use Rattle.codewords.proofs.weights_right.Given as goal

abbrev pub invariant-loop-i : goal.invariant-loop-i
invariant-loop-i l = weights_right (drop l.i l.weights) ≡ weights_right l.weights
