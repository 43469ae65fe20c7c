-- `text::scanning::digits` meets its contract: the number so far and what is left of the text are always what stood there. Assumes nothing.
use Prim.Native.Nat.{◌<◌}
use mathlib.Core.Path.{◌≡◌}
use mathlib.Core.List.{◌++◌}
use lib.ListN.{drop}
use Rattle.model.specs.Text.{decimal}
use Rattle.text.proofs.scanning.digits.Given as goal

abbrev pub invariant-loop-i : goal.invariant-loop-i
invariant-loop-i l = (0 < l.k) × ((l.k < l.n) × (decimal l.k ++ drop l.i l.s ≡ decimal l.v ++ drop l.at l.s))
