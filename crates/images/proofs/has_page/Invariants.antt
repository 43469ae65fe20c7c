-- `images::has_page` meets its contract. The loop's invariant: `good` is the test of the first i cells. Assumes nothing.
use mathlib.Core.Path.{◌≡◌}
use lib.Dec.{eqb}
use lib.ListN.{take}
use Rattle.std.specs.Cmp.Lexicographic.{pointwise}
use Rattle.images.proofs.has_page.Given as goal

abbrev pub invariant-loop-i : goal.invariant-loop-i
invariant-loop-i l = l.good ≡ pointwise eqb (take l.i l.cells) (take l.i l.page)
