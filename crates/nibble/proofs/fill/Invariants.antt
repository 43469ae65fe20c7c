-- `nibble::fill` meets its contract. The table is that of the nibbles below a alone, and what is left of the map decides as the whole does.
-- Assumes nothing.
use mathlib.Core.Path.{◌≡◌}
use Prim.Native.Nat.{◌+◌}
use lib.ListN.{drop}
use Rattle.nibble.specs.Nibbles.{first_above}
use Rattle.nibble.proofs.MapLaws.{filled}
use Rattle.nibble.proofs.fill.Given as goal

abbrev pub invariant-loop-a : goal.invariant-loop-a
invariant-loop-a l = (l.table ≡ filled l.map l.a) × (l.a + first_above (drop l.a l.map) ≡ first_above l.map)
