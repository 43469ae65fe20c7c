-- `text::cut::find` meets its contract: the bytes passed and those before the first c in the rest are as many as before the first
-- c. Assumes nothing.
use Prim.Native.Nat.{◌+◌}
use mathlib.Core.Path.{◌≡◌}
use lib.ListN.{length, drop}
use Rattle.model.specs.Text.{up_to}
use Rattle.text.proofs.cut.find.Given as goal

abbrev pub invariant-loop-i : goal.invariant-loop-i
invariant-loop-i l = l.i + length (up_to l.c (drop l.i l.s)) ≡ length (up_to l.c l.s)
