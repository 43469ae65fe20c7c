-- `choices::bytes::is_member` meets its contract. The loop's invariant: x is among the values from j on exactly where it is among all. Assumes nothing.
use mathlib.Core.Path.{◌≡◌}
use Prim.Native.Nat.{◌≤◌}
use lib.ListN.{get_or, drop}
use Rattle.sets.specs.Walk.{listed, member}
use Rattle.choices.proofs.bytes.is_member.Given as goal

abbrev pub invariant-loop-j : goal.invariant-loop-j
invariant-loop-j l = (l.j ≤ get_or l.found 0 0) × (member l.x (drop l.j (listed l.found)) ≡ member l.x (listed l.found))
