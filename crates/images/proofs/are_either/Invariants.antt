-- `images::are_either` meets its contract. The loop's invariant: `good` is the test of the bytes so far. Assumes nothing.
use mathlib.Core.Path.{◌≡◌}
use lib.ListN.{take}
use Rattle.std.specs.List.{list_all}
use Rattle.images.specs.Ranges.{either}
use Rattle.images.proofs.are_either.Given as goal

abbrev pub invariant-loop-byte : goal.invariant-loop-byte
invariant-loop-byte l = l.good ≡ list_all (either l.x l.y) (take l.byte-index l.bytes)
