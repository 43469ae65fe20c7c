-- `published::labels::bucket` meets its contract: the number of the bytes so far, and the bytes left. Assumes nothing.
use mathlib.Core.Path.{◌≡◌}
use Prim.Native.Nat.{◌-◌, ◌<◌}
use lib.ListN.{length, drop}
use Rattle.published.specs.Table.{hash_from}
use Rattle.published.proofs.labels.bucket.Given as goal

abbrev pub invariant-loop-b : goal.invariant-loop-b
invariant-loop-b l = (l.h < 65536) × (hash_from l.h (drop l.b-index l.b-items) ≡ hash_from 0 (drop (length l.name - 8) l.name))
