-- `sendout::main` is safe and ends: what is counted of the printed text stands in its room. Assumes nothing.
use Prim.Native.Nat.{ℕ, ◌+◌}
use mathlib.Core.Path.{◌≡◌, refl}
use Rattle.lines.proofs.SharedLaws.{counted_within}
use Rattle.filters.specs.Filters.{filter_size, sent_bytes}
use Rattle.sendout.specs.declared.TheConstants.{INPUT_ROOM, OUTPUT_ROOM}
use Rattle.sendout.proofs.main.Goals as goal

pub convert-requires-clause-fits : goal.convert-requires-clause-fits
convert-requires-clause-fits c = λ text into answer printed n e q. counted_within _ into.now printed.now _ n e q

-- there is room for one byte more than is read
pub input_room : ◌≡◌ {A = ℕ} INPUT_ROOM (filter_size + 1)
input_room = refl

-- and for every text that is printed
pub output_room : ◌≡◌ {A = ℕ} OUTPUT_ROOM sent_bytes
output_room = refl
