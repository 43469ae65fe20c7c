-- `expand::main` is safe and ends: what is counted of the printed text stands in its room. Assumes nothing.
use Prim.Native.Nat.{ℕ, ◌+◌}
use mathlib.Core.Path.{◌≡◌, refl}
use Rattle.lines.proofs.SharedLaws.{counted_within}
use Rattle.model.specs.Programs.{input_size}
use Rattle.programs.specs.Sizes.{expansion_bytes}
use Rattle.expand.specs.declared.TheConstants.{INPUT_ROOM, OUTPUT_ROOM}
use Rattle.expand.proofs.main.Goals as goal

pub convert-requires-clause-fits : goal.convert-requires-clause-fits
convert-requires-clause-fits c = λ text into answer printed n e q. counted_within _ into.now printed.now _ n e q

-- there is room for one byte more than is read
pub input_room : ◌≡◌ {A = ℕ} INPUT_ROOM (input_size + 1)
input_room = refl

-- and for the text of every expansion
pub output_room : ◌≡◌ {A = ℕ} OUTPUT_ROOM expansion_bytes
output_room = refl
