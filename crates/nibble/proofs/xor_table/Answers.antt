-- `nibble::xor_table` meets its contract. The constant is, entry for entry, what the rule gives: one computation over all 4,096, zeros
-- included. `xor_at` carries it to each entry (proofs/TableLaws).
-- Assumes nothing.
use mathlib.Core.Path.{refl}
use Rattle.nibble.specs.Nibbles.{entries, xor_entry}
use Rattle.nibble.proofs.xor_table.Goals as goal

pub returns : goal.returns
unfolding entries xor_entry
returns c = refl
