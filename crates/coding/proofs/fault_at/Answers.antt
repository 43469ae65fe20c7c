-- `coding::fault_at` meets its contract, from the six numbers. Assumes nothing.
use mathlib.Core.Path.{◌∙◌}
use Rattle.coding.proofs.fault_at.Goals as goal

pub returns : goal.returns
returns c = record { value = c.fault_number.ensures.value ∙ rw c.numbers_at-n.ensures; few = c.fault_number.ensures.few }
