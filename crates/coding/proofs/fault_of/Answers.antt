-- `coding::fault_of` meets its contract: the number is told, and its condition. Assumes nothing.
use mathlib.Core.Path.{sym, ◌∙◌}
use native.Mathlib.Omega.{arith}
use Rattle.coding.proofs.Programs.{some_fault}
use Rattle.coding.proofs.fault_of.Goals as goal

pub returns-then-number-eq0 : goal.returns-then-number-eq0
returns-then-number-eq0 c = sym c.if-number-eq0.true ∙ c.fault_number-number.ensures.value

pub condition_of-requires : goal.condition_of-requires
condition_of-requires c = some_fault _ c.fault_number-number.ensures.few c.if-number-eq0.false

pub returns : goal.returns
returns c = c.condition_of.ensures ∙ c.fault_number-number.ensures.value
