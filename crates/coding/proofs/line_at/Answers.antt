-- `coding::line_at` meets its contract, from the six numbers. Assumes nothing.
use mathlib.Core.Path.{◌∙◌}
use Rattle.coding.proofs.line_at.Goals as goal

pub returns : goal.returns
returns c = c.line_of.ensures ∙ rw c.numbers_at-n.ensures
