-- `dualrail::dualrail_check` meets its contract. The packed answer is read off the entry point's promise.
-- Assumes nothing.
use mathlib.Core.Path.{ap, ◌∙◌}
use Rattle.dualrail.specs.Packing.{packed}
use Rattle.dualrail.proofs.dualrail_check.Goals as goal

pub returns : goal.returns
returns c = c.pack.ensures ∙ ap packed c.check.ensures
