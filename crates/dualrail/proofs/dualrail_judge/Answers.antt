-- `dualrail::dualrail_judge` meets its contract: the verdict, packed. Assumes nothing.
use mathlib.Core.Path.{ap, ◌∙◌}
use Rattle.dualrail.specs.Packing.{packed_run}
use Rattle.dualrail.proofs.dualrail_judge.Goals as goal

pub returns : goal.returns
returns c = c.pack_judged.ensures ∙ ap packed_run c.judge.ensures
