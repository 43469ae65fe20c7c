-- `pieces::put_marked` meets its contract. Without a target, whose number is 0. Assumes nothing.
use mathlib.Core.Path.{refl}
use Rattle.model.specs.declared.Target.TheVariants.{Empty}
use Rattle.pieces.proofs.put_marked.Goals as goal

pub returns : goal.returns
returns c = c.put_line.ensures Empty refl
