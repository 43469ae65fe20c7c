-- `images::tables_of` meets its contract. By the spacing, each entry by the rule. Assumes nothing.
use mathlib.Core.Path.{refl}
use Rattle.model.specs.Code.{code, entry}
use Rattle.model.specs.Images.{map_at}
use Rattle.model.specs.Step.{alu}
use Rattle.images.specs.Pages.{entries}
use Rattle.images.proofs.tables_of.Goals as goal

pub returns-then-spaced : goal.returns-then-spaced
unfolding entries map_at entry code alu
returns-then-spaced c = rw c.if-spaced.true (record { and = refl; orr = refl; xor = refl })

pub returns-else-spaced : goal.returns-else-spaced
unfolding entries map_at entry code alu
returns-else-spaced c = rw c.if-spaced.false (record { and = refl; orr = refl; xor = refl })
