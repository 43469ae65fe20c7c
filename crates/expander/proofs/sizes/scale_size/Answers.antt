-- `expander::sizes::scale_size` meets its contract. By whether the bits are spaced. Assumes nothing.
use mathlib.Core.Path.{sym}
use Rattle.model.proofs.Lengths.{scale-spaced, scale_near}
use Rattle.expander.proofs.sizes.scale_size.Goals as goal

pub returns-then-layout : goal.returns-then-layout
returns-then-layout c = sym (scale-spaced _ c.if-layout.true)

pub returns-else-layout : goal.returns-else-layout
returns-else-layout c = sym (scale_near _ c.if-layout.false)
