-- `coding::layout_of` meets its contract. By the spacing. Assumes nothing.
use Rattle.coding.proofs.SixLayouts.{position_low, neighbouring, spaced_out}
use Rattle.coding.proofs.layout_of.Goals as goal

pub power-one-requires : goal.power-one-requires
power-one-requires c = position_low c.args.position c.args.spacing c.requires

pub returns-then-spacing-eq0 : goal.returns-then-spacing-eq0
returns-then-spacing-eq0 c = neighbouring _ _ _ c.power-one.ensures.0 c.if-spacing-eq0.true

pub returns : goal.returns
returns c = spaced_out _ _ _ c.power-one.ensures.0 c.if-spacing-eq0.false
