-- `images::bits_right` meets its contract. The ranges of each kind, one after the other. Assumes nothing.
use Rattle.images.proofs.KindRanges.{bits_by_range}
use Rattle.images.proofs.bits_right.Goals as goal

pub returns : goal.returns
returns c =
    bits_by_range c.args.bits.now _ _ _ _ c.requires c.are_either-scratch.ensures c.are_either-registers.ensures c.are_either-cells.ensures c.are_either-page.ensures
