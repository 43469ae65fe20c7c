-- `images::places_right` meets its contract. The ranges of each kind, one after the other. Assumes nothing.
use mathlib.Core.Path.{refl}
use Rattle.images.proofs.KindRanges.{places_by_range}
use Rattle.images.proofs.places_right.Goals as goal

pub returns : goal.returns
returns c =
    let a = c.args in
    places_by_range a.layout a.image.now a.page.now _ _ _ _ c.requires.1 c.requires.0 refl c.are_either-registers.ensures c.are_either-cells.ensures c.has_page-same.ensures
