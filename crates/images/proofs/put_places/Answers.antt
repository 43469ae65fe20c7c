-- `images::put_places` meets its contract. The ranges of each kind, one after the other. Assumes nothing.
use Rattle.images.proofs.KindRanges.{placed_by_range}
use Rattle.images.proofs.put_places.Goals as goal

pub returns : goal.returns
returns c =
    let a = c.args in
    placed_by_range a.key a.x a.y a.from.now a.into.now c.requires.0 c.requires.1 c.fill.new.self c.copy_from_slice.new.self c.choose.new.into c.copy_from_slice-2.new.self
    c.choose-2.new.into c.fill-2.new.self (c.fill.ensures.after (λ y e. e)) c.copy_from_slice.ensures.after c.choose.ensures c.copy_from_slice-2.ensures.after
    c.choose-2.ensures (c.fill-2.ensures.after (λ y e. e))
