-- `balance::moves::move_home` meets its contract: the promises of the two moves, and the claim about what they give. Assumes nothing.
use Rattle.balance.proofs.MoveCalls.{home_claim}
use Rattle.balance.proofs.moves.move_home.Goals as goal

pub returns-clause-back_value : goal.returns-clause-back_value
returns-clause-back_value c =
    let a = c.args in
    λ g h. home_claim a.old_position a.old_spacing a.new_position a.new_spacing a.image.now a.moved.now _ a.home.now _ _ _ c.move_image-there.ensures c.move_image-back.ensures g h
