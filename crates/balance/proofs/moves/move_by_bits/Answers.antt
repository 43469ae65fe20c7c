-- `balance::moves::move_by_bits` meets its contract: the promises of the three calls, and the claim about what they give. Assumes nothing.
use Rattle.balance.proofs.MoveCalls.{by_bits_claim}
use Rattle.balance.proofs.moves.move_by_bits.Goals as goal

pub returns-clause-bits_value : goal.returns-clause-bits_value
returns-clause-bits_value c =
    let a = c.args in
    λ h l m. by_bits_claim a.old_position a.old_spacing a.new_position a.new_spacing a.from.now a.moved.now _ a.bits.now _ a.image.now _ _ _ _ c.move_image.ensures c.from_image.ensures c.to_image.ensures h l m
