-- `balance::moves::moved_twins` meets its contract: the promises of the moves and of `twin_runs`, and the claim about what they give. Assumes
-- nothing.
use Rattle.balance.proofs.MoveCalls.{answered, from-left, moved_twins_claim}
use Rattle.balance.proofs.moves.moved_twins.Goals as goal

pub returns : goal.returns
returns c =
    let e = c.move_image.ensures in
    let f = c.move_image-2.ensures in
    let t = c.twin_runs.ensures in
    let a = c.args in record { one_value = answered _ _ _ e; other_value = answered _ _ _ f; trace_after = from-left _ _ _ _ _ _ _ _ e t.trace_after; twin_after = from-left _ _ _ _ _ _ _ _ f t.twin_after; same_calls = λ g h T. moved_twins_claim a.one_position a.one_spacing a.other_position a.other_spacing a.position a.spacing a.one_image.now a.other_image.now a.one.now a.other.now _ _ _ _ _ _ _ _ _ _ _ e f t.same_calls g h T }
