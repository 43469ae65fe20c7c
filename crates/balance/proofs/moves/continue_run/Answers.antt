-- `balance::moves::continue_run` meets its contract: the promises of the runs and the moves, and the claim about what they give. Assumes nothing.
use Rattle.balance.proofs.MoveCalls.{answered, from-left, continued_claim}
use Rattle.balance.proofs.moves.continue_run.Goals as goal

pub returns : goal.returns
returns c =
    let e = c.run_and_move-before.ensures in
    let f = c.run-after.ensures in
    let g = c.run_and_move-whole.ensures in
    record { trace_after = e.trace_after; moved_value = answered _ _ _ e.moved_after; new_trace_after = from-left _ _ _ _ _ _ _ _ e.moved_after f; whole_trace_after = g.trace_after; whole_moved_after = g.moved_after; continued_calls = λ C. continued_claim _ _ _ _ _ _ _ _ _ _ _ _ _ _ _ _ _ _ _ _ _ _ _ _ _ _ _ _ _ _ _ e.trace_after e.moved_after f g.trace_after g.moved_after C }
