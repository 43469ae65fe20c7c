-- `balance::follow` meets its contract. The promises of `run` and `from_image`, and the claim about what they give.
-- Assumes nothing.
use Rattle.balance.proofs.EntryRuns.{follow_claim}
use Rattle.balance.proofs.follow.Goals as goal

pub returns-clause-following_calls : goal.returns-clause-following_calls
returns-clause-following_calls c = λ W. follow_claim _ _ _ _ _ _ _ _ _ _ _ _ _ _ _ _ _ _ _ _ _ c.run.ensures c.run-2.ensures c.from_image.ensures W
