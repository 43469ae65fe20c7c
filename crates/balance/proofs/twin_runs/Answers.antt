-- `balance::twin_runs` meets its contract. The two promises of `run`, and the claim about what they give.
-- Assumes nothing.
use Rattle.balance.proofs.EntryRuns.{twin_claim}
use Rattle.balance.proofs.twin_runs.Goals as goal

pub returns-clause-same_calls : goal.returns-clause-same_calls
returns-clause-same_calls c = λ W. twin_claim _ _ _ _ _ _ _ _ _ c.run.ensures c.run-2.ensures W
