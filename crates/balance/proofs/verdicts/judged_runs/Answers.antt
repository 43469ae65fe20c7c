-- `balance::verdicts::judged_runs` meets its contract: the promises of `judge` and of the two runs, and the claim about what they give. Assumes nothing.
use Rattle.balance.proofs.VerdictCalls.{judged_claim}
use Rattle.balance.proofs.verdicts.judged_runs.Goals as goal

pub returns-clause-as_judged : goal.returns-clause-as_judged
returns-clause-as_judged c = λ D h. judged_claim _ _ _ _ _ _ _ _ _ _ c.judge.ensures c.run.ensures c.run-2.ensures D h
