-- `coding::kind_at` meets its contract: its ranges are the definition's. Assumes nothing.
use Rattle.model.specs.Places.{kind}
use Rattle.coding.proofs.Tests.{tests}
use Rattle.coding.proofs.kind_at.Goals as goal

pub returns-in-4-to-15 : goal.returns-in-4-to-15
unfolding kind
returns-in-4-to-15 c = search tests

pub returns-in-4-to-15-2 : goal.returns-in-4-to-15-2
unfolding kind
returns-in-4-to-15-2 c = search tests

pub returns-in-16-to-31 : goal.returns-in-16-to-31
unfolding kind
returns-in-16-to-31 c = search tests

pub returns-in-16-to-31-2 : goal.returns-in-16-to-31-2
unfolding kind
returns-in-16-to-31-2 c = search tests

pub returns-in_default : goal.returns-in_default
unfolding kind
returns-in_default c = search tests

pub returns-in_default-2 : goal.returns-in_default-2
unfolding kind
returns-in_default-2 c = search tests
