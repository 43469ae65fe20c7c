-- `choices::value_beside` meets its contract. Assumes nothing.
use Rattle.coding.proofs.Tests.{tests}
use Rattle.choices.proofs.value_beside.Goals as goal

pub returns-then-j-eq0 : goal.returns-then-j-eq0
returns-then-j-eq0 c = search tests

pub returns : goal.returns
returns c = search tests
