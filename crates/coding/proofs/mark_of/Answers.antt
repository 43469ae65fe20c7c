-- `coding::mark_of` meets its contract: the code makes the definition's test. Assumes nothing.
use Rattle.coding.proofs.Tests.{tests}
use Rattle.coding.proofs.mark_of.Goals as goal

pub returns-then-code-eq0 : goal.returns-then-code-eq0
returns-then-code-eq0 c = search tests

pub returns-else-code-eq0 : goal.returns-else-code-eq0
returns-else-code-eq0 c = search tests
