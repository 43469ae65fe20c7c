-- `coding::target_of` meets its contract: the code makes the definition's test. Assumes nothing.
use Rattle.model.specs.Stored.{target_of}
use Rattle.coding.proofs.Tests.{tests}
use Rattle.coding.proofs.target_of.Goals as goal

pub returns-then-code-eq0 : goal.returns-then-code-eq0
unfolding target_of
returns-then-code-eq0 c = search tests

pub returns-else-code-eq0 : goal.returns-else-code-eq0
unfolding target_of
returns-else-code-eq0 c = search tests
