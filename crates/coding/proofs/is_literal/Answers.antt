-- `coding::is_literal` meets its contract, by the law on a literal's number. Assumes nothing.
use Rattle.coding.proofs.Faults.{literal_number}
use Rattle.coding.proofs.Tests.{tests}
use Rattle.coding.proofs.is_literal.Goals as goal

pub returns-then-code-lt-LITERALS : goal.returns-then-code-lt-LITERALS
returns-then-code-lt-LITERALS c = rw literal_number (search tests)

pub returns-else-code-lt-LITERALS : goal.returns-else-code-lt-LITERALS
returns-else-code-lt-LITERALS c = rw literal_number (search tests)
