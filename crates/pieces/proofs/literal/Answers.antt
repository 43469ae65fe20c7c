-- `pieces::literal` meets its contract. The number of that operand. Assumes nothing.
use Rattle.pieces.proofs.PartNumbers.{literal_number}
use borrow.Author.Rules.{rules}
use Rattle.pieces.proofs.literal.Goals as goal

pub returns : goal.returns
returns c = literal_number _ (search rules)
