-- `pieces::table_cell` meets its contract. The number of that operand. Assumes nothing.
use Rattle.pieces.proofs.PartNumbers.{table_number}
use borrow.Author.Rules.{rules}
use Rattle.pieces.proofs.table_cell.Goals as goal

pub returns : goal.returns
returns c = table_number _ _ c.requires (search rules)
