-- `pieces::put_code_bit` meets its contract. Its two lines, one after the other. Assumes nothing.
use Rattle.pieces.proofs.PieceWrites.{code_bit_wrote}
use Rattle.pieces.proofs.put_code_bit.Goals as goal

pub returns : goal.returns
returns c = code_bit_wrote _ _ c.requires.0 c.table_cell.ensures c.put_marked-masked.ensures c.put_move.ensures
