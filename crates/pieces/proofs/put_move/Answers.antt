-- `pieces::put_move` meets its contract. The empty field has the number 0. Assumes nothing.
use Rattle.model.specs.Stored.{operand_of}
use Rattle.pieces.proofs.put_move.Goals as goal

pub returns : goal.returns
unfolding operand_of
returns c = c.put_marked.ensures
