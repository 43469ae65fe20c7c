-- `pieces::put_precharged` meets its contract. Its two lines, one after the other. Assumes nothing.
use Rattle.pieces.proofs.PieceWrites.{precharged_wrote}
use Rattle.pieces.proofs.put_precharged.Goals as goal

pub returns : goal.returns
returns c = precharged_wrote _ _ c.put_move-cleared.ensures c.put_move.ensures
