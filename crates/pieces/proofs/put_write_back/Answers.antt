-- `pieces::put_write_back` meets its contract. The destination precharged and written. Assumes nothing.
use Rattle.model.specs.Expansion.{write_back}
use Rattle.pieces.proofs.PieceWrites.{write_back_wrote}
use borrow.Author.Rules.{rules}
use Rattle.pieces.proofs.put_write_back.Goals as goal

pub put_precharged-requires : goal.put_precharged-requires
unfolding write_back
put_precharged-requires c = search rules

pub returns : goal.returns
returns c = write_back_wrote _ _ c.requires.0 c.put_precharged.ensures
