-- `pieces::put_flip` meets its contract. Its line. Assumes nothing.
use Rattle.model.specs.Expansion.{flip}
use Rattle.pieces.proofs.PieceWrites.{flip_wrote}
use borrow.Author.Rules.{rules}
use Rattle.pieces.proofs.put_flip.Goals as goal

pub put_marked-requires : goal.put_marked-requires
unfolding flip
put_marked-requires c = search rules

pub returns : goal.returns
returns c = flip_wrote _ _ c.literal.ensures c.put_marked.ensures
