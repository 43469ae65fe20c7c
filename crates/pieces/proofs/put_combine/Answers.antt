-- `pieces::put_combine` meets its contract. Its two lines, one after the other. Assumes nothing.
use Rattle.model.specs.Expansion.{combine}
use Rattle.pieces.proofs.PieceWrites.{combine_wrote}
use borrow.Author.Rules.{rules}
use Rattle.pieces.proofs.put_combine.Goals as goal

pub put_marked-masked-requires : goal.put_marked-masked-requires
unfolding combine
put_marked-masked-requires c = search rules

pub put_marked-requires : goal.put_marked-requires
unfolding combine
put_marked-requires c = search rules

pub returns : goal.returns
returns c = combine_wrote _ _ c.literal.ensures c.put_marked-masked.ensures c.put_marked.ensures
