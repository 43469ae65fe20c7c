-- `pieces::put_fetch` meets its contract. Its three lines, one after the other. Assumes nothing.
use Rattle.model.specs.Expansion.{fetch}
use Rattle.pieces.proofs.PieceWrites.{fetch_wrote}
use borrow.Author.Rules.{rules}
use Rattle.pieces.proofs.put_fetch.Goals as goal

pub put_move-cleared-requires : goal.put_move-cleared-requires
unfolding fetch
put_move-cleared-requires c = search rules

pub put_move-loaded-requires : goal.put_move-loaded-requires
unfolding fetch
put_move-loaded-requires c = search rules

pub put_move-requires : goal.put_move-requires
unfolding fetch
put_move-requires c = search rules

pub returns : goal.returns
returns c = fetch_wrote _ _ _ c.table_cell-start.ensures c.table_cell.ensures c.put_move-cleared.ensures c.put_move-loaded.ensures c.put_move.ensures
