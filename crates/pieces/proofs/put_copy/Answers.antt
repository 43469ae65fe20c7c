-- `pieces::put_copy` meets its contract. Its pieces, one after the other. Assumes nothing.
use native.Mathlib.Omega.{arith}
use Rattle.model.specs.Expansion.{copy}
use Rattle.model.proofs.Lengths.{copy_pieces}
use Rattle.pieces.proofs.StoreWrites.{wrote_then}
use Rattle.pieces.proofs.put_copy.Goals as goal

pub put_load-loaded-requires : goal.put_load-loaded-requires
put_load-loaded-requires c = (omega arith, omega (arith, simp copy_pieces at c.requires))

pub put_write_back-requires : goal.put_write_back-requires
put_write_back-requires c = (omega arith, omega (arith, simp copy_pieces at c.requires))

pub returns : goal.returns
unfolding copy
returns c = wrote_then c.put_load-loaded.ensures c.put_write_back.ensures
