-- `pieces::put_negate` meets its contract. Its pieces, one after the other. Assumes nothing.
use native.Mathlib.Omega.{arith}
use Rattle.model.specs.Expansion.{negate}
use Rattle.model.proofs.Lengths.{negate_pieces}
use Rattle.pieces.proofs.StoreWrites.{wrote_then}
use Rattle.pieces.proofs.put_negate.Goals as goal

pub put_load-loaded-requires : goal.put_load-loaded-requires
put_load-loaded-requires c = (omega arith, omega (arith, simp negate_pieces at c.requires))

pub put_flip-flipped-requires : goal.put_flip-flipped-requires
put_flip-flipped-requires c = omega (arith, simp negate_pieces at c.requires)

pub put_write_back-requires : goal.put_write_back-requires
put_write_back-requires c = (omega arith, omega (arith, simp negate_pieces at c.requires))

pub returns : goal.returns
unfolding negate
returns c = wrote_then c.put_load-loaded.ensures (wrote_then c.put_flip-flipped.ensures c.put_write_back.ensures)
