-- `pieces::put_lookup` meets its contract. Its pieces, one after the other. Assumes nothing.
use native.Mathlib.Omega.{arith}
use Rattle.model.specs.Expansion.{lookup}
use Rattle.model.proofs.Lengths.{lookup_pieces}
use Rattle.pieces.proofs.StoreWrites.{wrote_then}
use Rattle.pieces.proofs.put_lookup.Goals as goal

pub put_load-loaded-requires : goal.put_load-loaded-requires
put_load-loaded-requires c = (omega arith, omega (arith, simp lookup_pieces at c.requires))

pub put_scale-scaled-requires : goal.put_scale-scaled-requires
put_scale-scaled-requires c = omega (arith, simp lookup_pieces at c.requires)

pub put_load-both-requires : goal.put_load-both-requires
put_load-both-requires c = (omega arith, omega (arith, simp lookup_pieces at c.requires))

pub put_combine-combined-requires : goal.put_combine-combined-requires
put_combine-combined-requires c = omega (arith, simp lookup_pieces at c.requires)

pub put_fetch-fetched-requires : goal.put_fetch-fetched-requires
put_fetch-fetched-requires c = omega (arith, simp lookup_pieces at c.requires)

pub put_write_back-requires : goal.put_write_back-requires
put_write_back-requires c = (omega arith, omega (arith, simp lookup_pieces at c.requires))

pub returns : goal.returns
unfolding lookup
returns c = wrote_then c.put_load-loaded.ensures (wrote_then c.put_scale-scaled.ensures (wrote_then c.put_load-both.ensures (wrote_then c.put_combine-combined.ensures (wrote_then c.put_fetch-fetched.ensures c.put_write_back.ensures))))
