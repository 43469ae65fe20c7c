-- `machine::tables::Weights::distance_of` meets its contract: the bits that differ are those of an address. Assumes nothing.
use lib.Bits.{xor_lt}
use Rattle.model.specs.Step.{distance}
use Rattle.machine.proofs.tables.Weights.distance_of.Goals as goal

pub weight_of-requires : goal.weight_of-requires
weight_of-requires c = let p = c.requires in let a = c.args in xor_lt 9 a.x a.y p.0 p.1

pub returns : goal.returns
unfolding distance
returns c = c.weight_of.ensures
