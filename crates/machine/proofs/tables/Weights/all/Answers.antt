-- `machine::tables::Weights::all` makes right weights: entry i is what `address_weight` gave at i. Assumes nothing.
use Rattle.std.proofs.Common.{arith, rules}
use Rattle.machine.proofs.tables.Weights.all.Goals as goal

pub invariant_of-result : goal.invariant_of-result
invariant_of-result c = record { right = λ i h. let called = (c.from_fn.ensures.items.at i 0 (omega arith)).2 in search rules }
