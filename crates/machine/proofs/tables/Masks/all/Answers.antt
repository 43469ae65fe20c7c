-- `machine::tables::Masks::all` makes right masks: entry i is what `mask_at` gave at i. Assumes nothing.
use Rattle.std.proofs.Common.{arith, rules}
use Rattle.machine.proofs.tables.Masks.all.Goals as goal

pub invariant_of-result : goal.invariant_of-result
invariant_of-result c = record { right = λ i h. let called = (c.from_fn.ensures.items.at i 0 (omega arith)).2 in search rules }
