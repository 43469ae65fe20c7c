-- `coding::numbers_at` meets its contract: a whole line, a line past the end, and the numbers that are left over. Assumes nothing.
use Rattle.coding.proofs.Numbers.{same_numbers, past_numbers}
use Rattle.coding.proofs.numbers_at.Goals as goal

pub returns-then-count-i : goal.returns-then-count-i
returns-then-count-i c = past_numbers c.args.program.now c.args.i c.if-count-i.true

pub returns : goal.returns
returns c = same_numbers _ _ _ _ _ _ _ _ _ _ _ _ c.number_at.ensures c.number_at-2.ensures c.number_at-3.ensures c.number_at-4.ensures c.number_at-5.ensures c.number_at-6.ensures
