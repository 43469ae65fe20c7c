-- `marks::is_above` meets its contract, by the law on a target's number. Assumes nothing.
use Rattle.marks.proofs.NumberTests.{above}
use Rattle.marks.proofs.is_above.Goals as goal

pub returns : goal.returns
returns c = above c.args.t c.args.count
