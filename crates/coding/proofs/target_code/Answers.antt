-- `coding::target_code` meets its contract. Assumes nothing.
use Rattle.coding.proofs.target_code.Goals as goal

pub returns-in-Line : goal.returns-in-Line
returns-in-Line c = rw c.in-Line.is c.low.ensures
