-- `published::parts::after` meets its contract. Assumes nothing.
use Rattle.published.proofs.ReadingLaws.{after_cut}
use Rattle.published.proofs.parts.after.Goals as goal

pub returns : goal.returns
returns c = after_cut c.args.s.now c.args.n c.blanks-k.result c.blanks-k.ensures.0
