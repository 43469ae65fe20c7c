-- `published::sending::put_based` meets its contract. Assumes nothing.
use Rattle.published.specs.Published.{based}
use Rattle.printing.proofs.WroteLaws.{then}
use Rattle.published.proofs.sending.put_based.Goals as goal

pub returns : goal.returns
unfolding based
returns c = then c.put-x.ensures (then c.put_tagged-y.ensures c.put_tagged.ensures)
