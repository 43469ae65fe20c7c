-- `printing::put_indirect` meets its contract. Assumes nothing.
use Rattle.model.specs.Text.{indirect}
use Rattle.printing.proofs.WroteLaws.{then}
use Rattle.printing.proofs.put_indirect.Goals as goal

pub returns : goal.returns
unfolding indirect
returns c = then c.put-x.ensures (then c.put_tagged-y.ensures c.put_tagged.ensures)
