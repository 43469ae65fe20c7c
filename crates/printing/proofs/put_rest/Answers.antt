-- `printing::put_rest` meets its contract. Assumes nothing.
use Rattle.printing.proofs.WroteLaws.{then}
use Rattle.printing.proofs.put_rest.Goals as goal

pub returns : goal.returns
returns c = then c.put_listed-d.ensures (then c.put_listed-e.ensures (then c.put-f.ensures (then c.put_target-g.ensures c.put.ensures)))
