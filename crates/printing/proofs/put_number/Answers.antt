-- `printing::put_number` meets its contract. Assumes nothing.
use Rattle.model.specs.Text.{decimal}
use Rattle.printing.proofs.WroteLaws.{then}
use Rattle.printing.proofs.put_number.Goals as goal

pub returns : goal.returns
unfolding decimal
returns c = then c.put_digit-a.ensures (then c.put_digit-b.ensures (then c.put_digit-c.ensures (then c.put_digit-d.ensures c.put.ensures)))
