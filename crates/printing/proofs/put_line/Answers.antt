-- `printing::put_line` meets its contract. Assumes nothing.
use Rattle.model.specs.Text.{spell_line}
use Rattle.printing.proofs.WroteLaws.{then}
use Rattle.printing.proofs.put_line.Goals as goal

pub returns : goal.returns
unfolding spell_line
returns c = then c.put_mark-marked.ensures (then c.put-parted.ensures (then c.put_opcode-named.ensures (then c.put_listed-placed.ensures c.put_rest.ensures)))
