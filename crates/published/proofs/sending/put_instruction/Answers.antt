-- `published::sending::put_instruction` meets its contract. Assumes nothing.
use Rattle.published.specs.Published.{instruction_text}
use mathlib.Core.List.{append_assoc}
use Rattle.printing.proofs.WroteLaws.{then, as_text}
use Rattle.published.proofs.sending.put_instruction.Goals as goal

pub returns : goal.returns
unfolding instruction_text
returns c = as_text (simp append_assoc) (then c.put_opcode-v.ensures (then c.put_operand-w.ensures (then c.put_operand-x.ensures (then c.put_operand-y.ensures (then c.put_target-z.ensures c.put.ensures)))))
