-- `coding::code_of` meets its contract. By whether the bit is 0. Assumes nothing.
use Rattle.model.proofs.ExpansionLaws.{code-zero, code_more}
use Rattle.coding.proofs.code_of.Goals as goal

pub returns-then-bit-eq0 : goal.returns-then-bit-eq0
returns-then-bit-eq0 c = code-zero _ _ c.if-bit-eq0.true

pub returns-else-bit-eq0 : goal.returns-else-bit-eq0
returns-else-bit-eq0 c = code_more _ _ c.if-bit-eq0.false
