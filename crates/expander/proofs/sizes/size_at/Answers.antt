-- `expander::sizes::size_at` meets its contract. By the mark: one line, or the macro of the opcode and its arguments. Assumes nothing.
use mathlib.Core.Path.{refl, ◌∙◌}
use Rattle.expander.proofs.PartSizes.{plain_length, marked_length}
use Rattle.expander.proofs.sizes.size_at.Goals as goal

pub returns-then-mark-eq0 : goal.returns-then-mark-eq0
returns-then-mark-eq0 c = plain_length c.args.layout c.args.program.now _ c.args.i c.numbers_at.ensures c.if-mark-eq0.true

pub returns-else-mark-eq0 : goal.returns-else-mark-eq0
returns-else-mark-eq0 c =
    c.macro_size.ensures _
    ∙ marked_length c.args.layout c.args.program.now _ c.args.i c.numbers_at.ensures _ _ _ refl c.if-mark-eq0.false refl refl
