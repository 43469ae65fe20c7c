-- `expander::writing::put_part` meets its contract. By the line's mark. Assumes nothing.
use native.Mathlib.Omega.{arith}
use Rattle.expander.specs.Starts.{looked_up}
use Rattle.expander.proofs.PartSizes.{plain_length, marked_length, plain_wrote, marked_wrote}
use Rattle.expander.proofs.writing.put_part.Goals as goal

pub put_line-requires : goal.put_line-requires
put_line-requires c = omega (arith, plain_length c.args.layout c.args.program.now _ c.args.i c.numbers_at.ensures c.if-mark-eq0.true, c.requires)

pub returns-then-mark-eq0 : goal.returns-then-mark-eq0
returns-then-mark-eq0 c =
    plain_wrote c.args.layout (looked_up c.args.starts.now) c.args.program.now _ c.args.i _ c.numbers_at.ensures c.opcode_of-o.ensures c.if-mark-eq0.true
    (c.put_line.ensures _ c.new_target-start.ensures)

pub put_macro-requires : goal.put_macro-requires
put_macro-requires c = omega (arith, marked_length c.args.layout c.args.program.now _ c.args.i c.numbers_at.ensures _ _ _ c.opcode_of-o.ensures c.if-mark-eq0.false c.coded-a.ensures c.coded-b.ensures, c.requires)

pub returns : goal.returns
returns c =
    marked_wrote c.args.layout (looked_up c.args.starts.now) c.args.program.now _ c.args.i _ c.numbers_at.ensures c.opcode_of-o.ensures _ _ c.if-mark-eq0.false c.coded-a.ensures c.coded-b.ensures
    c.put_macro.ensures
