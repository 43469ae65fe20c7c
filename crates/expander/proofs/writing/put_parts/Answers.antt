-- `expander::writing::put_parts` meets its contract. The loop's invariant: the parts of the first i lines are written, up to `at`. Assumes nothing.
use native.Mathlib.Omega.{arith}
use Rattle.expander.specs.Starts.{looked_up}
use Rattle.expander.proofs.JoinedParts.{no_parts, next-part, part_room, all_parts}
use Rattle.expander.proofs.writing.put_parts.Goals as goal

pub loop-i-init : goal.loop-i-init
loop-i-init c = no_parts c.args.layout c.args.program.now c.args.out.now (looked_up c.args.starts.now)

pub put_part-at-requires : goal.put_part-at-requires
put_part-at-requires c = part_room c.args.layout c.args.program.now c.args.out.now (looked_up c.args.starts.now) c.loop-i.i c.requires c.loop-i-test.true c.loop-i.invariant

pub loop-i-preserved : goal.loop-i-preserved
loop-i-preserved c = next-part c.args.layout c.args.program.now c.args.out.now (looked_up c.args.starts.now) c.loop-i.i c.loop-i-test.true c.loop-i.invariant c.put_part-at.ensures

pub shape_of-out : goal.shape_of-out
shape_of-out c = c.loop-i.invariant.long

pub returns : goal.returns
returns c = all_parts c.args.layout c.args.program.now c.args.out.now (looked_up c.args.starts.now) c.loop-i.i (omega arith) c.loop-i.invariant
