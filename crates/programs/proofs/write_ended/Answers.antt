-- `programs::write_ended` meets its contract: the rows of the steps done are a part of the trace store. Assumes nothing.
use mathlib.Core.Path.{sym}
use Prim.Native.Nat.{◌*◌}
use native.Mathlib.Omega.{arith}
use lib.Seq.{length-take-le}
use Rattle.model.specs.Limits.{row_width}
use Rattle.programs.specs.Running.{ended_text}
use Rattle.programs.proofs.write_ended.Goals as goal

pub slice_bounds-write_lines-end : goal.slice_bounds-write_lines-end
slice_bounds-write_lines-end c = sym (length-take-le _ _ c.requires.1)

pub write_lines-requires : goal.write_lines-requires
write_lines-requires c = let e = length-take-le (row_width * c.args.steps) c.args.trace.now c.requires.1 in (omega arith, omega (arith, e, c.requires.0, c.requires.1, c.requires.2))

pub returns : goal.returns
unfolding ended_text
returns c = c.write_lines.ensures
