-- `expander::writing::put_parts` meets its contract. The loop's invariant: the parts of the first i lines are written, up to `at`. Assumes nothing.
use lib.ListN.{take}
use Rattle.model.specs.Stored.{lines}
use Rattle.model.specs.Expansion.{joined}
use Rattle.expander.specs.Starts.{looked_up}
use Rattle.pieces.specs.Writes.{Wrote}
use Rattle.expander.proofs.writing.put_parts.Given as goal

abbrev pub invariant-loop-i : goal.invariant-loop-i
invariant-loop-i l = Wrote l.initial.out l.out 0 l.at (joined l.layout (looked_up l.starts) (take l.i (lines l.program)))
