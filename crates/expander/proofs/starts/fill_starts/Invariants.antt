-- `expander::starts::fill_starts` meets its contract. The loop's invariant: the sum is the start of line i, and the starts up to
-- it stand in the array. Assumes nothing.
use Prim.Native.Nat.{◌≤◌, ◌*◌}
use mathlib.Core.Path.{◌≡◌}
use Rattle.model.specs.Limits.{longest}
use Rattle.model.specs.Stored.{lines}
use Rattle.model.specs.Expansion.{start}
use Rattle.expander.proofs.StartTable.{UpTo}
use Rattle.expander.proofs.starts.fill_starts.Given as goal

abbrev pub invariant-loop-i : goal.invariant-loop-i
invariant-loop-i l = (l.sum ≤ longest * l.i) × (l.sum ≡ start l.layout (lines l.program) l.i) × UpTo l.layout l.starts (lines l.program) l.i
