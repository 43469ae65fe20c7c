-- `text::read` meets its contract: what is left to read, with the lines so far, always comes to what the whole text comes to.
-- Assumes nothing.
use Prim.Native.Nat.{◌-◌}
use Rattle.model.specs.Limits.{max_lines}
use Rattle.text.proofs.ReadLaws.{Left}
use Rattle.text.proofs.read.Given as goal

abbrev pub invariant-loop-rest : goal.invariant-loop-rest
invariant-loop-rest l = Left l.text l.initial.store l.store l.rest l.room l.n

abbrev pub decreases-loop-rest : goal.decreases-loop-rest
decreases-loop-rest l = max_lines - l.n
