-- `published::sending::read_through` meets its contract: what is left to read gives the answer. Assumes nothing.
use Prim.Native.Nat.{◌-◌}
use Rattle.model.specs.Limits.{max_lines}
use Rattle.published.proofs.LongTexts.{Through}
use Rattle.published.proofs.sending.read_through.Given as goal

abbrev pub invariant-loop-rest : goal.invariant-loop-rest
invariant-loop-rest l = Through l.text l.rest l.n

abbrev pub decreases-loop-rest : goal.decreases-loop-rest
decreases-loop-rest l = max_lines - l.n
