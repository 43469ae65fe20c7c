-- `published::sending::mark_targets` meets its contract: the targets of the lines so far are told. Assumes nothing.
use Rattle.published.proofs.SendLaws.{Marking}
use Rattle.published.proofs.sending.mark_targets.Given as goal

abbrev pub invariant-loop-i : goal.invariant-loop-i
invariant-loop-i l = Marking l.program l.used l.n l.i
