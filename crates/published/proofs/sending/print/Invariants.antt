-- `published::sending::print` meets its contract: line after line, what is left gives the whole text. Assumes nothing.
use Rattle.published.proofs.SendLaws.{Printed}
use Rattle.published.proofs.sending.print.Given as goal

abbrev pub invariant-loop-i : goal.invariant-loop-i
invariant-loop-i l = Printed l.program l.initial.out l.out l.n l.at l.i
