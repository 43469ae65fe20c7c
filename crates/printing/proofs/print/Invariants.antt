-- `printing::print` meets its contract: what is left to print, after the bytes so far, always gives the whole text. Assumes nothing.
use Rattle.printing.proofs.PrintLaws.{Printed}
use Rattle.printing.proofs.print.Given as goal

abbrev pub invariant-loop-i : goal.invariant-loop-i
invariant-loop-i l = Printed l.program l.initial.out l.out l.n l.at l.i
