-- `printing::size::text_size` meets its contract: the bytes so far and those of the lines left are always those of the text. Assumes nothing.
use Rattle.printing.proofs.PrintLaws.{Sized}
use Rattle.printing.proofs.size.text_size.Given as goal

abbrev pub invariant-loop-i : goal.invariant-loop-i
invariant-loop-i l = Sized l.program l.n l.size l.i
