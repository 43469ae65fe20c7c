-- `marks::has_macro` meets its contract. By the number. Assumes nothing.
use Rattle.marks.proofs.NumberTests.{macro_number}
use Rattle.marks.proofs.has_macro.Goals as goal

pub returns : goal.returns
returns c = macro_number c.args.o
