-- `marks::is_usual` meets its contract. Range by range. Assumes nothing.
use native.Mathlib.Omega.{arith}
use Rattle.marks.proofs.UsualOperands.{low-usual, cell_usual, indirect-usual, table_usual}
use Rattle.marks.proofs.is_usual.Goals as goal

pub returns-in-0-to-288 : goal.returns-in-0-to-288
returns-in-0-to-288 c = low-usual c.args.code (omega arith)

pub returns-in-289-to-800 : goal.returns-in-289-to-800
returns-in-289-to-800 c = cell_usual c.args.code (omega arith) (omega arith)

pub returns-in-801-to-8992 : goal.returns-in-801-to-8992
returns-in-801-to-8992 c = indirect-usual c.args.code (omega arith) (omega arith)

pub returns-in-8993-to-65535 : goal.returns-in-8993-to-65535
returns-in-8993-to-65535 c = table_usual c.args.code (omega arith)
