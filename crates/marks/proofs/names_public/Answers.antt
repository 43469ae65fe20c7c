-- `marks::names_public` meets its contract. Range by range. Assumes nothing.
use native.Mathlib.Omega.{arith}
use Rattle.marks.proofs.NumberTests.{high_public, indirect_public, cell_public, below_cells}
use Rattle.marks.proofs.names_public.Goals as goal

pub returns-in_default : goal.returns-in_default
returns-in_default c = below_cells c.args.code (omega arith)

pub returns-in-289-to-800 : goal.returns-in-289-to-800
returns-in-289-to-800 c = cell_public c.args.code (omega arith) (omega arith)

pub returns-in-801-to-4896 : goal.returns-in-801-to-4896
returns-in-801-to-4896 c = indirect_public c.args.code (omega arith) (omega arith)

pub returns-in-4897-to-65535 : goal.returns-in-4897-to-65535
returns-in-4897-to-65535 c = high_public c.args.code (omega arith)
