-- `marks::is_reserved` meets its contract. Form by form, by the range of the number. Assumes nothing.
use native.Mathlib.Omega.{arith}
use Rattle.model.specs.Marks.{is_reserved}
use Rattle.model.proofs.Forms.{register, cell, public_cell, sensitive_cell, table_cell}
use Rattle.marks.proofs.NumberTests.{low_free}
use Rattle.marks.proofs.is_reserved.Goals as goal

pub returns-in_default : goal.returns-in_default
returns-in_default c = rw (low_free c.args.code (omega arith))

pub returns-in-257-to-288 : goal.returns-in-257-to-288
unfolding is_reserved
returns-in-257-to-288 c = rw (register c.args.code (omega arith) (omega arith))

pub returns-in-289-to-800 : goal.returns-in-289-to-800
unfolding is_reserved
returns-in-289-to-800 c = rw (cell c.args.code (omega arith) (omega arith))

pub returns-in-801-to-4896 : goal.returns-in-801-to-4896
unfolding is_reserved
returns-in-801-to-4896 c = rw (public_cell c.args.code (omega arith) (omega arith))

pub returns-in-4897-to-8992 : goal.returns-in-4897-to-8992
unfolding is_reserved
returns-in-4897-to-8992 c = rw (sensitive_cell c.args.code (omega arith) (omega arith))

pub returns-in-8993-to-65535 : goal.returns-in-8993-to-65535
unfolding is_reserved
returns-in-8993-to-65535 c = rw (table_cell c.args.code (omega arith))
