-- `marks::kind_of` meets its contract. Form by form, by the range of the number. Assumes nothing.
use native.Mathlib.Omega.{arith}
use Rattle.model.specs.Places.{kind_of}
use Rattle.model.proofs.Forms.{register, cell, public_cell, sensitive_cell, table_cell}
use Rattle.marks.proofs.NumberTests.{low-kind}
use Rattle.marks.proofs.kind_of.Goals as goal

pub returns-in-257-to-288 : goal.returns-in-257-to-288
unfolding kind_of
returns-in-257-to-288 c = rw (register c.args.code (omega arith) (omega arith)) c.kind_at.ensures

pub returns-in-289-to-800 : goal.returns-in-289-to-800
unfolding kind_of
returns-in-289-to-800 c = rw (cell c.args.code (omega arith) (omega arith)) c.kind_at-in-289-to-800.ensures

pub returns-in-801-to-4896 : goal.returns-in-801-to-4896
unfolding kind_of
returns-in-801-to-4896 c = rw (public_cell c.args.code (omega arith) (omega arith))

pub returns-in-4897-to-8992 : goal.returns-in-4897-to-8992
unfolding kind_of
returns-in-4897-to-8992 c = rw (sensitive_cell c.args.code (omega arith) (omega arith))

pub returns-in_default : goal.returns-in_default
returns-in_default c = rw (low-kind c.args.code (omega arith))

pub returns-in_default-2 : goal.returns-in_default-2
unfolding kind_of
returns-in_default-2 c = rw (table_cell c.args.code (omega arith))
