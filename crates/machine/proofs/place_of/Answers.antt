-- `machine::place_of` meets its contract, form by form: the tests are those that decode the number. Assumes nothing.
use Rattle.std.proofs.Common.{◌+◌, ap, arith}
use Rattle.model.specs.Places.{place}
use Rattle.model.proofs.Forms.{register, cell, public_cell, sensitive_cell, table_cell}
use Rattle.machine.proofs.place_of.Goals as goal

pub returns-in-0-to-288 : goal.returns-in-0-to-288
unfolding place
returns-in-0-to-288 c = rw (register c.args.code c.requires (omega arith))

pub returns-in-0-to-800 : goal.returns-in-0-to-800
unfolding place
returns-in-0-to-800 c = rw (cell c.args.code (omega arith) (omega arith))

pub returns-in-0-to-4896 : goal.returns-in-0-to-4896
unfolding place
returns-in-0-to-4896 c = rw (public_cell c.args.code (omega arith) (omega arith)) (ap (λ i. 32 + i) c.indirect.ensures)

pub returns-in-0-to-8992 : goal.returns-in-0-to-8992
unfolding place
returns-in-0-to-8992 c = rw (sensitive_cell c.args.code (omega arith) (omega arith)) (ap (λ i. 160 + i) c.indirect-in-0-to-8992.ensures)

pub returns-in_default : goal.returns-in_default
unfolding place
returns-in_default c = rw (table_cell c.args.code (omega arith)) (ap (λ i. 288 + i) c.indirect-in_default.ensures)
