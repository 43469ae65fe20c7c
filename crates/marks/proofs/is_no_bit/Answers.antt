-- `marks::is_no_bit` meets its contract. Form by form, by the range of the number. Assumes nothing.
use native.Mathlib.Omega.{arith}
use Rattle.model.specs.Marks.{is_no_bit}
use Rattle.model.proofs.Forms.{empty, literal}
use Rattle.marks.proofs.NumberTests.{high_bit}
use Rattle.marks.proofs.is_no_bit.Goals as goal

pub returns-in-1-to-256 : goal.returns-in-1-to-256
unfolding is_no_bit
returns-in-1-to-256 c = rw (literal c.args.code (omega arith) (omega arith))

pub returns-in_default : goal.returns-in_default
unfolding is_no_bit
returns-in_default c = rw (empty c.args.code (omega arith))

pub returns-in_default-2 : goal.returns-in_default-2
returns-in_default-2 c = rw (high_bit c.args.code (omega arith))
