-- `printing::put_operand` meets its contract: the range picks the form of the model's operand. Assumes nothing.
use native.Mathlib.Omega.{arith}
use Rattle.model.specs.Text.{spell_operand}
use Rattle.model.proofs.Forms.{empty, literal, register, cell, public_cell, sensitive_cell, table_cell}
use Rattle.printing.proofs.WroteLaws.{nothing, at_most}
use Rattle.printing.proofs.put_operand.Goals as goal

pub returns-in_default : goal.returns-in_default
unfolding spell_operand
returns-in_default c = rw (empty c.args.k (omega arith)) (nothing c.args.out.now c.args.at 13)

pub returns-in-1-to-256 : goal.returns-in-1-to-256
unfolding spell_operand
returns-in-1-to-256 c = rw (literal c.args.k (omega arith) (omega arith)) (at_most (omega arith) c.put_tagged.ensures)

pub returns-in-257-to-288 : goal.returns-in-257-to-288
unfolding spell_operand
returns-in-257-to-288 c = rw (register c.args.k (omega arith) (omega arith)) (at_most (omega arith) c.put_tagged-in-257-to-288.ensures)

pub returns-in-289-to-800 : goal.returns-in-289-to-800
unfolding spell_operand
returns-in-289-to-800 c = rw (cell c.args.k (omega arith) (omega arith)) (at_most (omega arith) c.put_tagged-in-289-to-800.ensures)

pub returns-in-801-to-4896 : goal.returns-in-801-to-4896
unfolding spell_operand
returns-in-801-to-4896 c = rw (public_cell c.args.k (omega arith) (omega arith)) c.put_indirect.ensures

pub returns-in-4897-to-8992 : goal.returns-in-4897-to-8992
unfolding spell_operand
returns-in-4897-to-8992 c = rw (sensitive_cell c.args.k (omega arith) (omega arith)) c.put_indirect-in-4897-to-8992.ensures

pub returns-in-8993-to-65535 : goal.returns-in-8993-to-65535
unfolding spell_operand
returns-in-8993-to-65535 c = rw (table_cell c.args.k (omega arith)) c.put_indirect-in-8993-to-65535.ensures
