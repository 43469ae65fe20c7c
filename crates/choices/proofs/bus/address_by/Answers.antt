-- `choices::bus::address_by` meets its contract, form by form: the tests are those that decode the number. Assumes nothing.
use mathlib.Core.Path.{◌≡◌, refl, sym}
use Prim.Native.Nat.{ℕ, ◌<◌}
use native.Mathlib.Omega.{arith}
use Rattle.model.specs.Stored.{cells, operand_of}
use Rattle.model.proofs.Forms.{by_form, cell, public_cell, sensitive_cell, table_cell}
use Rattle.sets.specs.Addresses.{address_by}
use Rattle.choices.proofs.bus.address_by.Goals as goal

none : (n v : ℕ) → n < cells → address_by (operand_of n) v ≡ 0
unfolding address_by
none n v h =
    by_form n (λ o. address_by o v ≡ 0) (λ l. refl) (λ g l. refl) (λ g l. refl) (λ g l. absurd (omega arith))
    (λ g l. absurd (omega arith)) (λ g l. absurd (omega arith)) (λ g. absurd (omega arith))

pub returns-in-0-to-288 : goal.returns-in-0-to-288
returns-in-0-to-288 c = sym (none _ _ (omega arith))

pub returns-in-289-to-800 : goal.returns-in-289-to-800
unfolding address_by
returns-in-289-to-800 c = rw (cell c.args.code (omega arith) (omega arith))

pub returns-in-801-to-4896 : goal.returns-in-801-to-4896
unfolding address_by
returns-in-801-to-4896 c = rw (public_cell c.args.code (omega arith) (omega arith))

pub returns-in-4897-to-8992 : goal.returns-in-4897-to-8992
unfolding address_by
returns-in-4897-to-8992 c = rw (sensitive_cell c.args.code (omega arith) (omega arith))

pub returns-in-8993-to-65535 : goal.returns-in-8993-to-65535
unfolding address_by
returns-in-8993-to-65535 c = rw (table_cell c.args.code (omega arith))
