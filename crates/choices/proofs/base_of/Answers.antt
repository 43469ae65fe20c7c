-- `choices::base_of` meets its contract, form by form: the tests are those that decode the number. Assumes nothing.
use mathlib.Core.Path.{◌≡◌, refl, sym}
use Prim.Native.Nat.{ℕ, ◌<◌}
use native.Mathlib.Omega.{arith}
use Rattle.model.specs.Limits.{state_size}
use Rattle.model.specs.Stored.{publics, operand_of}
use Rattle.model.proofs.Forms.{by_form, public_cell, sensitive_cell, table_cell}
use Rattle.sets.specs.Walk.{base}
use Rattle.choices.proofs.base_of.Goals as goal

no-base : (n : ℕ) → n < publics → base (operand_of n) ≡ state_size
unfolding base
no-base n h =
    by_form n (λ o. base o ≡ state_size) (λ l. refl) (λ g l. refl) (λ g l. refl) (λ g l. refl)
    (λ g l. absurd (omega arith)) (λ g l. absurd (omega arith)) (λ g. absurd (omega arith))

pub returns-in-0-to-800 : goal.returns-in-0-to-800
returns-in-0-to-800 c = sym (no-base _ (omega arith))

pub returns-in-801-to-4896 : goal.returns-in-801-to-4896
unfolding base
returns-in-801-to-4896 c = rw (public_cell c.args.code (omega arith) (omega arith))

pub returns-in-4897-to-8992 : goal.returns-in-4897-to-8992
unfolding base
returns-in-4897-to-8992 c = rw (sensitive_cell c.args.code (omega arith) (omega arith))

pub returns-in-8993-to-65535 : goal.returns-in-8993-to-65535
unfolding base
returns-in-8993-to-65535 c = rw (table_cell c.args.code (omega arith))
