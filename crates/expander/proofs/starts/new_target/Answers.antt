-- `expander::starts::new_target` meets its contract. By whether there is a target. Assumes nothing.
use mathlib.Core.Path.{ap}
use Prim.Native.Nat.{ℕ, ◌%◌}
use native.Mathlib.Omega.{arith}
use borrow.Author.Tests.{eq-eqb, ne_eqb}
use Rattle.model.specs.Stored.{target_of}
use Rattle.model.specs.Expansion.{new_target}
use Rattle.expander.proofs.starts.new_target.Goals as goal

pub returns-then-t-eq0 : goal.returns-then-t-eq0
unfolding new_target target_of
returns-then-t-eq0 c = rw (eq-eqb _ _ c.if-t-eq0.true)

pub returns : goal.returns
unfolding new_target target_of
returns c = rw (ne_eqb _ _ c.if-t-eq0.false, ← c.start_at.ensures) (ap (λ (n : ℕ). n % 65536) (omega arith))
