-- `edges::notation::weight` meets its contract: a number to 32,767 has a negative of 16 bits. Assumes nothing.
use Prim.Native.Nat.{ℕ, zero, suc, ◌<◌}
use native.Mathlib.Omega.{arith}
use borrow.Author.Tests.{lt-ltb}
use lib.IntN.{pos, ◌-ℤ◌}
use mir.Syntax.{w16}
use mir.Val.{SFits, to_z}
use mir.ValLaws.{to_z_pos}
use Rattle.edges.proofs.notation.weight.Goals as goal

negative_fits : (n : ℕ) → n < 32768 → SFits w16 (pos 0 -ℤ to_z w16 n)
negative_fits n h = rw (to_z_pos w16 n h) (go n h)
  where
    go : (n : ℕ) → n < 32768 → SFits w16 (pos 0 -ℤ pos n)
    go zero h = record { sfits = omega arith }
    go (suc n) h = rw (lt-ltb 0 (suc n) (omega arith)) (record { sfits = omega arith })

pub overflow_sub-result : goal.overflow_sub-result
overflow_sub-result c = negative_fits c.min-size.result (omega (arith, c.min-size.ensures))
