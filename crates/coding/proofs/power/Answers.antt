-- `coding::power` meets its contract: a position is 0, 1 or 2. Assumes nothing.
use Prim.Native.Nat.{ℕ, zero, suc, ◌<◌, ◌≤◌, ◌*◌, ◌^◌, ◌%◌}
use mathlib.Core.Path.{◌≡◌, refl}
use native.Mathlib.Omega.{arith}
use Rattle.coding.proofs.power.Goals as goal

low : (p : ℕ) → p < 3 → (1 * 2 ^ p % 256 ≡ 2 ^ p) × (1 * 2 ^ p % 256 ≤ 4)
low zero h = (refl, omega arith)
low (suc zero) h = (refl, omega arith)
low (suc (suc zero)) h = (refl, omega arith)
low (suc (suc (suc p))) h = absurd (omega arith)

pub returns : goal.returns
returns c = low _ c.requires
