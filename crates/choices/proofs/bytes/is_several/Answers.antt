-- `choices::bytes::is_several` meets its contract. Assumes nothing.
use mathlib.Core.Path.{ap}
use Prim.Native.Nat.{ℕ}
use lib.Dec.{ltb}
use Rattle.choices.proofs.bytes.is_several.Goals as goal

pub returns : goal.returns
returns c = ap (λ (n : ℕ). ltb 1 n) c.size_of.ensures
