-- `choices::bytes::is_overfull` meets its contract. Assumes nothing.
use mathlib.Core.Path.{sym, ap}
use Prim.Native.Nat.{ℕ}
use lib.Dec.{ltb}
use Rattle.sets.specs.Walk.{max_values, set_width}
use Rattle.choices.proofs.SetBytes.{listed-few}
use Rattle.choices.proofs.bytes.is_overfull.Goals as goal

pub returns : goal.returns
returns c =
    let x = c.args in
    ap (λ (n : ℕ). ltb max_values n) (sym (listed-few x.found.now set_width c.told-found c.requires))
