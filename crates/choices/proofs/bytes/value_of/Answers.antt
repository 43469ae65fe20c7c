-- `choices::bytes::value_of` meets its contract. Assumes nothing.
use mathlib.Core.Path.{◌≡◌, sym, ap, ◌∙◌}
use mathlib.Core.List.{List, [], ◌∷◌}
use Prim.Native.Nat.{ℕ, ◌<◌}
use native.Mathlib.Omega.{arith}
use lib.ListN.{length, get_or}
use Rattle.choices.proofs.SetBytes.{values-past, values_le, value_at}
use Rattle.choices.proofs.bytes.value_of.Goals as goal

only_zero : (xs : List ℕ) (j : ℕ) → xs ≡ 0 ∷ [] → j < length xs → 0 ≡ get_or xs j 0
only_zero xs j e h =
    let z : j ≡ 0 = omega (arith, ap length e) in
    sym (ap (λ (ys : List ℕ). get_or ys j 0) e ∙ ap (λ (k : ℕ). get_or (0 ∷ []) k 0) z)

pub returns-then-i-ge-STATE_SIZE : goal.returns-then-i-ge-STATE_SIZE
returns-then-i-ge-STATE_SIZE c = only_zero _ _ (values-past _ _ c.if-i-ge-STATE_SIZE.true) c.requires

pub overflow_add-result-2 : goal.overflow_add-result-2
overflow_add-result-2 c = omega (arith, values_le c.args.sets.now c.told-sets c.args.i c.if-i-ge-STATE_SIZE.false, c.requires)

pub bounds-sets-i : goal.bounds-sets-i
bounds-sets-i c = omega (arith, values_le c.args.sets.now c.told-sets c.args.i c.if-i-ge-STATE_SIZE.false, c.told-sets, c.requires)

pub returns : goal.returns
returns c = value_at _ c.told-sets _ c.if-i-ge-STATE_SIZE.false _ c.requires
