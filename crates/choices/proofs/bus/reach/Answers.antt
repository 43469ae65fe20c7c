-- `choices::bus::reach` meets its contract. The loop's invariant: the bus lists the addresses of the first j values. Assumes nothing.
use mathlib.Core.Path.{◌≡◌, ap, ◌∙◌}
use mathlib.Core.List.{List, map}
use Prim.Native.Nat.{ℕ, ◌*◌, ◌≤◌}
use native.Mathlib.Omega.{arith}
use lib.ListN.{take, length-map, length-take, length}
use lib.Seq.{take_all}
use Rattle.model.specs.Limits.{state_size}
use Rattle.model.proofs.TestLaws.{below}
use Rattle.model.specs.Stored.{operand_of}
use Rattle.sets.specs.Walk.{set_width, max_values, lists_of, values}
use Rattle.sets.specs.Addresses.{address_by, reached}
use Rattle.choices.proofs.SetBytes.{values-past, values_le}
use Rattle.choices.proofs.bus.reach.Goals as goal

sizes : (b : List ℕ) → length b ≡ set_width * state_size → (i : ℕ) → length (values (lists_of b) i) ≤ max_values
sizes b l i = below i state_size (values_le b l i) (λ h. rw (values-past b i h) (omega arith))

-- the addresses by the values of place i
abbrev reached-at : List ℕ → ℕ → ℕ → List ℕ
reached-at b n i = map (address_by (operand_of n)) (values (lists_of b) i)

pub push-requires : goal.push-requires
push-requires c =
    let vs = values (lists_of c.args.sets.now) c.base_of-at.result in
    omega (arith, ap length c.loop-j.invariant, length-map (take c.loop-j.j vs) (address_by (operand_of c.args.code)), length-take c.loop-j.j vs, c.size_of-j-end.ensures, sizes c.args.sets.now c.told-sets c.base_of-at.result)

pub returns : goal.returns
unfolding reached
returns c =
    let vs = values (lists_of c.args.sets.now) c.base_of-at.result in
    c.loop-j.invariant ∙ ap (map (address_by (operand_of c.args.code))) (take_all c.loop-j.j vs (omega (arith, c.size_of-j-end.ensures))) ∙ ap (λ (i : ℕ). reached-at c.args.sets.now c.args.code i) c.base_of-at.ensures
