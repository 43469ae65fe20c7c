-- `choices::bus::are_met` meets its contract. The loop's invariant: the addresses from j on are at that distance exactly where all are.
-- Assumes nothing.
use mathlib.Core.Path.{◌≡◌, refl, sym, ap, ap₂, ◌∙◌}
use mathlib.Core.Bool.{Bool, true, false}
use mathlib.Core.List.{List, [], ◌∷◌}
use Prim.Native.Nat.{ℕ, ◌+◌, ◌≤◌, ◌<◌}
use native.Mathlib.Omega.{arith}
use borrow.Author.Tests.{eq-eqb}
use lib.Dec.{ltb, ltb→lt}
use lib.ListN.{length, get_or, drop, length-map}
use Rattle.model.specs.declared.Operand.{Operand}
use Rattle.model.proofs.TestLaws.{holds, and_both}
use Rattle.model.specs.Step.{distance}
use Rattle.model.specs.Stored.{operand_of}
use Rattle.sets.specs.Walk.{Sets, lists_of, values, base}
use Rattle.sets.specs.Addresses.{address_by, reached}
use Rattle.choices.specs.Gathering.{all_at}
use Rattle.choices.specs.Bus.{all_met, met_by}
use Rattle.choices.proofs.SetBytes.{map_at_lem}
use Rattle.choices.proofs.Turns.{met_over, met_next, not_met}
use Rattle.choices.proofs.bus.are_met.Goals as goal

-- address number j
module _ (S : Sets) (o : Operand) where
  reached-size : length (reached S o) ≡ length (values S (base o))
  unfolding reached
  reached-size = length-map (values S (base o)) (address_by o)

  reached-at : (j : ℕ) → j < length (values S (base o)) → {i v x : ℕ} → i ≡ base o → v ≡ get_or (values S i) j 0 → x ≡ address_by o v → x ≡ get_or (reached S o) j 0
  unfolding reached
  reached-at j h e q p = p ∙ ap (address_by o) (q ∙ ap (λ (i : ℕ). get_or (values S i) j 0) e) ∙ sym (map_at_lem (address_by o) (values S (base o)) j h)

  -- address j compared, x being that address
  module _ (bus : List ℕ) (d j : ℕ) (h : j < length (values S (base o))) {x : ℕ} (e : x ≡ get_or (reached S o) j 0) {a : Bool} (q : a ≡ all_at d x bus) where
    within : j < length (reached S o)
    within = omega (arith, reached-size)

    here : all_at d (get_or (reached S o) j 0) bus ≡ a
    here = sym (q ∙ ap (λ (x : ℕ). all_at d x bus) e)

    goes_on : a ≡ true → {r : Bool} → all_met d bus (drop j (reached S o)) ≡ r → all_met d bus (drop (j + 1) (reached S o)) ≡ r
    goes_on t i = sym (met_next (reached S o) j d bus within (here ∙ t)) ∙ i

    ends : a ≡ false → {r : Bool} → all_met d bus (drop j (reached S o)) ≡ r → false ≡ r
    ends t i = sym (not_met (reached S o) j d bus within (here ∙ t)) ∙ i

  over : (bus : List ℕ) (d j : ℕ) → length (values S (base o)) ≤ j → {r : Bool} → all_met d bus (drop j (reached S o)) ≡ r → true ≡ r
  over bus d j h i = sym (met_over (reached S o) j d bus (omega (arith, reached-size))) ∙ i

  -- one value on the bus, and one address
  alone : (bus : List ℕ) → length bus ≡ 1 → length (values S (base o)) ≡ 1 → true ≡ met_by bus (reached S o)
  unfolding all_met all_at
  alone bus h g = go bus (reached S o) h (reached-size ∙ g)
    where
      go : (bs xs : List ℕ) → length bs ≡ 1 → length xs ≡ 1 → true ≡ met_by bs xs
      go (b ∷ []) (x ∷ []) h g = rw (eq-eqb (distance b x) (distance b x) refl) refl
      go [] xs h g = absurd (omega arith)
      go (b ∷ c ∷ bs) xs h g = absurd (omega arith)
      go (b ∷ []) [] h g = absurd (omega arith)
      go (b ∷ []) (x ∷ y ∷ xs) h g = absurd (omega arith)

pub returns-then-is_alone : goal.returns-then-is_alone
returns-then-is_alone c =
    let S = lists_of c.args.sets.now in
    let b = c.args.bus.now in
    let h = holds (sym c.is_alone.ensures ∙ c.if-is_alone.true) in
    let q = and_both (ltb c.size_of-n.result 2) (ltb c.count.result 2) h in
    alone S (operand_of c.args.code) b (omega (arith, c.requires.1, c.count.ensures, ltb→lt c.count.result 2 q.1))
    (rw (← c.base_of-at.ensures) (omega (arith, c.requires.0 c.base_of-at.result, c.size_of-n.ensures, ltb→lt c.size_of-n.result 2 q.0)))

pub loop-j-init : goal.loop-j-init
loop-j-init c =
    let b = c.args.bus.now in
    let xs = reached (lists_of c.args.sets.now) (operand_of c.args.code) in
    let a = reached-at (lists_of c.args.sets.now) (operand_of c.args.code) 0 (rw (← c.base_of-at.ensures) (c.requires.0 c.base_of-at.result)) c.base_of-at.ensures c.value_of.ensures c.address_by.ensures in
    ap (λ (d : ℕ). all_met d b xs) (c.distance-first.ensures ∙ ap₂ distance c.first.ensures a)

pub returns-then-not-is_apart : goal.returns-then-not-is_apart
returns-then-not-is_apart c =
    let S = lists_of c.args.sets.now in
    let o = operand_of c.args.code in
    let h : c.loop-j.j < length (values S (base o)) = rw (← c.base_of-at.ensures) (omega (arith, c.size_of-n.ensures)) in
    ends S o c.args.bus.now c.distance-first.result c.loop-j.j h (reached-at S o c.loop-j.j h c.base_of-at.ensures c.value_of-in-loop-j.ensures c.address_by-in-loop-j.ensures) c.is_apart.ensures c.if-not-is_apart.true c.loop-j.invariant

pub loop-j-preserved : goal.loop-j-preserved
loop-j-preserved c =
    let S = lists_of c.args.sets.now in
    let o = operand_of c.args.code in
    let h : c.loop-j.j < length (values S (base o)) = rw (← c.base_of-at.ensures) (omega (arith, c.size_of-n.ensures)) in
    goes_on S o c.args.bus.now c.distance-first.result c.loop-j.j h (reached-at S o c.loop-j.j h c.base_of-at.ensures c.value_of-in-loop-j.ensures c.address_by-in-loop-j.ensures) c.is_apart.ensures c.if-not-is_apart.false c.loop-j.invariant

pub returns : goal.returns
returns c =
    let S = lists_of c.args.sets.now in
    let o = operand_of c.args.code in
    over S o c.args.bus.now c.distance-first.result c.loop-j.j (rw (← c.base_of-at.ensures) (omega (arith, c.size_of-n.ensures))) c.loop-j.invariant
