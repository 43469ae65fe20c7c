-- `choices::bus::addressed` meets its contract: the tests in their order. Assumes nothing.
use mathlib.Core.Path.{sym, ◌∙◌}
use Rattle.model.specs.Places.{has_address}
use Rattle.sets.proofs.Buses.{taken-first, taken_second, taken_third, taken_none}
use Rattle.choices.proofs.bus.addressed.Goals as goal

pub returns-then-has_address : goal.returns-then-has_address
returns-then-has_address c = let first = sym c.has_address.ensures ∙ c.if-has_address.true in (sym (taken-first _ _ _ first), first)

pub returns-then-has_address-2 : goal.returns-then-has_address-2
returns-then-has_address-2 c =
    let second = sym c.has_address-else-has_address.ensures ∙ c.if-has_address-2.true in
    (sym (taken_second _ _ _ (sym c.has_address.ensures ∙ c.if-has_address.false) second), second)

pub returns-then-has_address-3 : goal.returns-then-has_address-3
returns-then-has_address-3 c =
    let third = sym c.has_address-else-has_address-2.ensures ∙ c.if-has_address-3.true in
    (sym (taken_third _ _ _ (sym c.has_address.ensures ∙ c.if-has_address.false) (sym c.has_address-else-has_address.ensures ∙ c.if-has_address-2.false) third), third)

pub returns-else-has_address-3 : goal.returns-else-has_address-3
unfolding has_address
returns-else-has_address-3 c =
    rw (taken_none _ _ _ (sym c.has_address.ensures ∙ c.if-has_address.false) (sym c.has_address-else-has_address.ensures ∙ c.if-has_address-2.false) (sym c.has_address-else-has_address-2.ensures ∙ c.if-has_address-3.false))
