-- `choices::bus::Bus::is_apart` meets its contract. The loop's invariant: the values that are left are at that distance exactly where all are. Assumes nothing.
use mathlib.Core.Path.{sym, ap, ◌∙◌}
use native.Mathlib.Omega.{arith}
use Rattle.choices.specs.Gathering.{all_at}
use Rattle.choices.proofs.Turns.{all_over, all_next, one_off}
use Rattle.choices.proofs.bus.Bus.is_apart.Goals as goal

pub returns-then-distance : goal.returns-then-distance
returns-then-distance c =
    sym (one_off _ _ c.args.distance c.args.x c.loop-value-test.true (λ q. c.if-distance.true (c.distance.ensures ∙ q))) ∙ c.loop-value.invariant ∙ ap (all_at c.args.distance c.args.x) c.self.view_is

pub loop-value-preserved : goal.loop-value-preserved
loop-value-preserved c = sym (all_next _ _ c.args.distance c.args.x c.loop-value-test.true (sym c.distance.ensures ∙ c.if-distance.false)) ∙ c.loop-value.invariant

pub returns : goal.returns
returns c = sym (all_over _ c.loop-value.value-index c.args.distance c.args.x (omega arith)) ∙ c.loop-value.invariant ∙ ap (all_at c.args.distance c.args.x) c.self.view_is
