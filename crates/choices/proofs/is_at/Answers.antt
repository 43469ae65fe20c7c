-- `choices::is_at` meets its contract. The loop's invariant: the old values from j on are at that distance exactly where all are. Assumes nothing.
use mathlib.Core.Path.{sym, ap, ◌∙◌}
use Prim.Native.Nat.{ℕ}
use native.Mathlib.Omega.{arith}
use Rattle.model.specs.Step.{distance}
use Rattle.choices.proofs.Turns.{all_over, all_next, one_off}
use Rattle.choices.proofs.is_at.Goals as goal

pub returns-then-distance_of-distance : goal.returns-then-distance_of-distance
returns-then-distance_of-distance c = sym (one_off _ c.loop-j.j c.args.distance c.args.res (omega (arith, c.size_of-j-end.ensures)) (λ q. c.if-distance_of-distance.true (c.distance_of.ensures ∙ ap (λ (v : ℕ). distance v c.args.res) c.value_of.ensures ∙ q))) ∙ c.loop-j.invariant

pub loop-j-preserved : goal.loop-j-preserved
loop-j-preserved c = sym (all_next _ c.loop-j.j c.args.distance c.args.res (omega (arith, c.size_of-j-end.ensures)) (sym (c.distance_of.ensures ∙ ap (λ (v : ℕ). distance v c.args.res) c.value_of.ensures) ∙ c.if-distance_of-distance.false)) ∙ c.loop-j.invariant

pub returns : goal.returns
returns c = sym (all_over _ c.loop-j.j c.args.distance c.args.res (omega (arith, c.size_of-j-end.ensures))) ∙ c.loop-j.invariant
