-- `walk::is_sized` meets its contract. The loop's invariant: the counts that are left are right exactly where all are. Assumes nothing.
use mathlib.Core.Path.{sym, ◌∙◌}
use Rattle.choices.proofs.Turns.{sized_empty, sized_long, sized-next, sized-over}
use Rattle.walk.proofs.is_sized.Goals as goal
use Rattle.walk.proofs.is_sized.Goals.{then-n-eq0-via-then-n-eq0, then-n-eq0-via-else-n-eq0+then-n-gt-MAX_VALUES}

pub returns-then-n-eq0 : goal.returns-then-n-eq0
returns-then-n-eq0 c = elim c.then-n-eq0.branch [
  | then-n-eq0-via-then-n-eq0 w ↦ sym (sized_empty _ c.loop-i.i c.loop-i-test.true w.if-n-eq0.true) ∙ c.loop-i.invariant
  | then-n-eq0-via-else-n-eq0+then-n-gt-MAX_VALUES w ↦ sym (sized_long _ c.loop-i.i c.loop-i-test.true w.if-n-gt-MAX_VALUES.true) ∙ c.loop-i.invariant
]

pub loop-i-preserved : goal.loop-i-preserved
loop-i-preserved c = sym (sized-next _ c.loop-i.i c.loop-i-test.true c.if-n-eq0.false c.if-n-gt-MAX_VALUES.false) ∙ c.loop-i.invariant

pub returns : goal.returns
returns c = sym (sized-over _ c.loop-i.i c.loop-i-test.false) ∙ c.loop-i.invariant
