-- `choices::is_same` meets its contract. The loop's invariant: the rows from i on are the same exactly where the rows are. Assumes nothing.
use mathlib.Core.Path.{sym, ◌∙◌}
use native.Mathlib.Omega.{arith}
use Rattle.choices.proofs.Turns.{rows_over, rows_next, rows_not}
use Rattle.choices.proofs.is_same.Goals as goal

pub returns-then-a-i : goal.returns-then-a-i
returns-then-a-i c = sym (rows_not _ _ c.loop-i.i (omega (arith, c.told-a)) (omega (arith, c.told-b)) c.if-a-i.true) ∙ c.loop-i.invariant

pub loop-i-preserved : goal.loop-i-preserved
loop-i-preserved c = sym (rows_next _ _ c.loop-i.i (omega (arith, c.told-a)) (omega (arith, c.told-b)) c.if-a-i.false) ∙ c.loop-i.invariant

pub returns : goal.returns
returns c = sym (rows_over _ _ c.loop-i.i (omega (arith, c.told-a)) (omega (arith, c.told-b))) ∙ c.loop-i.invariant
