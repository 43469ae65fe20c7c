-- `machine::run_lines` meets its contract. The loop's invariant: the steps that are left give the same outcome as the whole run.
-- The measure is what is left of the budget. Assumes nothing.
use Rattle.std.proofs.Common.{sym, ◌∙◌, arith}
use Rattle.machine.specs.Loop.{machine}
use Rattle.machine.proofs.Loops.{halts, spends, goes_on, tally}
use Rattle.machine.proofs.run_lines.Goals as goal

pub returns-then-budget-run : goal.returns-then-budget-run
returns-then-budget-run c =
    let l = c.loop-run in
    rw c.spent.ensures (sym (spends _ _ _ (machine l.run l.state l.trace) c.loop-run-test.true (omega arith)) ∙ l.invariant.4)

pub loop-run-smaller : goal.loop-run-smaller
loop-run-smaller c =
    let l = c.loop-run in
    omega (arith, tally c.args.program.now (machine l.run l.state l.trace) _ c.step.ensures.stepped)

pub loop-run-preserved : goal.loop-run-preserved
loop-run-preserved c =
    let l = c.loop-run in
    let f = c.step in
    let p = c.args.program.now in (
      omega (arith, tally p (machine l.run l.state l.trace) _ f.ensures.stepped),
      f.ensures.bus_and_place.0,
      f.auto.state ∙ l.invariant.2,
      f.auto.trace ∙ l.invariant.3,
      goes_on p _ _ (machine l.run l.state l.trace) _ _ c.loop-run-test.true c.if-budget-run.false f.ensures.stepped l.invariant.4,
    )

pub returns : goal.returns
returns c =
    let l = c.loop-run in
    rw c.halted.ensures (sym (halts _ _ _ (machine l.run l.state l.trace) c.loop-run-test.false) ∙ l.invariant.4)
