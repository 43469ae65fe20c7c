-- `watch::run_lines` meets its contract: the laws of `Going` in proofs/WatchLaws. Assumes nothing.
use Rattle.std.proofs.Common.{arith, lit<}
use Rattle.machine.specs.Loop.{machine}
use Rattle.machine.proofs.Loops.{tally}
use Rattle.watch.proofs.WatchLaws.{begins_at, ends_halted, ends_spent, goes_to}
use Rattle.watch.proofs.run_lines.Goals as goal

pub loop-run-init : goal.loop-run-init
loop-run-init c =
    let x = c.args in
    rw c.new-run.ensures (lit< tt, begins_at x.program.now x.start x.budget x.state.now x.trace.now x.watches.now _ c.requires c.begin.ensures)

pub returns-then-budget-run : goal.returns-then-budget-run
returns-then-budget-run c =
    let x = c.args in
    let l = c.loop-run in
    rw c.spent.ensures (ends_spent x.program.now x.start x.budget x.state.now x.trace.now x.watches.now l.run l.state l.trace l.watches l.invariant.1 c.loop-run-test.true c.if-budget-run.true)

pub loop-run-smaller : goal.loop-run-smaller
loop-run-smaller c =
    let l = c.loop-run in
    omega (arith, tally c.args.program.now (machine l.run l.state l.trace) _ c.step-stepped.ensures.stepped)

pub loop-run-preserved : goal.loop-run-preserved
loop-run-preserved c =
    let x = c.args in
    let l = c.loop-run in
    let f = c.step-stepped in (
      f.ensures.bus_and_place.0,
      goes_to x.program.now x.start x.budget x.state.now x.trace.now x.watches.now l.run l.state l.trace l.watches l.invariant.1 f.result _ _ _
          (omega (arith, c.ranges.budget)) c.loop-run-test.true c.if-budget-run.false f.ensures.stepped f.ensures.bus_and_place.1 f.auto.trace c.note.ensures,
    )

pub returns : goal.returns
returns c =
    let x = c.args in
    let l = c.loop-run in
    rw c.halted.ensures (ends_halted x.program.now x.start x.budget x.state.now x.trace.now x.watches.now l.run l.state l.trace l.watches l.invariant.1 c.loop-run-test.false)
