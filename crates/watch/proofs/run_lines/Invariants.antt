-- `watch::run_lines` meets its contract. The loop's invariant is `Going` of proofs/WatchLaws. The measure is what is left of the budget. Assumes nothing.
use Rattle.std.proofs.Common.{◌-◌, ◌<◌}
use Rattle.machine.specs.Loop.{addresses}
use Rattle.watch.proofs.WatchLaws.{Going}
use Rattle.watch.proofs.run_lines.Given as goal

abbrev pub invariant-loop-run : goal.invariant-loop-run
invariant-loop-run l = (l.run.bus < addresses) × Going l.program l.start l.budget l.fn.state l.fn.trace l.fn.watches l.run l.state l.trace l.watches

abbrev pub decreases-loop-run : goal.decreases-loop-run
decreases-loop-run l = l.budget - l.run.steps
