-- `machine::run_lines` meets its contract. The loop's invariant: the steps that are left give the same outcome as the whole run.
-- The measure is what is left of the budget. Assumes nothing.
use Rattle.std.proofs.Common.{◌≡◌, ◌-◌, ◌<◌, ◌≤◌, length}
use Rattle.model.specs.Stored.{line_count}
use Rattle.machine.specs.Loop.{addresses, machine, run_from}
use Rattle.machine.proofs.run_lines.Given as goal

abbrev pub invariant-loop-run : goal.invariant-loop-run
invariant-loop-run l =
    (l.run.steps ≤ l.budget) × (l.run.bus < addresses) × (length l.state ≡ length l.initial.state) × (length l.trace ≡ length l.initial.trace)
    × (run_from l.program (line_count l.program) (l.budget - l.run.steps) (machine l.run l.state l.trace) ≡ run_from l.program (line_count l.program) l.budget (machine (record { counter = l.start; steps = 0; bus = 0 }) l.initial.state l.initial.trace))

abbrev pub decreases-loop-run : goal.decreases-loop-run
decreases-loop-run l = l.budget - l.run.steps
