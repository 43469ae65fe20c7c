-- `machine::steps::Run::step` meets its contract: the numbers of the line at the counter, what it does, and its row in the store.
-- Assumes nothing.
use Rattle.std.proofs.Common.{ap, ◌∙◌}
use Rattle.model.specs.declared.Line.{Line}
use Rattle.model.specs.Places.{place}
use Rattle.model.specs.Stored.{line_at}
use Rattle.machine.proofs.Performed.{same_line, one_step}
use Rattle.machine.proofs.steps.Run.step.Goals as goal

pub returns : goal.returns
returns c =
    let a = c.args in record {
      stepped = one_step _ (line_at a.program.now a.self.counter) a.self a.state.now _ a.trace.now _ c.perform-done.result.next c.perform-done.result.bus c.perform-done.result.row
          (same_line _ a.program.now a.self.counter c.numbers_at-n.ensures) c.perform-done.ensures.next_and_row.0 c.perform-done.ensures.next_and_row.1 c.perform-done.ensures.bus_after.0 c.perform-done.ensures.state_after.0 c.write_row.ensures;
      bus_and_place = (c.perform-done.ensures.bus_after.1, c.perform-done.ensures.state_after.1 ∙ ap (λ (l : Line). place l.destination a.state.now) (same_line _ a.program.now a.self.counter c.numbers_at-n.ensures));
    }
