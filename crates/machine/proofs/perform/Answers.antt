-- `machine::perform` meets its contract: the parts of a step from what each call gives; the place is the one that was replaced. Assumes nothing.
use Rattle.std.proofs.Common.{refl}
use Rattle.model.specs.Stored.{opcode_of, line_of}
use Rattle.machine.proofs.NamedPlaces.{place_most, fetched_most, cell_by, fetched_by}
use Rattle.machine.proofs.RowsRead.{stands}
use Rattle.machine.proofs.Performed.{performed}
use Rattle.machine.proofs.perform.Goals as goal

pub put_on_bus-first-requires : goal.put_on_bus-first-requires
put_on_bus-first-requires c = (fetched_most c.args.state.now c.args.a _ c.fetch-x.ensures, fetched_by c.args.state.now c.args.a _ c.fetch-x.ensures, c.requires.1)

pub put_on_bus-second-requires : goal.put_on_bus-second-requires
put_on_bus-second-requires c = (fetched_most c.args.state.now c.args.b _ c.fetch-y.ensures, fetched_by c.args.state.now c.args.b _ c.fetch-y.ensures, c.put_on_bus-first.ensures.1)

pub mask_arguments-args-requires : goal.mask_arguments-args-requires
mask_arguments-args-requires c =
    let a = c.args in
    (fetched_most a.state.now a.a _ c.fetch-x.ensures, fetched_most a.state.now a.b _ c.fetch-y.ensures)

pub put_on_bus-destination-requires : goal.put_on_bus-destination-requires
put_on_bus-destination-requires c = (rw c.replace-written.ensures.replaced.0 (place_most c.args.state.now c.args.d), rw c.replace-written.ensures.replaced.0 (cell_by c.args.state.now c.args.d), c.put_on_bus-second.ensures.1)

pub returns : goal.returns
returns c =
    let a = c.args in
    let done =
    performed (line_of a.m a.o a.d a.a a.b a.t) a.counter a.state.now _ a.bus
    c.mark_of-mark.result (opcode_of a.o) c.is_taken-jumps.result c.fetch-x.result c.fetch-y.result c.mask_arguments-args.result
    c.replace-written.result.at _ _ _ _ c.put_on_bus-first.result c.put_on_bus-second.result c.put_on_bus-destination.result c.row_of.result
    c.mark_of-mark.ensures refl c.fetch-x.ensures c.fetch-y.ensures c.mask_arguments-args.ensures c.alu-result.ensures c.is_taken-jumps.ensures c.target_line.ensures c.advanced-next.ensures
    c.replace-written.ensures.replaced.0 c.replace-written.ensures.replaced.1 c.replace-written.ensures.state_after (stands a.a a.state.now) (stands a.b a.state.now) (stands a.d a.state.now)
    c.put_on_bus-first.ensures.0 c.put_on_bus-second.ensures.0 c.put_on_bus-destination.ensures.0 c.row_of.ensures in
    record { next_and_row = (done.0, done.1); bus_after = (done.2, c.put_on_bus-destination.ensures.1); state_after = (done.3, c.replace-written.ensures.replaced.0) }
