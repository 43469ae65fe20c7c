-- `machine::tables::address_weight` meets its contract: a cell has an address, and any other place has none. Assumes nothing.
use Rattle.std.proofs.Common.{sym, ap, ◌∙◌}
use lib.Count.{ones}
use Rattle.model.specs.Step.{weight}
use Rattle.machine.proofs.NamedPlaces.{cell_range, no_address, in_cell}
use Rattle.machine.proofs.tables.address_weight.Goals as goal

pub returns-then-is_cell : goal.returns-then-is_cell
returns-then-is_cell c =
    let r = cell_range c.args.at (sym c.is_cell.ensures ∙ c.if-is_cell.true) in
    c.weight.ensures ∙ ap weight (sym (in_cell c.args.at r.0 r.1))

pub returns-else-is_cell : goal.returns-else-is_cell
unfolding ones
returns-else-is_cell c = rw (no_address c.args.at (sym c.is_cell.ensures ∙ c.if-is_cell.false))
