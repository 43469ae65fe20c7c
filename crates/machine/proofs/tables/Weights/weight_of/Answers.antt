-- `machine::tables::Weights::weight_of` meets its contract: the entry of the cell that has the number. Assumes nothing.
use Rattle.std.proofs.Common.{ap, ◌∙◌, arith}
use Rattle.model.specs.Step.{weight}
use Rattle.machine.proofs.NamedPlaces.{cell_address}
use Rattle.machine.proofs.tables.Weights.weight_of.Goals as goal

pub returns : goal.returns
returns c = c.args.self.now.right _ (omega arith) ∙ ap weight (cell_address c.args.n c.requires)
