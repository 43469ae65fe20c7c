-- `expander::sizes::lookup_size` meets its contract. The lengths of the pieces are added. Assumes nothing.
use native.Mathlib.Omega.{arith}
use Rattle.model.specs.Stored.{operand_of}
use Rattle.model.specs.Expansion.{coded, combine, fetch, write_back}
use Rattle.model.proofs.Loads.{load_bounds}
use Rattle.model.proofs.Lengths.{scale_bounds, lookup_pieces}
use Rattle.expander.proofs.sizes.lookup_size.Goals as goal

pub overflow_add-result : goal.overflow_add-result
overflow_add-result c = record { fits = omega (arith, load_bounds 1 (coded c.args.layout (operand_of c.args.a)), c.load_size.ensures c.args.layout 1, scale_bounds c.args.layout, c.scale_size.ensures) }

pub overflow_add-result-2 : goal.overflow_add-result-2
overflow_add-result-2 c = record { fits = omega (arith, load_bounds 1 (coded c.args.layout (operand_of c.args.a)), c.load_size.ensures c.args.layout 1, scale_bounds c.args.layout, c.scale_size.ensures, load_bounds 2 (coded c.args.layout (operand_of c.args.b)), c.load_size-2.ensures c.args.layout 2) }

pub overflow_add-result-3 : goal.overflow_add-result-3
overflow_add-result-3 c = record { fits = omega (arith, load_bounds 1 (coded c.args.layout (operand_of c.args.a)), c.load_size.ensures c.args.layout 1, scale_bounds c.args.layout, c.scale_size.ensures, load_bounds 2 (coded c.args.layout (operand_of c.args.b)), c.load_size-2.ensures c.args.layout 2) }

pub returns : goal.returns
unfolding combine fetch write_back
returns c =
    λ t d.
    rw lookup_pieces (omega (arith, c.load_size.ensures c.args.layout 1, c.scale_size.ensures, c.load_size-2.ensures c.args.layout 2))
