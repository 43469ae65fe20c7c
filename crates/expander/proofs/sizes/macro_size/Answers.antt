-- `expander::sizes::macro_size` meets its contract. An arm for each number that has a macro: the lengths of its pieces are added. Assumes nothing.
use mathlib.Core.Path.{sym, ap, ◌∙◌}
use native.Mathlib.Omega.{arith}
use lib.ListN.{length}
use Rattle.model.specs.Layouts.{neighbours}
use Rattle.model.specs.Stored.{operand_of}
use Rattle.model.specs.Expansion.{coded, flip, write_back}
use Rattle.model.proofs.Loads.{load_bounds}
use Rattle.model.proofs.Lengths.{negate_pieces, copy_pieces}
use Rattle.expander.proofs.OpcodeNumbers.{not_number, mov_number, table_number, low_number, high_number}
use Rattle.expander.proofs.sizes.macro_size.Goals as goal

pub overflow_add-result : goal.overflow_add-result
overflow_add-result c = record { fits = omega (arith, load_bounds 1 (coded neighbours (operand_of c.args.a)), c.load_size.ensures neighbours 1) }

pub returns-in-2 : goal.returns-in-2
unfolding flip write_back
returns-in-2 c = λ d. rw (not_number c.args.layout d _ _ c.args.o c.in-2.is, negate_pieces) (omega (arith, c.load_size.ensures c.args.layout 1))

pub overflow_add-result-in-3 : goal.overflow_add-result-in-3
overflow_add-result-in-3 c = record { fits = omega (arith, load_bounds 3 (coded neighbours (operand_of c.args.a)), c.load_size-in-3.ensures neighbours 3) }

pub returns-in-3 : goal.returns-in-3
unfolding write_back
returns-in-3 c = λ d. rw (mov_number c.args.layout d _ _ c.args.o c.in-3.is, copy_pieces) (omega (arith, c.load_size-in-3.ensures c.args.layout 3))

pub returns-in-4-to-6 : goal.returns-in-4-to-6
returns-in-4-to-6 c =
    λ d.
    let w = table_number c.args.layout d (coded c.args.layout (operand_of c.args.a)) (coded c.args.layout (operand_of c.args.b)) c.args.o (omega arith) (omega arith) in
    c.lookup_size.ensures w.0 d ∙ sym (ap length w.1)

pub returns-in_default : goal.returns-in_default
returns-in_default c = λ d. sym (ap length (low_number c.args.layout d _ _ c.args.o (omega arith)))

pub returns-in_default-2 : goal.returns-in_default-2
returns-in_default-2 c = λ d. sym (ap length (high_number c.args.layout d _ _ c.args.o (omega arith)))
