-- `expander::write_expansion` meets its contract. The last of the starts is the length of the expansion; the starts that are
-- looked up are those of the definition. Assumes nothing.
use native.Mathlib.Omega.{arith}
use Rattle.expander.proofs.Outcomes.{accepted_few, total_start, total_few, no_room, all_written}
use Rattle.expander.proofs.write_expansion.Goals as goal

pub fill_starts-requires : goal.fill_starts-requires
fill_starts-requires c = accepted_few c.args.program.now c.requires.1

pub bounds-starts-count : goal.bounds-starts-count
bounds-starts-count c = omega (arith, accepted_few c.args.program.now c.requires.1)

pub overflow_cast-total : goal.overflow_cast-total
overflow_cast-total c = omega (arith, total_few c.args.layout c.requires.0 c.args.program.now _ c.args.out.now c.requires.1 c.fill_starts.ensures)

pub returns-then-out-total : goal.returns-then-out-total
returns-then-out-total c = no_room c.args.layout c.requires.0 c.args.program.now _ c.args.out.now c.requires.1 c.fill_starts.ensures c.if-out-total.true

pub put_parts-requires : goal.put_parts-requires
put_parts-requires c = omega (arith, total_start c.args.layout c.requires.0 c.args.program.now _ c.args.out.now c.requires.1 c.fill_starts.ensures, c.if-out-total.false)

pub overflow_cast-result : goal.overflow_cast-result
overflow_cast-result c = omega (arith, total_few c.args.layout c.requires.0 c.args.program.now _ c.args.out.now c.requires.1 c.fill_starts.ensures)

pub returns : goal.returns
returns c =
    all_written c.args.layout c.requires.0 c.args.program.now _ c.args.out.now c.requires.1 c.fill_starts.ensures _ c.if-out-total.false
    c.put_parts.ensures
