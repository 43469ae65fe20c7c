-- `expander::starts::fill_starts` meets its contract. The loop's invariant: the sum is the start of line i, and the starts up to
-- it stand in the array. Assumes nothing.
use Prim.Native.Nat.{◌+◌}
use mathlib.Core.Path.{◌≡◌, sym}
use native.Mathlib.Omega.{arith}
use Rattle.model.specs.Stored.{line_at, lines}
use Rattle.model.specs.Expansion.{start}
use Rattle.model.proofs.ExpansionLaws.{size_most}
use Rattle.expander.proofs.StartTable.{start-zero, start-next, up_to_none, up_to_next, starts_all}
use Rattle.expander.proofs.starts.fill_starts.Goals as goal

pub loop-i-init : goal.loop-i-init
loop-i-init c = (omega arith, sym (start-zero c.args.layout (lines c.args.program.now)), up_to_none c.args.layout c.args.starts.now _ (omega arith))

pub overflow_add-sum : goal.overflow_add-sum
overflow_add-sum c =
    let l = c.loop-i in
    record { fits = omega (arith, size_most c.args.layout (line_at c.args.program.now l.i), c.size_at-sum.ensures) }

pub loop-i-preserved : goal.loop-i-preserved
loop-i-preserved c =
    let l = c.loop-i in
    let e : l.sum + c.size_at-sum.result ≡ start c.args.layout (lines c.args.program.now) (l.i + 1) = start-next c.args.layout c.args.program.now l.i _ _ c.loop-i-test.true l.invariant.1 c.size_at-sum.ensures in
    (omega (arith, size_most c.args.layout (line_at c.args.program.now l.i), c.size_at-sum.ensures), e, up_to_next c.args.layout l.starts _ l.i _ (omega arith) l.invariant.2 e)

pub returns : goal.returns
returns c = starts_all _ _ c.args.program.now _ c.requires (omega arith) c.loop-i.invariant.2
