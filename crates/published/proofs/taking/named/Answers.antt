-- `published::taking::named` meets its contract: a line without a label, and one with a label. Assumes nothing.
use native.Mathlib.Omega.{arith}
use Rattle.published.proofs.CollectLaws.{none_named, some_named}
use Rattle.published.proofs.taking.named.Goals as goal

pub returns-then-w-gt0-clause-named : goal.returns-then-w-gt0-clause-named
returns-then-w-gt0-clause-named c =
    λ size long inside cut.
    some_named c.args.labels.now.text.now c.args.labels.now.table _ _ c.args.labels.now.count c.args.n c.args.start size c.args.w long inside cut (λ z. omega (arith, z, c.if-w-gt0.true)) c.add.new.self.count c.add.ensures.added

pub returns-else-w-gt0-clause-named : goal.returns-else-w-gt0-clause-named
returns-else-w-gt0-clause-named c =
    λ size long inside cut.
    none_named c.args.labels.now.text.now c.args.labels.now.table c.args.labels.now.heads c.args.labels.now.table c.args.labels.now.count c.args.n c.args.start size c.args.w long inside cut (omega (arith, c.if-w-gt0.false)) c.args.labels.now.linked
