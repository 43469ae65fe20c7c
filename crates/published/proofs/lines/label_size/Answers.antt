-- `published::lines::label_size` meets its contract. Assumes nothing.
use Rattle.published.proofs.PlaceLaws.{label_none, label_is, label_not}
use native.Mathlib.Omega.{arith}
use Rattle.published.proofs.lines.label_size.Goals.{else-n-gt0-via-then-n-gt0+else-s-n-eq58, else-n-gt0-via-else-n-gt0}
use Rattle.published.proofs.lines.label_size.Goals as goal

pub returns-then-s-n-eq58 : goal.returns-then-s-n-eq58
returns-then-s-n-eq58 c = (rw (label_is c.args.s.now c.word-n.result c.word-n.ensures.0 c.if-n-gt0.true c.if-s-n-eq58.true) c.word-n.ensures.0, c.word-n.ensures.1)

pub returns-else-n-gt0 : goal.returns-else-n-gt0
returns-else-n-gt0 c =
    elim c.else-n-gt0.branch [
      | else-n-gt0-via-then-n-gt0+else-s-n-eq58 w ↦ (rw (label_not c.args.s.now c.word-n.result c.word-n.ensures.0 w.if-n-gt0.true w.if-s-n-eq58.false), omega arith)
      | else-n-gt0-via-else-n-gt0 w ↦ (rw (label_none c.args.s.now c.word-n.result c.word-n.ensures.0 (omega (arith, w.if-n-gt0.false))), omega arith)
    ]
