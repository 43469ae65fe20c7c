-- `published::sending::put_label` meets its contract. Assumes nothing.
use Rattle.published.specs.Published.{label_line}
use Rattle.published.specs.Published.{line_name}
use Rattle.printing.proofs.WroteLaws.{then, nothing}
use Rattle.published.proofs.sending.put_label.Goals as goal

pub returns-then-used : goal.returns-then-used
unfolding label_line line_name
returns-then-used c = rw c.if-used.true (then c.put_tagged-a.ensures (then c.put-b.ensures c.put.ensures))

pub returns : goal.returns
unfolding label_line
returns c = rw c.if-used.false (nothing c.args.out.now c.args.at 8)
