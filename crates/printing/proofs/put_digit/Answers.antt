-- `printing::put_digit` meets its contract. Assumes nothing.
use borrow.Author.Tests.{lt-ltb, le-ltb}
use Rattle.model.specs.Text.{digit_at}
use Rattle.printing.proofs.WroteLaws.{nothing}
use Rattle.printing.proofs.put_digit.Goals as goal

pub returns-then-n-p : goal.returns-then-n-p
unfolding digit_at
returns-then-n-p c = rw (lt-ltb _ _ c.if-n-p.true) (nothing c.args.out.now c.args.at 1)

pub returns : goal.returns
unfolding digit_at
returns c = rw (le-ltb _ _ c.if-n-p.false) c.put.ensures
