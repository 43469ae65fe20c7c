-- `published::operands::pointed` meets its contract. Assumes nothing.
use borrow.Author.Tests.{lt-ltb, le-ltb}
use Rattle.published.proofs.operands.pointed.Goals as goal

pub returns-then-k-lt128 : goal.returns-then-k-lt128
returns-then-k-lt128 c = rw (lt-ltb _ _ c.if-k-lt128.true)

pub returns : goal.returns
returns c = rw (le-ltb _ _ c.if-k-lt128.false)
