-- `coding::is_in_range` meets its contract: the first number out of range decides. Assumes nothing.
use borrow.Author.Tests.{lt-ltb, le-ltb}
use Rattle.coding.proofs.Tests.{tests}
use Rattle.coding.proofs.is_in_range.Goals as goal

pub returns-then-d-ge-OPERANDS : goal.returns-then-d-ge-OPERANDS
returns-then-d-ge-OPERANDS c = search tests

pub returns-then-is_literal : goal.returns-then-is_literal
returns-then-is_literal c = rw (lt-ltb _ _ c.if-d-ge-OPERANDS.false, ← c.is_literal.ensures, c.if-is_literal.true)

pub returns-then-a-ge-OPERANDS : goal.returns-then-a-ge-OPERANDS
returns-then-a-ge-OPERANDS c = rw (lt-ltb _ _ c.if-d-ge-OPERANDS.false, ← c.is_literal.ensures, c.if-is_literal.false, le-ltb _ _ c.if-a-ge-OPERANDS.true)

pub returns-then-b-ge-OPERANDS : goal.returns-then-b-ge-OPERANDS
returns-then-b-ge-OPERANDS c = rw (lt-ltb _ _ c.if-d-ge-OPERANDS.false, ← c.is_literal.ensures, c.if-is_literal.false, lt-ltb _ _ c.if-a-ge-OPERANDS.false, le-ltb _ _ c.if-b-ge-OPERANDS.true)

pub returns : goal.returns
returns c = rw (lt-ltb _ _ c.if-d-ge-OPERANDS.false, ← c.is_literal.ensures, c.if-is_literal.false, lt-ltb _ _ c.if-a-ge-OPERANDS.false, lt-ltb _ _ c.if-b-ge-OPERANDS.false)
