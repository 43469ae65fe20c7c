-- `choices::bytes::size_of` meets its contract. Assumes nothing.
use mathlib.Core.Path.{sym, ap, ◌∙◌}
use lib.ListN.{length}
use Rattle.choices.proofs.SetBytes.{values-past, size_at}
use Rattle.choices.proofs.bytes.size_of.Goals as goal

pub returns-then-i-ge-STATE_SIZE : goal.returns-then-i-ge-STATE_SIZE
returns-then-i-ge-STATE_SIZE c = sym (ap length (values-past _ _ c.if-i-ge-STATE_SIZE.true))

pub returns : goal.returns
returns c = c.min.ensures ∙ size_at c.args.sets.now c.told-sets c.args.i c.if-i-ge-STATE_SIZE.false
