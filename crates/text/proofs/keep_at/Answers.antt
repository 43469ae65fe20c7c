-- `text::keep_at` meets its contract. Assumes nothing.
use mathlib.Core.Path.{sym, ◌∙◌}
use borrow.Author.Tests.{le-ltb}
use Rattle.text.specs.Lines.{kept}
use Rattle.text.proofs.StoreLaws.{kept_fits}
use Rattle.text.proofs.keep_at.Goals as goal

pub returns-then-n-store : goal.returns-then-n-store
returns-then-n-store c = c.keep.ensures ∙ sym (kept_fits _ _ _ c.if-n-store.true)

pub returns-else-n-store : goal.returns-else-n-store
unfolding kept
returns-else-n-store c = simp (le-ltb _ _ c.if-n-store.false)
