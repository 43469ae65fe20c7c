-- `printing::size::target_size` meets its contract. Assumes nothing.
use borrow.Author.Rules.{rules}
use borrow.Author.Tests.{eq-eqb, ne_eqb}
use Rattle.model.specs.Stored.{target_of}
use Rattle.model.specs.Text.{spell_target}
use Rattle.printing.proofs.size.target_size.Goals as goal

pub returns-then-k-eq0 : goal.returns-then-k-eq0
unfolding spell_target target_of
returns-then-k-eq0 c = (rw (eq-eqb _ _ c.if-k-eq0.true), search rules)

pub returns : goal.returns
unfolding spell_target target_of
returns c = (rw (ne_eqb _ _ c.if-k-eq0.false) c.digit_count.ensures.0, search rules)
