-- `printing::put_target` meets its contract. Assumes nothing.
use borrow.Author.Tests.{eq-eqb, ne_eqb}
use Rattle.model.specs.Stored.{target_of}
use Rattle.model.specs.Text.{spell_target}
use Rattle.printing.proofs.WroteLaws.{nothing}
use Rattle.printing.proofs.put_target.Goals as goal

pub returns-then-k-eq0 : goal.returns-then-k-eq0
unfolding spell_target target_of
returns-then-k-eq0 c = rw (eq-eqb _ _ c.if-k-eq0.true) (nothing c.args.out.now c.args.at 5)

pub returns : goal.returns
unfolding spell_target target_of
returns c = rw (ne_eqb _ _ c.if-k-eq0.false) c.put_number.ensures
