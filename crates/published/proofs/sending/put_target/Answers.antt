-- `published::sending::put_target` meets its contract. Assumes nothing.
use borrow.Author.Tests.{eq-eqb, ne_eqb}
use Rattle.model.specs.Stored.{target_of}
use Rattle.published.specs.Published.{line_name, spell_target_name}
use Rattle.printing.proofs.WroteLaws.{then, nothing}
use Rattle.published.proofs.sending.put_target.Goals as goal

pub returns-then-t-eq0 : goal.returns-then-t-eq0
unfolding spell_target_name target_of
returns-then-t-eq0 c = rw (eq-eqb _ _ c.if-t-eq0.true) (nothing c.args.out.now c.args.at 7)

pub returns : goal.returns
unfolding spell_target_name target_of line_name
returns c = rw (ne_eqb _ _ c.if-t-eq0.false) (then c.put-a.ensures c.put_tagged.ensures)
