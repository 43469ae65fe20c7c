-- `printing::put_mark` meets its contract. Assumes nothing.
use borrow.Author.Tests.{eq-eqb, ne_eqb}
use Rattle.model.specs.Text.{spell_mark}
use Rattle.printing.proofs.put_mark.Goals as goal
use Rattle.printing.proofs.put_mark.Goals.{then-k-eq0, else-k-eq0}

pub returns : goal.returns
unfolding spell_mark
returns c =
    elim c.if-k-eq0.branch [ then-k-eq0 w ↦ rw (eq-eqb _ _ w.if-k-eq0.true) (rw w.put-is at c.put.ensures) | else-k-eq0 w ↦ rw (ne_eqb _ _ w.if-k-eq0.false) (rw w.put-is at c.put.ensures) ]
