-- `published::sending::put_operand` meets its contract. Assumes nothing.
use Rattle.published.proofs.SendLaws.{spaced_empty, spaced_table, spaced_there}
use mathlib.Core.Path.{sym}
use Rattle.printing.proofs.WroteLaws.{then, nothing, as_text}
use Rattle.published.proofs.sending.put_operand.Goals.{then-k-lt-LITERALS-via-then-k-lt-LITERALS, then-k-lt-LITERALS-via-else-k-lt-LITERALS+then-k-ge-TABLES}
use Rattle.published.proofs.sending.put_operand.Goals as goal

pub returns-then-k-lt-LITERALS : goal.returns-then-k-lt-LITERALS
returns-then-k-lt-LITERALS c =
    elim c.then-k-lt-LITERALS.branch [
      | then-k-lt-LITERALS-via-then-k-lt-LITERALS w ↦ as_text (sym (spaced_empty _ w.if-k-lt-LITERALS.true)) (nothing c.args.out.now c.args.at 14)
      | then-k-lt-LITERALS-via-else-k-lt-LITERALS+then-k-ge-TABLES w ↦ as_text (sym (spaced_table _ w.if-k-ge-TABLES.true)) (nothing c.args.out.now c.args.at 14)
    ]

pub returns : goal.returns
returns c = as_text (spaced_there _ c.if-k-lt-LITERALS.false c.if-k-ge-TABLES.false) (then c.put-a.ensures c.put_form.ensures)
