-- `published::sending::put_form` meets its contract. Assumes nothing.
use native.Mathlib.Omega.{arith}
use Rattle.printing.proofs.WroteLaws.{nothing, as_text}
use Rattle.published.proofs.OperandSpelling.{spelled_alike}
use Rattle.published.proofs.SendLaws.{spelled_public, spelled_sensitive, spelled_table}
use Rattle.published.proofs.sending.put_form.Goals as goal

pub returns-in-0-to-800 : goal.returns-in-0-to-800
returns-in-0-to-800 c = as_text (spelled_alike c.args.k (omega arith)) c.put_operand.ensures

pub returns-in-801-to-4896 : goal.returns-in-801-to-4896
returns-in-801-to-4896 c = as_text (spelled_public c.args.k (omega arith) (omega arith)) c.put_based.ensures

pub returns-in-4897-to-8992 : goal.returns-in-4897-to-8992
returns-in-4897-to-8992 c = as_text (spelled_sensitive c.args.k (omega arith) (omega arith)) c.put_based-in-4897-to-8992.ensures

pub returns-in_default : goal.returns-in_default
returns-in_default c = as_text (spelled_table c.args.k (omega arith)) (nothing c.args.out.now c.args.at 13)
