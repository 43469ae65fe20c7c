-- `text::fields::kind` meets its contract: the arms are the cases of `read_kind`. Assumes nothing.
use native.Mathlib.Omega.{arith}
use borrow.Author.Tests.{ne_eqb}
use Rattle.text.specs.Fields.{read_kind}
use Rattle.text.proofs.fields.kind.Goals as goal

pub returns-in-33 : goal.returns-in-33
unfolding read_kind
returns-in-33 c = rw c.in-33.is c.indirect.ensures

pub returns-in-37 : goal.returns-in-37
unfolding read_kind
returns-in-37 c = rw c.in-37.is c.indirect-in-37.ensures

pub returns-in-94 : goal.returns-in-94
unfolding read_kind
returns-in-94 c = rw c.in-94.is c.indirect-in-94.ensures

pub returns-in_default : goal.returns-in_default
unfolding read_kind
returns-in_default c = rw (ne_eqb c.args.c 33 (λ e. omega arith), ne_eqb c.args.c 37 (λ e. omega arith), ne_eqb c.args.c 94 (λ e. omega arith)) c.direct.ensures
