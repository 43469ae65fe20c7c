-- `text::fields::direct` meets its contract: the arms are the cases of `read_direct`. Assumes nothing.
use native.Mathlib.Omega.{arith}
use borrow.Author.Tests.{ne_eqb}
use Rattle.text.specs.Fields.{read_direct}
use Rattle.text.proofs.fields.direct.Goals as goal

pub returns-in-35 : goal.returns-in-35
unfolding read_direct
returns-in-35 c = rw c.in-35.is c.plain.ensures

pub returns-in-114 : goal.returns-in-114
unfolding read_direct
returns-in-114 c = rw c.in-114.is c.plain-in-114.ensures

pub returns-in-64 : goal.returns-in-64
unfolding read_direct
returns-in-64 c = rw c.in-64.is c.plain-in-64.ensures

pub returns-in_default : goal.returns-in_default
unfolding read_direct
returns-in_default c = rw (ne_eqb c.args.c 35 (λ e. omega arith), ne_eqb c.args.c 114 (λ e. omega arith), ne_eqb c.args.c 64 (λ e. omega arith))
