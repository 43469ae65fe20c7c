-- `text::fields::mark` meets its contract: the tests pick the case that the model's search finds. Assumes nothing.
use native.Mathlib.Omega.{arith}
use lib.ListN.{length, get_or}
use borrow.Author.Tests.{eq-eqb, ne_eqb}
use Rattle.text.proofs.FieldLaws.{mark_tests}
use Rattle.text.proofs.fields.mark.Goals as goal

pub returns-in-u : goal.returns-in-u
returns-in-u c =
    let s = c.args.s.now in
    rw (mark_tests s, eq-eqb (length s) 1 (omega arith), eq-eqb (get_or s 0 0) 117 (omega arith))

pub returns-in-s : goal.returns-in-s
returns-in-s c =
    let s = c.args.s.now in
    rw (mark_tests s, eq-eqb (length s) 1 (omega arith), ne_eqb (get_or s 0 0) 117 (λ e. omega arith), eq-eqb (get_or s 0 0) 115 (omega arith))

pub returns-in_default : goal.returns-in_default
returns-in_default c = rw (mark_tests c.args.s.now, ne_eqb (length c.args.s.now) 1 (λ e. omega arith))

pub returns-in_default-2 : goal.returns-in_default-2
returns-in_default-2 c =
    let s = c.args.s.now in
    rw (mark_tests s, eq-eqb (length s) 1 (omega arith), ne_eqb (get_or s 0 0) 117 (λ e. omega arith), ne_eqb (get_or s 0 0) 115 (λ e. omega arith))

pub returns-in_default-3 : goal.returns-in_default-3
returns-in_default-3 c = rw (mark_tests c.args.s.now, ne_eqb (length c.args.s.now) 1 (λ e. omega arith))
