-- `published::operands::operand` meets its contract: the tests pick the case of `read_part`. Assumes nothing.
use Rattle.published.proofs.OperandReading.{part-reads}
use Rattle.published.specs.Reading.{read_based, read_part}
use Rattle.text.proofs.PartLaws.{rest_all}
use Rattle.std.specs.Prelude.{Some}
use Rattle.text.specs.Fields.{found, read_direct}
use lib.ListN.{length, get_or}
use mathlib.Core.Path.{◌≡◌, sym, ap, ◌∙◌}
use native.Mathlib.Omega.{arith}
use borrow.Author.Tests.{eq-eqb, ne_eqb}
use Rattle.published.proofs.operands.operand.Goals as goal

pub returns-in_default : goal.returns-in_default
unfolding read_part
returns-in_default c =
    let s = c.args.s.now in
    let none : length s ≡ 0 = omega (arith, c.in_default.len_below) in
    let e : Some 0 ≡ read_part s = rw (eq-eqb _ _ none) in
    ap found e ∙ part-reads s

pub returns-then-head-eq33 : goal.returns-then-head-eq33
unfolding read_part
returns-then-head-eq33 c =
    let s = c.args.s.now in
    let some : length s ≡ 0 → ⊥ = λ z. omega (arith, c.in-len1-up.len_at_least) in
    let e : c.based.result ≡ read_part s = rw (ne_eqb _ _ some, eq-eqb _ _ c.if-head-eq33.true) (c.based.ensures ∙ ap read_based (rest_all s 1)) in
    ap found e ∙ part-reads s

pub returns-in_default-direct : goal.returns-in_default-direct
unfolding read_part
returns-in_default-direct c =
    let s = c.args.s.now in
    let some : length s ≡ 0 → ⊥ = λ z. omega (arith, c.in-len1-up.len_at_least) in
    let e : c.direct.result ≡ read_part s = rw (ne_eqb _ _ some, ne_eqb _ _ c.if-head-eq33.false) (c.direct.ensures ∙ ap (read_direct (get_or s 0 0)) (rest_all s 1)) in
    ap found (sym c.in_default-direct.is ∙ e) ∙ part-reads s

pub returns : goal.returns
unfolding read_part
returns c =
    let s = c.args.s.now in
    let some : length s ≡ 0 → ⊥ = λ z. omega (arith, c.in-len1-up.len_at_least) in
    let e : c.direct.result ≡ read_part s = rw (ne_eqb _ _ some, ne_eqb _ _ c.if-head-eq33.false) (c.direct.ensures ∙ ap (read_direct (get_or s 0 0)) (rest_all s 1)) in
    ap found (sym c.in-Some.is ∙ e) ∙ part-reads s
