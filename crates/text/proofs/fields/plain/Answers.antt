-- `text::fields::plain` meets its contract. Assumes nothing.
use mathlib.Core.Path.{◌≡◌, sym, ◌∙◌}
use native.Mathlib.Omega.{arith}
use Rattle.text.specs.Fields.{read_number}
use Rattle.text.specs.Fields.{shift}
use Rattle.std.specs.Prelude.{Some}
use Rattle.text.proofs.DigitLaws.{number_below}
use borrow.Author.Rules.{rules}
use Rattle.text.proofs.fields.plain.Goals as goal

pub returns-in_err-k : goal.returns-in_err-k
unfolding shift
returns-in_err-k c = rw (c.from_residual.ensures, sym c.number.ensures ∙ c.in_err-k.was)

pub overflow_add-result : goal.overflow_add-result
overflow_add-result c =
    let a = c.args in
    let k = c.in_ok-k.k in
    let e : read_number a.n a.s.now ≡ Some k = sym c.number.ensures ∙ c.in_ok-k.was in
    omega (arith, number_below a.n a.s.now k (search rules) e)

pub returns : goal.returns
unfolding shift
returns c = rw (sym c.number.ensures ∙ c.in_ok-k.was)
