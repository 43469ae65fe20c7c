-- `text::scanning::number` meets its contract. Assumes nothing.
use Prim.Native.Nat.{ℕ}
use mathlib.Core.Path.{subst}
use mathlib.Core.List.{List}
use native.Mathlib.Omega.{arith}
use borrow.Author.Rules.{rules}
use Rattle.text.specs.Scanning.{Numbered}
use Rattle.text.proofs.ScanLaws.{first_digit, zero_there}
use Rattle.text.proofs.scanning.number.Goals as goal

pub returns-in-Some-eq48 : goal.returns-in-Some-eq48
returns-in-Some-eq48 c =
    let here = c.in-Some-eq48.ensures.lookup.3 in
    zero_there _ _ c.args.s.now c.args.at _ (search rules) here.0 (omega (arith, here.1 0)) c.answer.ensures

pub returns-in-Some-49-to-57 : goal.returns-in-Some-49-to-57
returns-in-Some-49-to-57 c =
    let here = c.in-Some-49-to-57.ensures.lookup.3 in
    subst (λ (t : List ℕ). Numbered t c.args.n c.args.more c.args.s.now c.digits.result)
    (first_digit c.args.s.now c.args.at c.in-Some-49-to-57.b.now here.0 (here.1 0) (omega arith) (omega arith))
    c.digits.ensures
