-- `text::fields::no_literal` meets its contract: the numbers 1 to 256 are the literals'. Assumes nothing.
use mathlib.Core.Path.{ap}
use native.Mathlib.Omega.{arith}
use borrow.Author.Tests.{lt-ltb, le-ltb}
use Rattle.text.specs.Fields.{found}
use Rattle.text.proofs.FieldLaws.{literal_tests}
use Rattle.text.proofs.fields.no_literal.Goals as goal

pub returns-in-1-to-256 : goal.returns-in-1-to-256
returns-in-1-to-256 c =
    let k = c.in_ok-k.k in
    rw (ap found c.in_ok-k.was, literal_tests k, le-ltb k 1 (omega arith), lt-ltb k 257 (omega arith))

pub returns-in_default : goal.returns-in_default
returns-in_default c = rw (ap found c.in_ok-k.was, literal_tests c.in_ok-k.k, lt-ltb c.in_ok-k.k 1 (omega arith))

pub returns-in_default-2 : goal.returns-in_default-2
returns-in_default-2 c =
    let k = c.in_ok-k.k in
    rw (ap found c.in_ok-k.was, literal_tests k, le-ltb k 1 (omega arith), le-ltb k 257 (omega arith))
