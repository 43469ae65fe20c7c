-- `choices::bus::has_address` meets its contract, form by form: from the cells on all have one. Assumes nothing.
use native.Mathlib.Omega.{arith}
use borrow.Author.Tests.{le-leb, lt-leb}
use lib.Dec.{leb}
use Rattle.model.specs.Places.{has_address}
use Rattle.model.specs.Stored.{cells}
use Rattle.model.proofs.Forms.{by_form}
use mathlib.Core.Path.{◌≡◌}
use Rattle.choices.proofs.bus.has_address.Goals as goal

pub returns : goal.returns
unfolding has_address
returns c =
    let n = c.args.code in
    by_form n (λ o. leb cells n ≡ has_address o) (λ l. lt-leb cells n (omega arith)) (λ g l. lt-leb cells n (omega arith)) (λ g l. lt-leb cells n l)
    (λ g l. le-leb cells n g) (λ g l. le-leb cells n (omega arith)) (λ g l. le-leb cells n (omega arith)) (λ g. le-leb cells n (omega arith))
