-- `text::fields::digits` meets its contract. What is left to read, from the number so far, is always what the whole was. Assumes nothing.
use mathlib.Core.Path.{◌≡◌}
use lib.ListN.{drop}
use Rattle.text.specs.Fields.{digits_from}
use Rattle.text.proofs.fields.digits.Given as goal

abbrev pub invariant-loop-b : goal.invariant-loop-b
invariant-loop-b l = digits_from l.n l.v (drop l.b-index l.s) ≡ digits_from l.n 0 l.s
