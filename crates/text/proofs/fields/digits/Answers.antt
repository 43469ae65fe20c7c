-- `text::fields::digits` meets its contract. What is left to read, from the number so far, is always what the whole was. Assumes nothing.
use Prim.Native.Nat.{◌≤◌}
use mathlib.Core.Path.{sym, ◌∙◌}
use native.Mathlib.Omega.{arith}
use lib.ListN.{length, drop_of_length-le}
use Rattle.text.specs.Fields.{digits_from}
use Rattle.text.proofs.DigitLaws.{no_digit, over, next}
use Rattle.text.proofs.fields.digits.Goals as goal

pub returns-then-b-lt48 : goal.returns-then-b-lt48
returns-then-b-lt48 c = sym (no_digit c.args.n c.loop-b.v c.args.s.now c.loop-b.b-index c.loop-b-test.true c.then-b-lt48.either) ∙ c.loop-b.invariant

pub returns-then-n-next : goal.returns-then-n-next
returns-then-n-next c = sym (over c.args.n c.loop-b.v c.args.s.now c.loop-b.b-index c.loop-b-test.true c.if-b-lt48.false c.if-b-gt57.false c.if-n-next.true) ∙ c.loop-b.invariant

pub loop-b-preserved : goal.loop-b-preserved
loop-b-preserved c = sym (next c.args.n c.loop-b.v c.args.s.now c.loop-b.b-index c.loop-b-test.true c.if-b-lt48.false c.if-b-gt57.false c.if-n-next.false) ∙ c.loop-b.invariant

pub returns : goal.returns
unfolding digits_from
returns c =
    let past : length c.args.s.now ≤ c.loop-b.b-index = omega arith in
    rw drop_of_length-le at c.loop-b.invariant
