-- `text::cut::find` meets its contract: the bytes passed and those before the first c in the rest are as many as before the first
-- c. Assumes nothing.
use Prim.Native.Nat.{◌≤◌}
use native.Mathlib.Omega.{arith}
use lib.ListN.{length, drop_of_length-le}
use Rattle.model.specs.Text.{up_to}
use Rattle.text.proofs.PartLaws.{up_to_found, up_to_other}
use Rattle.text.proofs.cut.find.Goals as goal

pub returns-then-s-i : goal.returns-then-s-i
returns-then-s-i c = omega (arith, up_to_found c.args.c c.args.s.now c.loop-i.i c.loop-i-test.true c.if-s-i.true)

pub loop-i-preserved : goal.loop-i-preserved
loop-i-preserved c = omega (arith, up_to_other c.args.c c.args.s.now c.loop-i.i c.loop-i-test.true c.if-s-i.false)

pub returns : goal.returns
unfolding up_to
returns c =
    let past : length c.args.s.now ≤ c.loop-i.i = omega arith in
    omega (arith, rw drop_of_length-le at c.loop-i.invariant)
