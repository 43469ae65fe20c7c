-- `verdicts::put_bytes` meets its contract. Assumes nothing.
use native.Mathlib.Omega.{arith}
use lib.ListN.{length-set}
use Rattle.verdicts.proofs.put_bytes.Goals as goal

pub bounds-sets-at-2 : goal.bounds-sets-at-2
bounds-sets-at-2 c =
    let x = c.args in
    omega (arith, c.requires, length-set x.sets.now x.at x.count)
