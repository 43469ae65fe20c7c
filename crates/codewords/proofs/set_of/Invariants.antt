-- `codewords::set_of` meets its contract. The words so far, and zeros. Assumes nothing.
use mathlib.Core.Path.{◌≡◌}
use mathlib.Core.List.{◌++◌, map}
use Prim.Native.Nat.{◌-◌}
use lib.ListN.{length, take, replicate}
use Rattle.codewords.specs.Keys.{word_of}
use Rattle.codewords.proofs.set_of.Given as goal

abbrev pub invariant-loop-i : goal.invariant-loop-i
invariant-loop-i l = (length l.set ≡ 16) × (l.set ≡ map word_of (take l.i l.keys) ++ replicate (16 - l.i) 0)
