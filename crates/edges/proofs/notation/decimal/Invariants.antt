-- `edges::notation::decimal` meets its contract: no digit makes the number longer than six. Assumes nothing.
use Prim.Native.Nat.{◌≤◌}
use Rattle.edges.proofs.notation.decimal.Given as goal

abbrev pub invariant-loop-byte : goal.invariant-loop-byte
invariant-loop-byte l = l.n ≤ 999999
