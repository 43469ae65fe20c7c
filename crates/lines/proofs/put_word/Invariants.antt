-- `lines::put_word` meets its contract: what is left of the word always gives the whole. Assumes nothing.
use Prim.Native.Nat.{◌+◌, ◌≤◌}
use lib.ListN.{drop}
use Rattle.lines.proofs.LeftLaws.{Left}
use Rattle.lines.proofs.put_word.Given as goal

abbrev pub invariant-loop-b : goal.invariant-loop-b
invariant-loop-b l = (Left l.initial.out l.out l.at l.next l.word (drop l.b-index l.word)) × (l.next ≤ l.at + l.b-index)
