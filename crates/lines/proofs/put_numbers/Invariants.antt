-- `lines::put_numbers` meets its contract: the first number, then what is left of the others, each after a comma.
-- Assumes nothing.
use Prim.Native.Nat.{◌+◌, ◌*◌, ◌≤◌}
use lib.ListN.{drop}
use Rattle.lines.proofs.LeftLaws.{Left}
use Rattle.lines.proofs.LineTexts.{listed}
use Rattle.lines.proofs.put_numbers.Given as goal

abbrev pub invariant-loop-i : goal.invariant-loop-i
invariant-loop-i l = (Left l.initial.out l.out l.initial.next l.next (listed (drop 1 l.numbers)) (listed (drop l.i l.numbers))) × (l.next + 6 ≤ l.initial.next + 6 * l.i)
