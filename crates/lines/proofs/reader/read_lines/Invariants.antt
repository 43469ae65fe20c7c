-- `lines::reader::read_lines` meets its contract: what is left to read from the position on, with the lines so far, always
-- comes to what the whole text comes to. Assumes nothing.
use Prim.Native.Nat.{◌-◌}
use lib.ListN.{drop}
use Rattle.model.specs.Limits.{max_lines}
use Rattle.text.proofs.ReadLaws.{Left}
use Rattle.lines.proofs.reader.read_lines.Given as goal

abbrev pub invariant-loop-got : goal.invariant-loop-got
invariant-loop-got l = Left l.text l.initial.store l.store (drop l.at l.text) l.room l.n

abbrev pub decreases-loop-got : goal.decreases-loop-got
decreases-loop-got l = max_lines - l.n
