-- `choices::next_open` meets its contract. The loop's invariant: the places so far have one value each, so that nothing is drawn there. Assumes nothing.
use Rattle.sets.specs.Walk.{lists_of}
use Rattle.choices.specs.Gathering.{line_by}
use Rattle.choices.proofs.Exploring.{NoneOpen}
use Rattle.choices.proofs.next_open.Given as goal

abbrev pub invariant-loop-k : goal.invariant-loop-k
invariant-loop-k l = NoneOpen (lists_of l.sets) (line_by l.line) l.level l.k
