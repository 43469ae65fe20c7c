-- `images::choose` meets its contract. The loop's invariant: the first i places are chosen. Assumes nothing.
use mathlib.Core.Path.{◌≡◌}
use mathlib.Core.List.{map}
use Rattle.images.specs.Ranges.{chosen}
use Rattle.images.proofs.Ranges.{front}
use Rattle.images.proofs.choose.Given as goal

abbrev pub invariant-loop-i : goal.invariant-loop-i
invariant-loop-i l = l.into ≡ front (map (chosen l.key l.x l.y) l.from) l.initial.into l.i
