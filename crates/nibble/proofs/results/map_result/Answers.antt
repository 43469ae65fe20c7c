-- `nibble::results::map_result` meets its contract: what is looked up is what the map's table holds.
-- Assumes nothing.
use mathlib.Core.Path.{ap}
use Rattle.model.specs.Answers.{Outcome}
use Rattle.nibble.specs.Nibbles.{map_outcome}
use Rattle.nibble.proofs.ResultLaws.{map_results}
use Rattle.nibble.proofs.results.map_result.Goals as goal

pub returns : goal.returns
unfolding map_outcome
returns c = record { answer_value = ap (λ (o : Outcome). o.answer) c.map_table-made.ensures; map_result = rw c.look_up.ensures (map_results c.args.map.now _ _ c.args.c c.map_table-made.ensures) }
