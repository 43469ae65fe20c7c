-- `nibble::map_table_into` meets its contract. A return for each case of the check.
-- Assumes nothing.
use mathlib.Core.Path.{refl}
use Rattle.nibble.proofs.MapLaws.{not_sixteen, value_above, map-right}
use Rattle.nibble.proofs.map_table_into.Goals as goal

pub returns-then-map-ne-NIBBLES : goal.returns-then-map-ne-NIBBLES
returns-then-map-ne-NIBBLES c = not_sixteen c.args.map.now c.if-map-ne-NIBBLES.true

pub returns-in-Ok : goal.returns-in-Ok
returns-in-Ok c = map-right c.args.map.now _ _ c.if-map-ne-NIBBLES.false refl c.in-Ok.ensures.ok.0 c.in-Ok.ensures.ok.1

pub returns-in-Err : goal.returns-in-Err
returns-in-Err c = value_above c.args.map.now _ c.if-map-ne-NIBBLES.false c.in-Err.ensures.err.0 c.in-Err.ensures.err.1
