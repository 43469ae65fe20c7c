-- `dualrail::dualrail_map_table` meets its contract. The packed answer and the table are read off the entry point's promise.
-- Assumes nothing.
use Rattle.dualrail.specs.Packing.{packed}
use Rattle.dualrail.proofs.Told.{told}
use Rattle.dualrail.proofs.dualrail_map_table.Goals as goal

pub returns : goal.returns
returns c =
    let t = told packed _ _ _ _ c.pack.ensures c.map_table_into.ensures in
    record { answer = t.0; stores = t.1 }
