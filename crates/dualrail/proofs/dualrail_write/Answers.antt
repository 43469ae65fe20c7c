-- `dualrail::dualrail_write` meets its contract. The packed answer and the stores are read off the entry point's promise.
-- Assumes nothing.
use Rattle.dualrail.specs.Packing.{packed}
use Rattle.dualrail.proofs.Told.{told}
use Rattle.dualrail.proofs.dualrail_write.Goals as goal

pub returns : goal.returns
returns c =
    let t = told packed _ _ _ _ c.pack.ensures c.write.ensures in
    record { answer = t.0; stores = t.1 }
