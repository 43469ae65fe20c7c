-- `dualrail::dualrail_run` meets its contract. The packed answer and the stores are read off the entry point's promise.
-- Assumes nothing.
use Rattle.dualrail.specs.Packing.{packed_run}
use Rattle.dualrail.proofs.Told.{told}
use Rattle.dualrail.proofs.dualrail_run.Goals as goal

pub returns : goal.returns
returns c =
    let t = told packed_run _ _ _ _ c.pack_run.ensures c.run.ensures in
    record { answer = t.0; stores = t.1 }
