-- `dualrail::dualrail_take_in` meets its contract. Assumes nothing.
use Rattle.dualrail.specs.Packing.{packed}
use Rattle.dualrail.proofs.Told.{told}
use Rattle.dualrail.proofs.dualrail_take_in.Goals as goal

pub returns : goal.returns
returns c =
    let t = told packed _ _ _ _ c.pack_conversion.ensures c.take_in.ensures in
    record { answer = t.0; stores = t.1 }
