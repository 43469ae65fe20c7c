-- `dualrail::dualrail_send_out` meets its contract. Assumes nothing.
use Rattle.dualrail.specs.Packing.{packed}
use Rattle.dualrail.proofs.Told.{told}
use Rattle.dualrail.proofs.dualrail_send_out.Goals as goal

pub returns : goal.returns
returns c =
    let t = told packed _ _ _ _ c.pack_conversion.ensures c.send_out.ensures in
    record { answer = t.0; stores = t.1 }
