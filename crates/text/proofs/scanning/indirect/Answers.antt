-- `text::scanning::indirect` meets its contract. Assumes nothing.
use native.Mathlib.Omega.{arith}
use Rattle.text.proofs.ScanLaws.{based_there}
use Rattle.text.proofs.scanning.indirect.Goals as goal

pub returns : goal.returns
returns c =
    let letter = c.in-Some-eq114.ensures.lookup.3 in
    let plus = c.in-Some-eq43.ensures.lookup.3 in
    based_there c.args.s.now c.args.at c.args.w c.args.more c.number-base.result _ _ c.number-base.ensures (omega arith) c.found.ensures c.position-plus.ensures letter.0 (omega (arith, letter.1 0)) plus.0 (omega (arith, plus.1 0)) c.number.result c.number.ensures
