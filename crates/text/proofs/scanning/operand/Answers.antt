-- `text::scanning::operand` meets its contract: the first byte picks the form. Assumes nothing.
use native.Mathlib.Omega.{arith}
use Rattle.text.proofs.OperandLaws.{literal_form, register_form, cell_form, public_form, sensitive_form, table_form}
use Rattle.text.proofs.ScanLaws.{tagged, signed, none_there}
use Rattle.text.proofs.scanning.operand.Goals as goal

pub returns-in-Some-eq35 : goal.returns-in-Some-eq35
returns-in-Some-eq35 c =
    let here = c.in-Some-eq35.ensures.lookup.3 in
    tagged c.args.s.now c.args.at 35 here.0 (omega (arith, here.1 0)) 256 1 literal_form c.number.result c.number.ensures

pub returns-in-Some-eq114 : goal.returns-in-Some-eq114
returns-in-Some-eq114 c =
    let here = c.in-Some-eq114.ensures.lookup.3 in
    tagged c.args.s.now c.args.at 114 here.0 (omega (arith, here.1 0)) 32 257 register_form c.number-in-Some-eq114.result c.number-in-Some-eq114.ensures

pub returns-in-Some-eq64 : goal.returns-in-Some-eq64
returns-in-Some-eq64 c =
    let here = c.in-Some-eq64.ensures.lookup.3 in
    tagged c.args.s.now c.args.at 64 here.0 (omega (arith, here.1 0)) 512 289 cell_form c.number-in-Some-eq64.result c.number-in-Some-eq64.ensures

pub returns-in-Some-eq33 : goal.returns-in-Some-eq33
returns-in-Some-eq33 c =
    let here = c.in-Some-eq33.ensures.lookup.3 in
    signed c.args.s.now c.args.at 33 here.0 (omega (arith, here.1 0)) 128 801 public_form c.indirect.result c.indirect.ensures

pub returns-in-Some-eq37 : goal.returns-in-Some-eq37
returns-in-Some-eq37 c =
    let here = c.in-Some-eq37.ensures.lookup.3 in
    signed c.args.s.now c.args.at 37 here.0 (omega (arith, here.1 0)) 128 4897 sensitive_form c.indirect-in-Some-eq37.result c.indirect-in-Some-eq37.ensures

pub returns-in-Some-eq94 : goal.returns-in-Some-eq94
returns-in-Some-eq94 c =
    let here = c.in-Some-eq94.ensures.lookup.3 in
    signed c.args.s.now c.args.at 94 here.0 (omega (arith, here.1 0)) 256 8993 table_form c.indirect-in-Some-eq94.result c.indirect-in-Some-eq94.ensures

pub returns-in-Some : goal.returns-in-Some
returns-in-Some c = none_there c.args.s.now c.args.at _ c.answer.ensures
