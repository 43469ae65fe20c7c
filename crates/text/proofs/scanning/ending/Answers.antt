-- `text::scanning::ending` meets its contract: a newline stands after the comma, or after the comma and a target. Assumes nothing.
use native.Mathlib.Omega.{arith}
use Rattle.text.proofs.ScanLaws.{ended_none, ended_there}
use Rattle.text.proofs.scanning.ending.Goals as goal

pub returns-in-Some-eq10 : goal.returns-in-Some-eq10
returns-in-Some-eq10 c =
    let first = c.in-Some-eq44.ensures.lookup.3 in
    let last = c.in-Some-eq10.ensures.lookup.3 in
    ended_none c.args.s.now c.args.at first.0 (omega (arith, first.1 0)) _ last.0 (omega (arith, last.1 0)) c.answer.ensures

pub returns-in-Some-eq10-get : goal.returns-in-Some-eq10-get
returns-in-Some-eq10-get c =
    let first = c.in-Some-eq44.ensures.lookup.3 in
    let last = c.in-Some-eq10-get.ensures.lookup.3 in
    ended_there c.args.s.now c.args.at first.0 (omega (arith, first.1 0)) _ c.number-target.result c.position.result c.position.ensures c.number-target.ensures last.0 (omega (arith, last.1 0))
