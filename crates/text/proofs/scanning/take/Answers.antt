-- `text::scanning::take` meets its contract: a line within the first bytes is a line of the text. Assumes nothing.
use Prim.Native.Nat.{◌≤◌}
use mathlib.Core.Path.{sym, ap, ◌∙◌}
use native.Mathlib.Omega.{arith}
use lib.ListN.{length}
use Rattle.text.specs.Fields.{found}
use Rattle.text.proofs.ScanLaws.{taken}
use Rattle.text.proofs.scanning.take.Goals as goal

pub returns : goal.returns
returns c =
    let fits : c.min-reach.result ≤ length c.args.text.now = omega arith in
    taken c.args.text.now c.min-reach.result _ _ _ _ _ c.if-reach-lt5.false fits
    (sym c.mark.ensures ∙ ap found c.in-Some.is) c.if-s-ne44.false (sym c.opcode.ensures ∙ ap found c.in-Some-opcode.is) c.operands.result c.operands.ensures
