-- `text::fields::operand` meets its contract: it finds what the model's search finds. Assumes nothing.
use mathlib.Core.Path.{◌≡◌, ap, ◌∙◌}
use native.Mathlib.Omega.{arith}
use borrow.Author.Tests.{eq-eqb, ne_eqb}
use lib.ListN.{length, get_or}
use Rattle.text.specs.Fields.{found, read_kind}
use Rattle.std.specs.Prelude.{Some}
use Rattle.text.proofs.PartLaws.{rest_all}
use Rattle.text.proofs.OperandLaws.{read_operand, operand_reads}
use Rattle.text.proofs.fields.operand.Goals as goal

pub returns-in-empty : goal.returns-in-empty
unfolding read_operand
returns-in-empty c =
    let s = c.args.s.now in
    let e : Some 0 ≡ read_operand s = rw (eq-eqb (length s) 0 (omega arith)) in
    ap found e ∙ operand_reads s

pub returns-in-len1-up : goal.returns-in-len1-up
unfolding read_operand
returns-in-len1-up c =
    let s = c.args.s.now in
    let e : c.kind.result ≡ read_operand s = rw (ne_eqb (length s) 0 (λ e. omega arith)) (c.kind.ensures ∙ ap (read_kind (get_or s 0 0)) (rest_all s 1)) in
    ap found e ∙ operand_reads s
