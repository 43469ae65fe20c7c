-- `text::fields::target` meets its contract: it finds what the model's search finds. Assumes nothing.
use mathlib.Core.Path.{◌≡◌, ap, ◌∙◌}
use native.Mathlib.Omega.{arith}
use borrow.Author.Tests.{eq-eqb, ne_eqb}
use lib.ListN.{length}
use Rattle.text.specs.Fields.{found}
use Rattle.std.specs.Prelude.{Some}
use Rattle.text.proofs.OperandLaws.{read_target, target_reads}
use Rattle.text.proofs.fields.target.Goals as goal

pub returns-in-empty : goal.returns-in-empty
unfolding read_target
returns-in-empty c =
    let s = c.args.s.now in
    let e : Some 0 ≡ read_target s = rw (eq-eqb (length s) 0 (omega arith)) in
    ap found e ∙ target_reads s

pub returns-in_default : goal.returns-in_default
unfolding read_target
returns-in_default c =
    let s = c.args.s.now in
    let e : c.plain.result ≡ read_target s = rw (ne_eqb (length s) 0 (λ e. omega arith)) c.plain.ensures in
    ap found e ∙ target_reads s
