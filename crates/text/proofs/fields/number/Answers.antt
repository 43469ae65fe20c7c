-- `text::fields::number` meets its contract: the arms are the cases of `read_number`. Assumes nothing.
use mathlib.Core.Path.{◌≡◌, sym, ap, ◌∙◌}
use Prim.Native.Nat.{◌-◌}
use native.Mathlib.Omega.{arith}
use borrow.Author.Tests.{eq-eqb, ne_eqb, eqb-true, eqb-false}
use lib.ListN.{length, get_or, take, drop, length-drop}
use Rattle.text.specs.Fields.{read_number}
use Rattle.text.proofs.PartLaws.{rest_all}
use Rattle.text.proofs.fields.number.Goals as goal

pub returns-in-empty : goal.returns-in-empty
unfolding read_number
returns-in-empty c = rw (eq-eqb (length c.args.s.now) 0 (omega arith))

pub returns-then-is_empty : goal.returns-then-is_empty
unfolding read_number
returns-then-is_empty c =
    let s = c.args.s.now in
    let rest : length (take (length s - 1) (drop 1 s)) ≡ length s - 1 = ap length (rest_all s 1) ∙ length-drop 1 s in
    rw (ne_eqb (length s) 0 (λ e. omega arith), eq-eqb (get_or s 0 0) 48 (omega arith), eq-eqb (length s) 1 (omega (arith, eqb-true _ _ (sym c.is_empty.ensures ∙ c.if-is_empty.true))))

pub returns-else-is_empty : goal.returns-else-is_empty
unfolding read_number
returns-else-is_empty c =
    let s = c.args.s.now in
    let rest : length (take (length s - 1) (drop 1 s)) ≡ length s - 1 = ap length (rest_all s 1) ∙ length-drop 1 s in
    rw (ne_eqb (length s) 0 (λ e. omega arith), eq-eqb (get_or s 0 0) 48 (omega arith), ne_eqb (length s) 1 (λ e. omega (arith, eqb-false _ _ (sym c.is_empty.ensures ∙ c.if-is_empty.false))))

pub returns-in_default : goal.returns-in_default
unfolding read_number
returns-in_default c =
    let s = c.args.s.now in
    rw (ne_eqb (length s) 0 (λ e. omega arith), ne_eqb (get_or s 0 0) 48 (λ e. omega arith)) c.digits.ensures
