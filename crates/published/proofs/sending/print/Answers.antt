-- `published::sending::print` meets its contract: line after line, what is left gives the whole text. Assumes nothing.
use mathlib.Core.Path.{ap, ◌∙◌}
use Prim.Native.Nat.{ℕ}
use mathlib.Core.List.{List, [], ◌∷◌, ◌++◌}
use mathlib.Core.Bool.{Bool}
use native.Mathlib.Omega.{arith}
use Rattle.published.specs.Published.{instruction_text, label_line}
use Rattle.model.specs.Text.{newline}
use Rattle.model.specs.Stored.{line_at}
use Rattle.printing.proofs.WroteLaws.{then, as_text}
use Rattle.published.proofs.SendLaws.{printed_none, printed-next, printed_all}
use Rattle.published.proofs.sending.print.Goals as goal

pub loop-i-init : goal.loop-i-init
loop-i-init c = printed_none c.args.program.now c.args.out.now c.args.n

pub bounds-used-i : goal.bounds-used-i
bounds-used-i c = omega (arith, c.requires.0, c.requires.1, c.loop-i-test.true)

pub overflow_cast-i : goal.overflow_cast-i
overflow_cast-i c = omega (arith, c.requires.0, c.loop-i-test.true)

pub put_label-named-requires : goal.put_label-named-requires
put_label-named-requires c = omega (arith, c.requires.0, c.loop-i.invariant.near, c.loop-i.invariant.few)

pub put_instruction-at-requires : goal.put_instruction-at-requires
put_instruction-at-requires c = omega (arith, c.requires.0, c.loop-i.invariant.near, c.loop-i.invariant.few, c.put_label-named.ensures.near)

pub loop-i-preserved : goal.loop-i-preserved
loop-i-preserved c =
    let i = c.loop-i.i in
    let p = c.args.program.now in
    let in-range = c.loop-i-test.true in
    printed-next p c.args.out.now c.loop-i.out c.args.n c.loop-i.at i c.loop-i.invariant in-range
    (then
    (as_text (ap (λ (t : Bool). label_line t i) (c.requires.2 i (omega (arith, c.requires.0, in-range)))) c.put_label-named.ensures)
    (as_text (ap (λ (l : List ℕ). instruction_text (line_at l 0) ++ (newline ∷ [])) c.numbers_at.ensures) c.put_instruction-at.ensures))
    (c.put_instruction-at.auto.out ∙ c.put_label-named.auto.out)

pub bounds-used-n : goal.bounds-used-n
bounds-used-n c = omega (arith, c.requires.0, c.requires.1)

pub overflow_cast-n : goal.overflow_cast-n
overflow_cast-n c = omega (arith, c.requires.0)

pub put_label-requires : goal.put_label-requires
put_label-requires c = omega (arith, c.requires.0, c.loop-i.invariant.near, c.loop-i.invariant.few)

pub shape_of-out : goal.shape_of-out
shape_of-out c = c.put_label.auto.out ∙ c.loop-i.invariant.long

pub returns : goal.returns
returns c =
    let p = c.args.program.now in
    let n = c.args.n in
    printed_all p c.args.out.now c.loop-i.out n c.loop-i.at c.loop-i.i c.loop-i.invariant c.loop-i-test.false
    (as_text (ap (λ (t : Bool). label_line t n) (c.requires.2 n c.requires.0)) c.put_label.ensures)
