-- `printing::size::text_size` meets its contract: the bytes so far and those of the lines left are always those of the text. Assumes nothing.
use Prim.Native.Nat.{ℕ}
use mathlib.Core.Path.{◌≡◌, ap, ◌∙◌}
use mathlib.Core.List.{List}
use native.Mathlib.Omega.{arith}
use lib.ListN.{length, get_or}
use Rattle.model.specs.Stored.{line_at, line_of}
use Rattle.model.specs.Text.{spell_line}
use Rattle.printing.proofs.PrintLaws.{sized-next, sized_all}
use Rattle.printing.proofs.size.text_size.Goals as goal

pub loop-i-preserved : goal.loop-i-preserved
loop-i-preserved c =
    let p = c.args.program.now in
    let e : c.line_size-size.result ≡ length (spell_line (line_at p c.loop-i.i)) =
    c.line_size-size.ensures.0 (get_or c.numbers_at-l.result 0 0) (get_or c.numbers_at-l.result 1 0) ∙ ap (λ (l : List ℕ). length (spell_line (line_of (get_or l 0 0) (get_or l 1 0) (get_or l 2 0) (get_or l 3 0) (get_or l 4 0) (get_or l 5 0)))) c.numbers_at-l.ensures in
    sized-next p c.args.n c.loop-i.size c.loop-i.i c.loop-i.invariant c.loop-i-test.true _ (omega (arith, e)) (omega (arith, c.line_size-size.ensures.1))

pub returns : goal.returns
returns c = sized_all c.args.program.now c.args.n c.loop-i.size c.loop-i.i c.loop-i.invariant c.loop-i-test.false
