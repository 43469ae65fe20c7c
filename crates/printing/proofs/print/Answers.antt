-- `printing::print` meets its contract: what is left to print, after the bytes so far, always gives the whole text. Assumes nothing.
use Prim.Native.Nat.{ℕ}
use mathlib.Core.Path.{ap}
use mathlib.Core.List.{List}
use lib.ListN.{get_or}
use Rattle.model.specs.Stored.{line_of}
use Rattle.model.specs.Text.{spell_line}
use Rattle.printing.proofs.WroteLaws.{as_text}
use Rattle.printing.proofs.PrintLaws.{printed-next, printed_all}
use Rattle.printing.proofs.print.Goals as goal

pub loop-i-preserved : goal.loop-i-preserved
loop-i-preserved c =
    printed-next c.args.program.now c.args.out.now c.loop-i.out c.args.n c.loop-i.at c.loop-i.i c.loop-i.invariant c.loop-i-test.true
    (as_text (ap (λ (l : List ℕ). spell_line (line_of (get_or l 0 0) (get_or l 1 0) (get_or l 2 0) (get_or l 3 0) (get_or l 4 0) (get_or l 5 0))) c.numbers_at-l.ensures) c.put_line-at.ensures)
    c.put_line-at.auto.out

pub returns : goal.returns
returns c = printed_all c.args.program.now c.args.out.now c.loop-i.out c.args.n c.loop-i.at c.loop-i.i c.loop-i.invariant c.loop-i-test.false
