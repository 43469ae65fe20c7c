-- `lines::reader::step_at` meets its contract: nothing is left at the text's end, and else there is a line. Assumes nothing.
use mathlib.Core.Option.{some}
use mathlib.Core.Path.{ap, ◌∙◌}
use native.Mathlib.Omega.{arith}
use lib.ListN.{drop, length-drop}
use Rattle.lines.proofs.ReaderLaws.{step_end, step_line}
use Rattle.lines.proofs.reader.step_at.Goals as goal

pub returns-then-at-text : goal.returns-then-at-text
returns-then-at-text c =
    let a = c.args in
    ap some c.front_at.ensures ∙ step_line (drop a.at a.text.now) (omega (arith, length-drop a.at a.text.now))

pub returns-else-at-text : goal.returns-else-at-text
returns-else-at-text c =
    let a = c.args in
    step_end (drop a.at a.text.now) (omega (arith, length-drop a.at a.text.now))
