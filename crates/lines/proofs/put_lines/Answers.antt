-- `lines::put_lines` meets its contract: one text after another. Assumes nothing.
use native.Mathlib.Omega.{arith}
use Rattle.printing.proofs.WroteLaws.{then, at_most}
use Rattle.lines.specs.Printing.{lines_text}
use Rattle.lines.proofs.put_lines.Goals as goal

pub returns : goal.returns
unfolding lines_text
returns c = at_most (omega (arith, c.requires.1)) (then c.put_rows-a.ensures (then c.put_word-b.ensures c.put_numbers.ensures))
