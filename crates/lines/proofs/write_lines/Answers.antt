-- `lines::write_lines` meets its contract: printed into an empty part the text leaves nothing and gives its length.
-- Assumes nothing.
use Rattle.lines.specs.Printing.{lines_text}
use Rattle.lines.proofs.LeftLaws.{measured_no_room, measured_fits}
use Rattle.lines.proofs.write_lines.Goals as goal

pub returns-then-out-size : goal.returns-then-out-size
returns-then-out-size c = let x = c.args in measured_no_room (lines_text x.rows.now x.word.now x.last.now) x.out.now c.put_lines-size.ensures c.if-out-size.true

pub returns : goal.returns
returns c = let x = c.args in measured_fits (lines_text x.rows.now x.word.now x.last.now) x.out.now c.put_lines-size.ensures c.if-out-size.false c.put_lines-written.ensures
