-- `lines::reader::after` meets its contract: the bytes before the newline, and the newline, are passed. Assumes nothing.
use native.Mathlib.Omega.{arith}
use Rattle.lines.proofs.ReaderLaws.{past_end, past-found, past_none}
use Rattle.lines.proofs.reader.after.Goals as goal

pub returns-then-len-at : goal.returns-then-len-at
returns-then-len-at c = past_end 10 c.args.text.now c.args.at c.if-len-at.true

pub returns-then-n-len : goal.returns-then-n-len
returns-then-n-len c = past-found 10 c.args.text.now c.args.at c.find-n.result c.find-n.ensures.0

pub returns-else-n-len : goal.returns-else-n-len
returns-else-n-len c = past_none 10 c.args.text.now c.args.at c.find-n.result c.find-n.ensures.0 (omega arith)
