-- `text::scanning::digits` meets its contract: the number so far and what is left of the text are always what stood there. Assumes nothing.
use borrow.Author.Rules.{rules}
use Rattle.text.proofs.ScanLaws.{next_digit}
use Rattle.text.proofs.scanning.digits.Goals as goal

pub loop-i-preserved : goal.loop-i-preserved
loop-i-preserved c = (search rules, (search rules, next_digit _ c.args.s.now c.loop-i.k c.loop-i.i c.loop-i-test.true (search rules) c.if-b-lt48.false c.if-b-gt57.false (search rules) c.loop-i.invariant.1.1))
