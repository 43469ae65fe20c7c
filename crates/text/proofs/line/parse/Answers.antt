-- `text::line::parse` meets its contract: the parts between the commas are the model's fields. Assumes nothing.
use mathlib.Core.Path.{sym, ◌∙◌}
use borrow.Author.Tests.{ne_eqb}
use Rattle.model.proofs.ReadingLaws.{parsed_text_lem}
use Rattle.text.proofs.LineLaws.{line_parts}
use Rattle.text.proofs.line.parse.Goals as goal

pub returns-then-count-ne5 : goal.returns-then-count-ne5
returns-then-count-ne5 c = rw (parsed_text_lem c.args.s.now, ne_eqb _ _ (λ q. c.if-count-ne5.true (c.count.ensures ∙ q)))

pub returns : goal.returns
returns c =
    c.fields.ensures
    ∙ line_parts c.args.s.now c.beyond-s1.result.now c.beyond-s2.result.now c.beyond-s3.result.now c.beyond-s4.result.now c.beyond-s5.result.now
    c.find-n.result c.find-n1.result c.find-n2.result c.find-n3.result c.find-n4.result
    c.find-n.ensures.0 c.beyond-s1.ensures c.find-n1.ensures.0 c.beyond-s2.ensures c.find-n2.ensures.0 c.beyond-s3.ensures
    c.find-n3.ensures.0 c.beyond-s4.ensures c.find-n4.ensures.0 c.beyond-s5.ensures (sym c.count.ensures ∙ c.if-count-ne5.false)
