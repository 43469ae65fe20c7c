-- `text::line::front` meets its contract. Assumes nothing.
use mathlib.Core.Path.{ap, ◌∙◌}
use mathlib.Core.Logic.{⊎_elim}
use Rattle.model.specs.Limits.{line_reach}
use borrow.Author.Tests.{le-leb, lt-leb}
use Rattle.model.specs.Text.{parsed_text}
use Rattle.model.proofs.ReadingLaws.{front_line_lem}
use Rattle.text.proofs.PartLaws.{before-first}
use Rattle.text.proofs.line.front.Goals as goal

pub returns-then-n-ge-LINE_REACH : goal.returns-then-n-ge-LINE_REACH
returns-then-n-ge-LINE_REACH c =
    rw (front_line_lem c.args.text.now, ← c.requires)
    (⊎_elim (λ h. rw (le-leb line_reach c.args.n h)) (λ h. rw (lt-leb line_reach c.args.n h.0, le-leb _ _ h.1)) c.then-n-ge-LINE_REACH.either)

pub returns : goal.returns
returns c = rw (front_line_lem c.args.text.now, ← c.requires, lt-leb _ _ c.if-n-ge-LINE_REACH.false, lt-leb _ _ c.if-text-n.false) (c.parse.ensures ∙ ap parsed_text (before-first 10 c.args.text.now c.args.n c.requires))
