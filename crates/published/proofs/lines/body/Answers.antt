-- `published::lines::body` meets its contract. Assumes nothing.
use mathlib.Core.Path.{◌∙◌}
use Rattle.published.proofs.PlaceLaws.{body_same, body_next}
use Rattle.published.proofs.lines.body.Goals as goal

pub returns-then-n-eq0 : goal.returns-then-n-eq0
returns-then-n-eq0 c = body_same c.args.s.now c.args.n c.requires.0 c.if-n-eq0.true

pub returns : goal.returns
returns c = c.after.ensures ∙ body_next c.args.s.now c.args.n c.requires.0 c.if-n-eq0.false
