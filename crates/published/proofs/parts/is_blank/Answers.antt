-- `published::parts::is_blank` meets its contract. Assumes nothing.
use mathlib.Core.Path.{sym}
use Rattle.published.proofs.PartLaws.{no_blank}
use Rattle.published.proofs.parts.is_blank.Goals as goal

pub returns-then-b-gt32 : goal.returns-then-b-gt32
returns-then-b-gt32 c = sym (no_blank c.args.b c.if-b-gt32.true)
