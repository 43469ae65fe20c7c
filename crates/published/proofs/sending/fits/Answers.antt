-- `published::sending::fits` meets its contract: by the longest lines, or by the text printed where there is no room. Assumes nothing.
use mathlib.Core.Path.{◌∙◌}
use borrow.Author.Tests.{le-leb}
use Rattle.published.proofs.SendLaws.{fits_any, fits_printed}
use Rattle.published.proofs.sending.fits.Goals as goal

pub returns-then-n-room : goal.returns-then-n-room
returns-then-n-room c = le-leb _ _ c.if-n-room.true ∙ fits_any c.args.program.now c.args.n c.args.room c.if-n-room.true

pub returns-else-n-room : goal.returns-else-n-room
returns-else-n-room c = fits_printed c.args.program.now c.args.n c.args.room c.print.ensures
