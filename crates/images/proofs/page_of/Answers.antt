-- `images::page_of` meets its contract. What is written on zeros is the definition's page. Assumes nothing.
use mathlib.Core.Path.{◌∙◌}
use Rattle.images.proofs.TablePage.{page-made}
use Rattle.images.proofs.page_of.Goals as goal

pub returns : goal.returns
returns c = c.put_page.ensures ∙ page-made c.args.layout c.requires
