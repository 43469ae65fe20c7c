-- `images::put_page` meets its contract. The constant tables are copied to where the layout has them, then the two codes. Assumes nothing.
use native.Mathlib.Omega.{arith}
use Rattle.images.proofs.TablePage.{none_copied, copied_next, paged-tables}
use Rattle.images.proofs.put_page.Goals as goal

pub loop-k-init : goal.loop-k-init
loop-k-init c = none_copied _ _ _ _ _

pub loop-k-preserved : goal.loop-k-preserved
loop-k-preserved c = copied_next c.args.layout _ _ _ _ _ _ _ c.loop-k.invariant c.put_entry.ensures

pub returns : goal.returns
returns c = paged-tables c.args.layout c.tables_of-tables.result c.args.page.now _ _ (omega arith) c.tables_of-tables.ensures c.loop-k.invariant
