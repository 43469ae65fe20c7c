-- `published::send_out` meets its contract: the lines that are read, and their published text, or what a longer text is refused with. Assumes nothing.
use Prim.Native.Nat.{ℕ, ◌*◌}
use lib.ListN.{length-replicate}
use Rattle.model.specs.Limits.{line_width, max_accepted}
use lib.Seq.{length-take-le}
use mathlib.Core.Path.{sym}
use Rattle.published.proofs.LongTexts.{not_read, send_refused, store_front, send_done}
use Rattle.published.proofs.send_out.Goals as goal

pub refuse-requires : goal.refuse-requires
refuse-requires c = not_read c.args.text.now _ _ c.read.result (length-replicate {A = ℕ} (line_width * max_accepted) 0) c.read.ensures _ c.in_default.is

pub returns-in_default : goal.returns-in_default
returns-in_default c = send_refused c.args.text.now c.args.out.now _ (not_read c.args.text.now _ _ c.read.result (length-replicate {A = ℕ} (line_width * max_accepted) 0) c.read.ensures _ c.in_default.is) c.refuse.ensures

pub slice_bounds-store-end : goal.slice_bounds-store-end
slice_bounds-store-end c = store_front c.args.text.now _ _ c.read.result _ c.in-Ok.is c.read.ensures

pub slice_bounds-publish-end : goal.slice_bounds-publish-end
slice_bounds-publish-end c = sym (length-take-le (6 * c.in-Ok.n) _ (store_front c.args.text.now _ _ c.read.result _ c.in-Ok.is c.read.ensures))

pub returns : goal.returns
returns c = send_done c.args.text.now _ _ c.read.result _ c.in-Ok.is c.read.ensures c.args.out.now _ c.publish.ensures
