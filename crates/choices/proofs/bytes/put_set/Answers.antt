-- `choices::bytes::put_set` meets its contract. Assumes nothing.
use mathlib.Core.Path.{ap, ◌∙◌}
use mathlib.Core.List.{List}
use Prim.Native.Nat.{ℕ, ◌+◌, ◌-◌, ◌*◌}
use native.Mathlib.Omega.{arith}
use borrow.Rule.Slice.PartMut.{put_mid}
use lib.ListN.{take}
use lib.Seq.{length-take-le}
use Rattle.sets.specs.Walk.{set_width, lists_of}
use Rattle.choices.proofs.SetBytes.{lists_kept, lists_put}
use Rattle.choices.proofs.bytes.put_set.Goals as goal

pub returns-then-i-ge-STATE_SIZE : goal.returns-then-i-ge-STATE_SIZE
returns-then-i-ge-STATE_SIZE c = lists_kept _ _ _ c.if-i-ge-STATE_SIZE.true

pub returns : goal.returns
returns c =
    let k = set_width * c.args.i in
    let new = take set_width c.args.new.now in
    ap (λ (u : List ℕ). lists_of (put_mid k (k + set_width - k) c.args.sets.now u)) c.copy_from_slice.ensures.after
    ∙ lists_put c.args.sets.now c.told-sets c.args.i c.if-i-ge-STATE_SIZE.false new (length-take-le set_width c.args.new.now c.requires)
