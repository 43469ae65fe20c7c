-- `published::labels::bucket` meets its contract: the number of the bytes so far, and the bytes left. Assumes nothing.
use mathlib.Core.Path.{sym, ap, ◌∙◌}
use Prim.Native.Nat.{ℕ, ◌+◌, ◌-◌}
use mathlib.Core.List.{List}
use lib.ListN.{length, take, drop}
use Rattle.published.specs.Table.{hash_from}
use Rattle.published.proofs.TableLaws.{hash_more, bucket_is}
use Rattle.published.proofs.labels.bucket.Goals as goal

pub loop-b-preserved : goal.loop-b-preserved
loop-b-preserved c =
    let name = c.args.name.now in
    let last : List ℕ = take (length name - c.saturating_sub.result) (drop c.saturating_sub.result name) in
    (c.mixed-h.ensures.1, ap (λ (k : ℕ). hash_from k (drop (c.loop-b.b-index + 1) last)) c.mixed-h.ensures.0 ∙ sym (hash_more last c.loop-b.h c.loop-b.b-index c.loop-b-test.true) ∙ c.loop-b.invariant.1)

pub returns : goal.returns
returns c =
    let name = c.args.name.now in
    let last : List ℕ = take (length name - c.saturating_sub.result) (drop c.saturating_sub.result name) in
    bucket_is name last c.loop-b.h c.loop-b.b-index c.loop-b-test.false c.loop-b.invariant.1
