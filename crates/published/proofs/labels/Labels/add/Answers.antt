-- `published::labels::Labels::add` meets its contract: the new label is the last of its bucket. Assumes nothing.
use Prim.Native.Nat.{◌+◌}
use mathlib.Core.Bool.{true}
use mathlib.Core.Path.{◌≡◌, sym, ap, ◌∙◌}
use lib.ListN.{set, get_or, take, drop}
use native.Mathlib.Omega.{arith}
use Rattle.published.specs.Table.{bucket_of, entries, Added}
use Rattle.published.specs.Published.{is_within}
use Rattle.published.proofs.TableLaws.{entry, not_added, few_more, added}
use Rattle.published.proofs.labels.Labels.add.Goals.{Else-not-is_within}
use Rattle.published.proofs.labels.Labels.add.Goals as goal

within : (c : Else-not-is_within) → is_within (entries c.args.self.now.text.now c.args.self.now.table c.args.self.now.count) (take c.args.size (drop c.args.start c.args.self.now.text.now)) ≡ true
within c = ap (is_within (entries c.args.self.now.text.now c.args.self.now.table c.args.self.now.count)) (sym c.part-name.ensures) ∙ sym c.is_within.ensures ∙ c.if-not-is_within.false

added_here : (c : Else-not-is_within) → Added c.args.self.now.text.now c.args.self.now.table (set c.args.self.now.heads c.bucket-h.result (c.args.self.now.count + 1))
    (set c.args.self.now.table c.args.self.now.count (entry c.args.start c.args.size c.args.line (get_or c.args.self.now.heads c.bucket-h.result 0))) c.args.self.now.count (c.args.self.now.count + 1)
    (take c.args.size (drop c.args.start c.args.self.now.text.now)) c.args.line
added_here c =
    added c.args.self.now.text.now c.args.self.now.heads c.args.self.now.table c.args.self.now.count c.args.self.now.linked c.args.start c.args.size c.args.line (within c) c.bucket-h.result
    (c.bucket-h.ensures.0 ∙ ap bucket_of c.part-name.ensures) c.bucket-h.ensures.1

pub returns-then-not-is_within-clause-added : goal.returns-then-not-is_within-clause-added
returns-then-not-is_within-clause-added c =
    let labels = entries c.args.self.now.text.now c.args.self.now.table c.args.self.now.count in
    not_added _ _ _ _ c.args.self.now.linked c.args.start c.args.size c.args.line (ap (is_within labels) (sym c.part-name.ensures) ∙ sym c.is_within.ensures ∙ c.if-not-is_within.true)

pub bounds-self-self : goal.bounds-self-self
bounds-self-self c = omega (arith, c.args.self.now.linked.room, few_more _ _ _ _ c.args.self.now.linked c.args.start c.args.size c.args.line (within (goal.at.bounds-self-self c).Else-not-is_within))

pub invariant_of-self : goal.invariant_of-self
invariant_of-self c = record { linked = (added_here (goal.at.invariant_of-self c).Else-not-is_within).linked }

pub returns-clause-added : goal.returns-clause-added
returns-clause-added c = added_here (goal.at.returns-clause-added c).Else-not-is_within
