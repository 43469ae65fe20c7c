-- `published::labels::Labels::find` meets its contract: from label to label of one bucket, what is left gives the answer. Assumes nothing.
use mathlib.Core.Path.{sym, ap, ◌∙◌}
use Prim.Native.Nat.{ℕ, ◌-◌}
use mathlib.Core.List.{List}
use native.Mathlib.Omega.{arith}
use Rattle.model.specs.Text.{same_bytes}
use Rattle.published.proofs.TableLaws.{sought_first, sought_there, sought_next, sought_less, sought_none, entry_name}
use Rattle.published.proofs.labels.Labels.find.Goals as goal

pub bounds-self-h : goal.bounds-self-h
bounds-self-h c = omega (arith, c.requires.1, c.args.self.now.linked.head_room)

pub loop-k-init : goal.loop-k-init
loop-k-init c = sought_first c.args.self.now.text.now c.args.self.now.heads c.args.self.now.table c.args.self.now.count c.args.name.now c.args.self.now.linked c.args.h c.requires.0 c.requires.1

pub bounds-self-k : goal.bounds-self-k
bounds-self-k c = omega (arith, c.args.self.now.linked.few, c.args.self.now.linked.room, c.loop-k.invariant.few, c.loop-k-test.true)

pub returns-then-is_same : goal.returns-then-is_same
returns-then-is_same c =
    let e = ap (λ (l : List ℕ). same_bytes l c.args.name.now) (sym (c.part.ensures ∙ entry_name c.args.self.now.text.now c.args.self.now.table (c.loop-k.k - 1))) ∙ sym c.is_same.ensures ∙ c.if-is_same.true in
    sought_there c.args.self.now.text.now c.args.self.now.heads c.args.self.now.table c.args.self.now.count c.args.name.now c.args.self.now.linked c.loop-k.k c.loop-k.invariant c.loop-k-test.true e

pub loop-k-smaller : goal.loop-k-smaller
loop-k-smaller c = sought_less c.args.self.now.text.now c.args.self.now.heads c.args.self.now.table c.args.self.now.count c.args.name.now c.args.self.now.linked c.loop-k.k c.loop-k.invariant c.loop-k-test.true

pub loop-k-preserved : goal.loop-k-preserved
loop-k-preserved c =
    let e = ap (λ (l : List ℕ). same_bytes l c.args.name.now) (sym (c.part.ensures ∙ entry_name c.args.self.now.text.now c.args.self.now.table (c.loop-k.k - 1))) ∙ sym c.is_same.ensures ∙ c.if-is_same.false in
    sought_next c.args.self.now.text.now c.args.self.now.heads c.args.self.now.table c.args.self.now.count c.args.name.now c.args.self.now.linked c.loop-k.k c.loop-k.invariant c.loop-k-test.true e

pub returns : goal.returns
returns c = sought_none c.args.self.now.text.now c.args.self.now.heads c.args.self.now.table c.args.self.now.count c.args.name.now c.args.self.now.linked c.loop-k.k c.loop-k.invariant c.loop-k-test.false
