-- `watch::unwatchable` meets its contract: too many, or one past the state. Assumes nothing.
use Rattle.std.proofs.Common.{◌∙◌, leb, lt-ltb, le-ltb, rules, tests}
use Rattle.std.proofs.lemmas.Iterator.{YieldsList-from_slice}
use Rattle.std.proofs.lemmas.Iterator.Search.{any_from_yields_List}
use Rattle.model.specs.Limits.{state_size}
use Rattle.watch.specs.declared.Watch.{Watch}
use Rattle.watch.specs.Watches.{unwatchable}
use Rattle.watch.proofs.Rows.{any-past}
use Rattle.watch.proofs.unwatchable.Goals as goal

pub returns-then-too_many : goal.returns-then-too_many
unfolding unwatchable
returns-then-too_many c = rw (lt-ltb _ _ c.if-too_many.true)

pub returns-else-too_many : goal.returns-else-too_many
unfolding unwatchable
returns-else-too_many c = rw (le-ltb _ _ c.if-too_many.false) (
    any_from_yields_List (λ (w : Watch). leb state_size w.place) _ _ c.any.result c.any.ensures.ran (YieldsList-from_slice c.args.watches.now cc) (λ x b q k. search (rules, tests))
    ∙ any-past c.args.watches.now)
