-- `published::sending::mark_targets` meets its contract: the targets of the lines so far are told. Assumes nothing.
use mathlib.Core.Path.{sym, ap, ◌∙◌}
use Prim.Native.Nat.{ℕ}
use mathlib.Core.List.{List}
use lib.ListN.{get_or}
use Rattle.published.proofs.SendLaws.{marking_none, marking_next, marking_all}
use Rattle.published.proofs.sending.mark_targets.Goals as goal

pub loop-i-init : goal.loop-i-init
loop-i-init c = marking_none c.args.program.now c.args.used.now c.args.n c.requires.0 c.requires.1

pub loop-i-preserved : goal.loop-i-preserved
loop-i-preserved c = marking_next c.args.program.now c.loop-i.used c.args.n c.loop-i.i _ c.loop-i.invariant c.loop-i-test.true (ap (λ (l : List ℕ). get_or l 5 0) c.numbers_at-l.ensures) c.mark.ensures

pub shape_of-used : goal.shape_of-used
shape_of-used c = c.loop-i.invariant.long ∙ sym c.requires.0

pub returns : goal.returns
returns c = marking_all c.args.program.now c.loop-i.used c.args.n c.loop-i.i c.loop-i.invariant c.loop-i-test.false
