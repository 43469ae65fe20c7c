-- `watch::note` meets its contract. The loop's invariant: the watches before the one in turn are brought up to date. Assumes nothing.
use Rattle.std.proofs.Common.{◌≡◌}
use Rattle.watch.specs.Noting.{noted}
use Rattle.watch.proofs.Rows.{upto}
use Rattle.watch.proofs.note.Given as goal

abbrev pub invariant-loop-w : goal.invariant-loop-w
invariant-loop-w l = l.watches ≡ upto (noted l.state l.place l.step) l.w-index l.initial.watches
