-- `watch::begin` meets its contract: each watch is set anew. Assumes nothing.
use Rattle.watch.specs.Noting.{fresh}
use Rattle.watch.proofs.Rows.{wrote, whole}
use Rattle.watch.proofs.begin.Goals as goal

pub loop-w-preserved : goal.loop-w-preserved
loop-w-preserved c = let m = c.loop-w in wrote (fresh c.args.state.now) m.w-index c.args.watches.now m.watches m.invariant _ c.loop-w-test.true c.fresh.ensures

pub returns : goal.returns
returns c = let m = c.loop-w in whole (fresh c.args.state.now) m.w-index c.args.watches.now m.watches m.invariant c.loop-w-test.false
