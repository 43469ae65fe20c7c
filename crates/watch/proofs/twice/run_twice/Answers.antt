-- `watch::twice::run_twice` meets its contract: what the two calls promise, and the claim about them. Assumes nothing.
use Rattle.watch.proofs.WatchClaims.{same_calls}
use Rattle.watch.proofs.twice.run_twice.Goals as goal

pub returns : goal.returns
returns c =
    let a = c.args in
    let w = c.watch_places-seen.ensures in
    let r = c.run-alone.ensures in
    record { watched = w; alone = r; same_calls = same_calls a.program.now a.start a.budget a.state.now a.trace.now a.lone.now a.rows.now a.places _ _ _ w r }
