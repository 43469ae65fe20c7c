-- `watch::watch_places` meets its contract: each watch is a fresh one of its place. Assumes nothing.
use Rattle.std.proofs.Common.{◌≡◌, List, map, get_or, sym, ap, ◌∙◌, arith, rules}
use Rattle.std.proofs.lemmas.List.{same_lists, get_or-map, length-map}
use Rattle.watch.specs.declared.Watch.{Watch}
use Rattle.watch.specs.Watches.{unused, watch_outcome}
use Rattle.watch.proofs.watch_places.Goals as goal

pub returns : goal.returns
returns c =
    let x = c.args in
    let mapped = c.map-watches.ensures.items in
    let made : c.map-watches.result ≡ map unused x.places = same_lists _ _ (omega (arith, mapped.long, length-map x.places unused)) (λ k d h.
    let called = (mapped.at k 0 d (omega (arith, h, mapped.long))).2 in
    let e : get_or c.map-watches.result k d ≡ unused (get_or x.places k 0) = search rules in
    e ∙ sym (get_or-map unused x.places k 0 d (omega (arith, h, mapped.long)))) in
    c.run_watched-answer.ensures ∙ ap (λ (ws : List Watch). watch_outcome x.program.now x.start x.budget x.state.now x.trace.now ws) made
