-- `walk::go_on` meets its contract: what each of the calls leaves. Assumes nothing.
use mathlib.Core.Path.{◌≡◌, ap, ◌∙◌}
use mathlib.Core.List.{List}
use Prim.Native.Nat.{ℕ}
use lib.ListN.{get_or}
use Rattle.model.specs.Places.{State}
use Rattle.model.specs.Step.{next}
use Rattle.model.specs.Stored.{line_of}
use Rattle.sets.specs.Walk.{lists_of}
use Rattle.choices.specs.Gathering.{line_by}
use Rattle.walk.proofs.StepLaws.{leads_some, went, went_heads}
use Rattle.walk.proofs.go_on.Goals as goal

-- where a line goes does not turn on its destination
goes : (n : List ℕ) (k : ℕ) (s t : State) {j : ℕ} → j ≡ next (line_of (get_or n 0 0) (get_or n 1 0) 0 (get_or n 3 0) (get_or n 4 0) (get_or n 5 0)) k s → s ≡ t → j ≡ next (line_by n) k t
unfolding next
goes n k s t e q = e ∙ ap (λ (u : State). next (line_by n) k u) q

pub returns : goal.returns
returns c =
    let n = c.args.line.now in
    let S = lists_of c.args.sets.now in
    let s = c.args.state.now in
    let f = c.args.found.now in
    let at = c.place_at-at.result in
    let lf = c.told-found in
    let bus = c.args.bus.now in record {
      value = goes n c.args.counter _ _ c.next_of-next.ensures c.requires.1;
      sets_after = (
        went S n s f at c.requires.2 c.requires.1 c.place_at-at.ensures lf c.requires.4 c.requires.5 _ c.put_set.ensures,
        went_heads S n s f at c.requires.2 c.requires.1 c.place_at-at.ensures lf c.requires.4 c.requires.5 _ _ c.put_set.ensures c.write.ensures,
      );
      bus_after = (
        c.lead.ensures,
        rw c.lead.ensures (leads_some S bus (line_by n) c.requires.2 c.requires.3),
      );
    }
