-- `watch::note` meets its contract: a watch that the step reached is brought up to date, any other stays. Assumes nothing.
use Rattle.std.proofs.Common.{◌≡◌, ◌∙◌, ℕ, List, get_or, eq-eqb, ne_eqb}
use Rattle.watch.specs.declared.Watch.{Watch}
use Rattle.watch.specs.Noting.{reached, noted}
use Rattle.watch.proofs.Rows.{nowhere, wrote, whole}
use Rattle.watch.proofs.note.Goals as goal
use Rattle.watch.proofs.note.Goals.{then-w-place, else-w-place}

-- over plain values
module _ (s : List ℕ) (q k : ℕ) (w : Watch) where
  reached_one : (r : Watch) → w.place ≡ q → r ≡ reached s k w → r ≡ noted s q k w
  reached_one r h e = rw (eq-eqb w.place q h, e)

  passed : (w.place ≡ q → ⊥) → w ≡ noted s q k w
  passed h = rw (ne_eqb w.place q h)

pub loop-w-preserved : goal.loop-w-preserved
loop-w-preserved c =
    let a = c.args in
    let m = c.loop-w in
    let f = noted a.state.now a.place a.step in
    let held = get_or m.watches m.w-index nowhere in
    elim c.if-w-place.branch [
      | then-w-place w ↦ w.watches-is ∙ wrote f m.w-index a.watches.now m.watches m.invariant w.reached.result c.loop-w-test.true (reached_one a.state.now a.place a.step held w.reached.result w.if-w-place.true w.reached.ensures)
      | else-w-place w ↦ w.watches-is ∙ wrote f m.w-index a.watches.now m.watches m.invariant held c.loop-w-test.true (passed a.state.now a.place a.step held w.if-w-place.false)
    ]

pub returns : goal.returns
returns c =
    let a = c.args in
    let m = c.loop-w in
    whole (noted a.state.now a.place a.step) m.w-index a.watches.now m.watches m.invariant c.loop-w-test.false
