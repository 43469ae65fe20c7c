-- `choices::explore` meets its contract. The measure of the calls is what is left of the arguments' places, that of the loop what is
-- left of the values; the loop's invariant is in proofs/Narrowing. Assumes nothing.
use mathlib.Core.Path.{sym, ap, ◌∙◌}
use mathlib.Core.List.{List}
use Prim.Native.Nat.{ℕ, ◌+◌, ◌<◌}
use native.Mathlib.Omega.{arith}
use borrow.Author.Tests.{ltb-true}
use lib.ListN.{length, drop}
use Rattle.sets.specs.Walk.{listed, lists_of, values, heads, draw, involved}
use Rattle.choices.specs.Gathering.{gathered, visited_all, line_by}
use Rattle.choices.proofs.Gathered.{many_stays}
use Rattle.choices.proofs.Narrowing.{opened, turned_none, turned-next, turned_all, within, few-values, read_value, narrowed_state, narrowed_settled}
use Rattle.choices.proofs.+explore.Goals as goal

pub returns-then-is_overfull-clause-visited : goal.returns-then-is_overfull-clause-visited
returns-then-is_overfull-clause-visited t c = (sym (many_stays _ _ _ _ (ltb-true _ _ (sym c.is_overfull.ensures ∙ c.if-is_overfull.true))), c.requires.2)

pub overflow_mul-count : goal.overflow_mul-count
overflow_mul-count t c = let w = within (opened c.told-sets c.requires.1 c.in-Some.ensures) in omega arith

pub bounds-sets-at : goal.bounds-sets-at
bounds-sets-at t c = let w = within (opened c.told-sets c.requires.1 c.in-Some.ensures) in omega arith

pub overflow_mul-first : goal.overflow_mul-first
overflow_mul-first t c = let w = within (opened c.told-sets c.requires.1 c.in-Some.ensures) in omega arith

pub overflow_add-first : goal.overflow_add-first
overflow_add-first t c = let w = within (opened c.told-sets c.requires.1 c.in-Some.ensures) in omega arith

pub bounds-sets-at-2 : goal.bounds-sets-at-2
bounds-sets-at-2 t c = let w = within (opened c.told-sets c.requires.1 c.in-Some.ensures) in omega arith

pub loop-j-init : goal.loop-j-init
loop-j-init t c = (c.size_of-n.ensures, c.requires.2, turned_none (opened c.told-sets c.requires.1 c.in-Some.ensures) _ _)

pub value_beside-value-requires : goal.value_beside-value-requires
value_beside-value-requires t c =
    let P = opened c.told-sets c.requires.1 c.in-Some.ensures in
    let I = c.loop-j.invariant in
    (within P, few-values P I.2 (omega (arith, I.0)))

pub explore-seen-requires : goal.explore-seen-requires
explore-seen-requires t c =
    let P = opened c.told-sets c.requires.1 c.in-Some.ensures in
    let I = c.loop-j.invariant in
    let e = c.narrow.ensures in
    let v = c.value_beside-value.result in (
      omega (arith, c.decreases, P.opens.least, P.argument),
      (
        omega (arith, P.argument),
        e.1 ∙ narrowed_state P I.2 v ∙ sym (ap (λ (b : List ℕ). heads (lists_of b)) e.0),
        I.1,
        rw e.0 (narrowed_settled P I.2 v),
      ),
    )

pub loop-j-preserved : goal.loop-j-preserved
loop-j-preserved t c =
    let P = opened c.told-sets c.requires.1 c.in-Some.ensures in
    let I = c.loop-j.invariant in
    let e = c.explore-seen.ensures in
    let v = c.value_beside-value in
    let l = line_by c.args.line.now in
    let now = gathered (listed c.loop-j.found) c.loop-j.seen c.loop-j.row in
    let h : c.loop-j.j < length (values (lists_of c.args.sets.now) c.in-Some.field-0.at) = omega (arith, I.0) in (
      I.0,
      e.visited.1,
      turned-next P I.2 v.result _ _ _ h (read_value P I.2 h v.ensures) (e.unchanged.0 ∙ c.narrow.ensures.0) (e.unchanged.1 ∙ c.narrow.ensures.1)
          (e.visited.0 ∙ ap (λ (b : List ℕ). visited_all l c.args.counter now (draw (lists_of b) (drop (c.in-Some.field-0.level + 1) (involved l)))) c.narrow.ensures.0),
    )

pub returns-clause-visited : goal.returns-clause-visited
returns-clause-visited t c =
    let P = opened c.told-sets c.requires.1 c.in-Some.ensures in
    let I = c.loop-j.invariant in
    (turned_all P I.2 (omega (arith, I.0)), I.1)
