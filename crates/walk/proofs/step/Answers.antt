-- `walk::step` meets its contract: 21, then what was gathered at the choices decides, then the bus. Assumes nothing.
use mathlib.Core.Path.{sym, ap, ◌∙◌}
use mathlib.Core.List.{List}
use Prim.Native.Nat.{ℕ}
use native.Mathlib.Omega.{arith}
use borrow.Author.Tests.{ltb-true, ltb-false}
use lib.ListN.{length}
use Rattle.model.specs.declared.Condition.TheVariants.{SeveralValues, TooManyValues}
use Rattle.walk.specs.declared.Move.TheVariants.{To}
use Rattle.model.specs.Step.{next}
use Rattle.sets.specs.Walk.{max_values, set_width, listed, lists_of, heads, onto}
use Rattle.sets.specs.Addresses.{leads}
use Rattle.choices.specs.Bus.{meets}
use Rattle.choices.specs.Gathering.{gathered, line_by}
use Rattle.choices.proofs.Gathered.{full_some}
use Rattle.choices.proofs.SetBytes.{listed-few}
use Rattle.walk.proofs.StepLaws.{settled_none, told_all, no_to, leaks_to, moves_21, moves_22, moves_leak, moves-apart, moves_on, all_told}
use borrow.Author.Rules.{rules}
use Rattle.walk.proofs.step.Goals as goal
use Rattle.walk.proofs.step.Goals.{then-leak-via-then-leak, then-leak-via-else-leak+then-not-is_met}

pub returns-then-is_unsettled : goal.returns-then-is_unsettled
returns-then-is_unsettled c =
    let S = lists_of c.args.sets.now in
    let bus = c.args.bus.now in
    let l = line_by c.args.line.now in
    let k = c.args.counter in
    record { value = moves_21 S bus l k (sym c.is_unsettled.ensures ∙ c.if-is_unsettled.true); sets_after = λ n q. absurd (no_to SeveralValues n q); bus_after = λ n q. absurd (no_to SeveralValues n q) }

pub explore-leak-requires : goal.explore-leak-requires
explore-leak-requires c =
    let S = lists_of c.args.sets.now in
    let bus = c.args.bus.now in
    let l = line_by c.args.line.now in
    let k = c.args.counter in
    (omega arith, c.requires.1, omega arith, settled_none S l c.requires.2 (sym c.is_unsettled.ensures ∙ c.if-is_unsettled.false))

pub returns-then-is_overfull : goal.returns-then-is_overfull
returns-then-is_overfull c =
    let S = lists_of c.args.sets.now in
    let bus = c.args.bus.now in
    let l = line_by c.args.line.now in
    let k = c.args.counter in
    let u = sym c.is_unsettled.ensures ∙ c.if-is_unsettled.false in
    let f = c.explore-leak.new.found in
    let g = gathered (listed f) c.explore-leak.result c.explore-leak.new.row in
    let h = told_all S l k g _ c.requires.2 c.explore-leak.ensures.visited.0 in
    record { value = moves_22 S bus l k u g h (ltb-true max_values (length (listed f)) (sym c.is_overfull.ensures ∙ c.if-is_overfull.true)); sets_after = λ n q. absurd (no_to TooManyValues n q); bus_after = λ n q. absurd (no_to TooManyValues n q) }

pub returns-then-leak : goal.returns-then-leak
returns-then-leak c =
    let S = lists_of c.args.sets.now in
    let bus = c.args.bus.now in
    let l = line_by c.args.line.now in
    let k = c.args.counter in
    let u = sym c.is_unsettled.ensures ∙ c.if-is_unsettled.false in
    let f = c.explore-leak.new.found in
    let g = gathered (listed f) c.explore-leak.result c.explore-leak.new.row in
    let h = told_all S l k g _ c.requires.2 c.explore-leak.ensures.visited.0 in
    let few = ltb-false max_values (length (listed f)) (sym c.is_overfull.ensures ∙ c.if-is_overfull.false) in record {
      value = elim c.then-leak.branch [
        | then-leak-via-then-leak w ↦ moves_leak S bus l k u g h c.requires.2 c.requires.3 few w.if-leak.true
        | then-leak-via-else-leak+then-not-is_met w ↦
            let met = w.is_met.ensures ∙ ap (λ (b : List ℕ). meets (lists_of b) bus l) c.explore-leak.ensures.unchanged.0 in
            moves-apart S bus l k u g h c.requires.2 c.requires.3 few w.if-leak.false (sym met ∙ w.if-not-is_met.true)
      ];
      sets_after = λ n q. absurd (leaks_to n q);
      bus_after = λ n q. absurd (leaks_to n q);
    }

pub is_met-requires : goal.is_met-requires
is_met-requires c = (rw c.explore-leak.ensures.unchanged.0 (full_some (lists_of c.args.sets.now) c.requires.2), c.requires.3)

pub go_on-requires : goal.go_on-requires
go_on-requires c =
    let S = lists_of c.args.sets.now in
    let bus = c.args.bus.now in
    let l = line_by c.args.line.now in
    let k = c.args.counter in
    let u = sym c.is_unsettled.ensures ∙ c.if-is_unsettled.false in
    let f = c.explore-leak.new.found in
    let g = gathered (listed f) c.explore-leak.result c.explore-leak.new.row in
    let h = told_all S l k g _ c.requires.2 c.explore-leak.ensures.visited.0 in
    let few = ltb-false max_values (length (listed f)) (sym c.is_overfull.ensures ∙ c.if-is_overfull.false) in
    let e = c.explore-leak.ensures.unchanged.0 in (
      c.requires.0,
      rw (e, c.explore-leak.ensures.unchanged.1) c.requires.1,
      rw e c.requires.2,
      c.requires.3,
      omega (arith, listed-few f set_width (search rules) c.explore-leak.ensures.visited.1, few),
      rw e (all_told S bus l k u g h few).0,
    )

pub returns : goal.returns
returns c =
    let S = lists_of c.args.sets.now in
    let bus = c.args.bus.now in
    let l = line_by c.args.line.now in
    let k = c.args.counter in
    let u = sym c.is_unsettled.ensures ∙ c.if-is_unsettled.false in
    let f = c.explore-leak.new.found in
    let g = gathered (listed f) c.explore-leak.result c.explore-leak.new.row in
    let h = told_all S l k g _ c.requires.2 c.explore-leak.ensures.visited.0 in
    let few = ltb-false max_values (length (listed f)) (sym c.is_overfull.ensures ∙ c.if-is_overfull.false) in
    let e = c.explore-leak.ensures.unchanged.0 in
    let met = c.is_met.ensures ∙ ap (λ (b : List ℕ). meets (lists_of b) bus l) e in
    let w = c.go_on.ensures in record {
      value = ap (λ (j : ℕ). To j) (w.value ∙ ap (λ (b : List ℕ). next l k (heads (lists_of b))) e) ∙ moves_on S bus l k u g h c.requires.2 c.requires.3 few c.if-leak.false (sym met ∙ c.if-not-is_met.false);
      sets_after = λ j q. (w.sets_after.0 ∙ ap (λ (b : List ℕ). onto (lists_of b) l) e, w.sets_after.1);
      bus_after = λ j q. (w.bus_after.0 ∙ ap (λ (b : List ℕ). leads (lists_of b) bus l) e, w.bus_after.1);
    }
