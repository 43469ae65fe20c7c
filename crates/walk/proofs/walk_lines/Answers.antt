-- `walk::walk_lines` meets its contract. The loop's invariant: what is left of the walk gives the same verdict as the whole. Assumes nothing.
use mathlib.Core.Path.{refl, sym, ap, ◌∙◌}
use mathlib.Core.List.{List}
use Prim.Native.Nat.{ℕ}
use native.Mathlib.Omega.{arith}
use Rattle.model.specs.Stored.{lines, line_at}
use Rattle.sets.specs.Walk.{lists_of, onto, walk}
use Rattle.sets.specs.Addresses.{leads}
use Rattle.choices.specs.Gathering.{line_by}
use Rattle.walk.specs.Moves.{moves}
use Rattle.sets.proofs.Sound.{onto-full}
use Rattle.walk.proofs.WalkLaws.{begins, spends, balances, ends, goes_on}
use Rattle.walk.proofs.walk_lines.Goals as goal

pub loop-counter-init : goal.loop-counter-init
loop-counter-init c =
    let p = c.requires in (
      omega arith,
      p.2,
      p.3,
      rw c.holding-bus.ensures (omega arith),
      begins _ _ _ _ ∙ ap (λ (b : List ℕ). walk (lines c.args.program.now) c.args.budget 0 0 (lists_of c.args.sets.now) b) c.holding-bus.ensures,
    )

pub returns-then-budget-steps : goal.returns-then-budget-steps
returns-then-budget-steps c =
    let x = c.args in
    let m = c.loop-counter in
    let p = c.requires in
    let t = c.loop-counter-test in
    let i1 = c.if-budget-steps in
    spends x.program.now m.counter m.steps x.budget (lists_of m.sets) m.bus (omega (arith, p.0, t.true)) i1.true ∙ m.invariant.4

pub step-requires : goal.step-requires
step-requires c =
    let p = c.requires in
    let t = c.loop-counter-test in
    let m = c.loop-counter in
    (omega (arith, p.1, t.true), m.invariant.1, m.invariant.2, m.invariant.3)

pub loop-counter-preserved : goal.loop-counter-preserved
loop-counter-preserved c =
    let f = c.step in
    let m = c.loop-counter in
    let n = c.numbers_at-line in
    let d = c.in-To in
    let i1 = c.if-budget-steps in
    let x = c.args in
    let p = c.requires in
    let t = c.loop-counter-test in
    let e = (f.ensures.value ∙ ap (λ (a : List ℕ). moves (lists_of m.sets) m.bus (line_by a) m.counter) n.ensures) in
    let w = f.ensures.sets_after d.next d.is in
    let v = f.ensures.bus_after d.next d.is in
    let r = v.0 ∙ ap (λ (a : List ℕ). leads (lists_of m.sets) m.bus (line_by a)) n.ensures in
    let s = w.0 ∙ ap (λ (a : List ℕ). onto (lists_of m.sets) (line_by a)) n.ensures in (
      omega (arith, i1.false),
      w.1,
      rw s (onto-full (lists_of m.sets) (line_at x.program.now m.counter) m.invariant.2),
      v.1,
      goes_on x.program.now m.counter m.steps x.budget (lists_of m.sets) m.bus (omega (arith, p.0, t.true)) i1.false _ _ _ _ _ e d.is s r m.invariant.2 m.invariant.3 m.invariant.4,
    )

pub returns-in-Leaks : goal.returns-in-Leaks
returns-in-Leaks c =
    let x = c.args in
    let m = c.loop-counter in
    let p = c.requires in
    let t = c.loop-counter-test in
    let i1 = c.if-budget-steps in
    let f = c.step in
    let n = c.numbers_at-line in
    ends x.program.now m.counter m.steps x.budget (lists_of m.sets) m.bus (omega (arith, p.0, t.true)) i1.false _ _ (sym c.in-Leaks.is ∙ (f.ensures.value ∙ ap (λ (a : List ℕ). moves (lists_of m.sets) m.bus (line_by a) m.counter) n.ensures)) refl ∙ m.invariant.4

pub returns-in-Refuses : goal.returns-in-Refuses
returns-in-Refuses c =
    let x = c.args in
    let m = c.loop-counter in
    let p = c.requires in
    let t = c.loop-counter-test in
    let i1 = c.if-budget-steps in
    let f = c.step in
    let n = c.numbers_at-line in
    ends x.program.now m.counter m.steps x.budget (lists_of m.sets) m.bus (omega (arith, p.0, t.true)) i1.false _ _ (sym c.in-Refuses.is ∙ (f.ensures.value ∙ ap (λ (a : List ℕ). moves (lists_of m.sets) m.bus (line_by a) m.counter) n.ensures)) refl ∙ m.invariant.4

pub returns : goal.returns
returns c =
    let x = c.args in
    let m = c.loop-counter in
    let p = c.requires in
    let t = c.loop-counter-test in
    balances x.program.now m.counter m.steps x.budget (lists_of m.sets) m.bus (omega (arith, p.0, t.false)) ∙ m.invariant.4
