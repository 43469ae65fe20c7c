-- `choices::next_open` meets its contract. The loop's invariant: the places so far have one value each, so that nothing is drawn there. Assumes nothing.
use mathlib.Core.Path.{◌≡◌, sym, ap, ◌∙◌}
use mathlib.Core.Bool.{not}
use Prim.Native.Nat.{ℕ, ◌+◌, ◌≤◌, ◌<◌}
use native.Mathlib.Omega.{arith}
use lib.Dec.{T}
use Rattle.model.specs.declared.Line.{Line}
use Rattle.model.specs.Limits.{state_size}
use Rattle.model.specs.Places.{State}
use Rattle.model.proofs.TestLaws.{holds}
use Rattle.sets.specs.Walk.{Sets, values, several, heads}
use Rattle.choices.specs.Gathering.{line_by, argument_places, spot, Opens}
use Rattle.choices.proofs.Exploring.{NoneOpen, skip-place, settled_next}
use Rattle.choices.proofs.next_open.Goals as goal

module _ (S : Sets) (l : Line) (level k : ℕ) where
  here : (at : ℕ) → NoneOpen S l level k → k < argument_places → at ≡ spot l k (heads S) → T (several (values S at)) → Opens S l level k at
  here at I h e t = record { least = I.least; most = I.most; same = I.same; settled = I.settled; here = λ g. (e, t) }

  past : (at : ℕ) → NoneOpen S l level k → k < argument_places → at ≡ spot l k (heads S) → T (not (several (values S at))) → NoneOpen S l level (k + 1)
  past at I h e t =
      let n : T (not (several (values S (spot l k (heads S))))) = rw e at t in
      record { least = omega (arith, I.least); most = omega arith; same = I.same ∙ skip-place S l k h I.settled.some_in n; settled = settled_next S l k I.settled n }

  none : NoneOpen S l level k → argument_places ≤ k → Opens S l level argument_places state_size
  none I g =
      let z : argument_places ≡ k = omega (arith, I.most) in
      record { least = omega (arith, I.least); most = omega arith; same = rw z I.same; settled = rw z I.settled; here = λ h. absurd (omega arith) }

pub returns-then-is_several : goal.returns-then-is_several
returns-then-is_several c = (c.loop-k-test.true, here _ _ _ _ _ c.loop-k.invariant c.loop-k-test.true (c.place_of-at.ensures ∙ ap (λ (s : State). spot (line_by c.args.line.now) c.loop-k.k s) c.requires.1) (holds (sym c.is_several.ensures ∙ c.if-is_several.true)))

pub loop-k-preserved : goal.loop-k-preserved
loop-k-preserved c = past _ _ _ _ _ c.loop-k.invariant c.loop-k-test.true (c.place_of-at.ensures ∙ ap (λ (s : State). spot (line_by c.args.line.now) c.loop-k.k s) c.requires.1) (holds (ap not (sym c.is_several.ensures ∙ c.if-is_several.false)))

pub returns : goal.returns
returns c = none _ _ _ _ c.loop-k.invariant c.loop-k-test.false
