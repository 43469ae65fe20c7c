-- `walk::is_loose` meets its contract: the base, then what the place may mean. Assumes nothing.
use mathlib.Core.Path.{◌≡◌, sym, ap, ◌∙◌}
use mathlib.Core.Bool.{true, false}
use mathlib.Core.List.{List, map}
use Prim.Native.Nat.{ℕ, suc, ◌≤◌}
use native.Mathlib.Omega.{arith}
use lib.Dec.{ltb}
use lib.ListN.{length, get_or}
use Rattle.model.specs.declared.Kind.{Kind}
use Rattle.model.specs.declared.Mark.{Mark}
use Rattle.model.specs.declared.Operand.{Operand}
use Rattle.model.specs.Places.{State, kind, place}
use Rattle.model.specs.Step.{meaning}
use Rattle.model.specs.Stored.{operand_of}
use Rattle.model.proofs.Operands.{kind-place}
use Rattle.sets.specs.Walk.{Sets, set_width, max_values, listed, lists_of, values, distinct, several, heads, base, meanings, loose}
use Rattle.choices.proofs.SetBytes.{listed-few}
use borrow.Author.Rules.{rules}
use Rattle.walk.proofs.is_loose.Goals as goal

module _ (S : Sets) (m : Mark) (o : Operand) where
  by-base : several (values S (base o)) ≡ true → true ≡ loose S m o
  unfolding loose
  by-base e = rw e

  -- what was noted of the place that the operand names, which is of its kind
  meant : (s : State) (at : ℕ) (u : List ℕ) → s ≡ heads S → at ≡ place o s → listed u ≡ distinct (map (meaning m (kind at)) (values S at)) → listed u ≡ meanings S m o
  unfolding meanings
  meant s at u es ea e =
      let q : at ≡ place o (heads S) = ea ∙ ap (place o) es in
      e ∙ ap (λ (i : ℕ). distinct (map (meaning m (kind i)) (values S i))) q
      ∙ ap (λ (k : Kind). distinct (map (meaning m k) (values S (place o (heads S))))) (kind-place o (heads S))

  by_place : (u : List ℕ) → several (values S (base o)) ≡ false → length u ≡ suc set_width → get_or u 0 0 ≤ max_values → listed u ≡ meanings S m o → ltb 1 (get_or u 0 0) ≡ loose S m o
  unfolding loose
  by_place u b l h e = rw b (ap (λ (n : ℕ). ltb 1 n) (sym (listed-few u set_width l (omega arith)) ∙ ap length e))

pub returns-then-is_several : goal.returns-then-is_several
returns-then-is_several c =
    let S = lists_of c.args.sets.now in
    c.if-is_several.true ∙ by-base S _ (operand_of c.args.code) (ap (λ (i : ℕ). several (values S i)) (sym c.base_of.ensures) ∙ sym c.is_several.ensures ∙ c.if-is_several.true)

pub returns-else-is_several : goal.returns-else-is_several
returns-else-is_several c =
    let S = lists_of c.args.sets.now in
    let d = c.distinct_at in
    by_place S _ (operand_of c.args.code) d.result (ap (λ (i : ℕ). several (values S i)) (sym c.base_of.ensures) ∙ sym c.is_several.ensures ∙ c.if-is_several.false)
    (search rules) d.ensures.1 (meant S _ (operand_of c.args.code) _ _ d.result c.requires c.place_at.ensures d.ensures.0)
