-- `choices::visit` meets its contract: what was noted and compared is what all old values give. Assumes nothing.
use mathlib.Core.Path.{◌≡◌, refl, sym, ap, ap₂, ◌∙◌}
use mathlib.Core.Bool.{Bool, true, false, not, cond, ◌||◌}
use mathlib.Core.List.{List}
use Prim.Native.Nat.{ℕ, suc, ◌≤◌}
use native.Mathlib.Omega.{arith}
use borrow.Author.Tests.{le-ltb}
use borrow.Author.Rules.{rules}
use lib.Dec.{eqb, ltb}
use lib.ListN.{length, get_or, drop}
use Rattle.model.specs.declared.Line.{Line}
use Rattle.model.specs.Limits.{state_size, row_width}
use Rattle.model.specs.Places.{State}
use Rattle.model.specs.Step.{row, distances, result}
use Rattle.model.specs.Stored.{line_of}
use Rattle.machine.specs.declared.Effect.{Effect}
use Rattle.machine.specs.Loop.{effect_of}
use Rattle.sets.specs.Walk.{Sets, max_values, set_width, listed, lists_of, values, heads, draw, involved, insert}
use Rattle.choices.specs.Gathering.{Gathered, gathered, first_row, noted, visited_all, line_by, argument_places, Settled, alike}
use Rattle.sets.proofs.Reports.{lists_length}
use Rattle.choices.proofs.SetBytes.{listed-few}
use Rattle.choices.proofs.Exploring.{left-visited}
use Rattle.choices.proofs.visit.Goals as goal

-- the effect of a line turns neither on its target nor on how the state is given
effect-row : (n : List ℕ) (k : ℕ) (s t : State) (e : Effect) → s ≡ t → e ≡ effect_of (line_of (get_or n 0 0) (get_or n 1 0) (get_or n 2 0) (get_or n 3 0) (get_or n 4 0) 0) k s 0
    → e ≡ effect_of (line_by n) k t 0
unfolding row distances result
effect-row n k s t e es ee = rw es at ee

module _ (n : List ℕ) (k : ℕ) (b : List ℕ) (s : State) (f f' r r' : List ℕ) (leak : Bool) (e : Effect) (es : s ≡ heads (lists_of b)) (Z : Settled (lists_of b) (line_by n) argument_places)
    (lf : length f ≡ suc set_width) (hf : get_or f 0 0 ≤ max_values) (lr' : length r' ≡ row_width)
    (ee : e ≡ effect_of (line_of (get_or n 0 0) (get_or n 1 0) (get_or n 2 0) (get_or n 3 0) (get_or n 4 0) 0) k s 0)
    (ek : r' ≡ cond (eqb (get_or f 0 0) 0) e.row r) (en : listed f' ≡ insert (listed f) e.result) where
  abbrev S : Sets
  S = lists_of b

  abbrev l : Line
  l = line_by n

  abbrev before : Gathered
  before = gathered (listed f) leak r

  whole : e ≡ effect_of l k (heads S) 0
  whole = effect-row n k s (heads S) e es ee

  size : length (listed f) ≡ get_or f 0 0
  size = listed-few f set_width lf (omega arith)

  first : r' ≡ first_row before (row l k (heads S) 0)
  first = ek ∙ ap₂ (λ (m : ℕ) (q : List ℕ). cond (eqb m 0) q r) (sym size) (ap (λ (x : Effect). x.row) whole)

  all : visited_all l k before (draw S (drop argument_places (involved l))) ≡ noted before e.result (alike r' e.row e.result (values S e.place)) r'
  all = left-visited S l k Z (lists_length state_size b) before r' first (omega arith)
      ∙ ap (λ (x : Effect). noted before x.result (alike r' x.row x.result (values S x.place)) r') (sym whole)

  many : ltb max_values (length (listed f')) ≡ true → gathered (listed f') leak r' ≡ visited_all l k before (draw S (drop argument_places (involved l)))
  unfolding noted
  many h = rw (all, le-ltb max_values (length (listed f)) (omega (arith, size)), ← en, h) refl

  few : ltb max_values (length (listed f')) ≡ false → (a : Bool) → a ≡ leak || not (alike r' e.row e.result (values S e.place))
      → gathered (listed f') a r' ≡ visited_all l k before (draw S (drop argument_places (involved l)))
  unfolding noted
  few h a ea = rw (all, le-ltb max_values (length (listed f)) (omega (arith, size)), ← en, h, ea) refl

  leaked : ltb max_values (length (listed f')) ≡ false → leak ≡ true → gathered (listed f') leak r' ≡ visited_all l k before (draw S (drop argument_places (involved l)))
  leaked h t = few h leak (rw t)

  compared : ltb max_values (length (listed f')) ≡ false → leak ≡ false → {a : Bool} → a ≡ alike r' e.row e.result (values S e.place)
      → gathered (listed f') (not a) r' ≡ visited_all l k before (draw S (drop argument_places (involved l)))
  compared h t {a} ea = few h (not a) (rw t (ap not ea))

kept-first : (a : Bool) (r xs ys : List ℕ) → r ≡ cond a xs ys → a ≡ true → r ≡ xs
kept-first a r xs ys q e = q ∙ rw e

pub returns-then-is_overfull : goal.returns-then-is_overfull
returns-then-is_overfull c =
    let x = c.args in
    let t = c.note in
    let q = c.keep_row in
    let e = c.effect_of-e in
    let p = c.requires in
    (many x.line.now x.counter x.sets.now x.state.now x.found.now t.new.found x.row.now q.new.row x.leak e.result p.0 p.2 c.told-found p.1 (search rules) e.ensures q.ensures t.ensures.0 (sym c.is_overfull.ensures ∙ c.if-is_overfull.true), t.ensures.1)

pub returns-then-leak : goal.returns-then-leak
returns-then-leak c =
    let x = c.args in
    let t = c.note in
    let q = c.keep_row in
    let e = c.effect_of-e in
    let p = c.requires in
    (leaked x.line.now x.counter x.sets.now x.state.now x.found.now t.new.found x.row.now q.new.row x.leak e.result p.0 p.2 c.told-found p.1 (search rules) e.ensures q.ensures t.ensures.0 (sym c.is_overfull.ensures ∙ c.if-is_overfull.false) c.if-leak.true, t.ensures.1)

pub is_alike-requires : goal.is_alike-requires
is_alike-requires c = kept-first _ _ _ _ c.keep_row.ensures

pub returns-else-leak : goal.returns-else-leak
returns-else-leak c =
    let x = c.args in
    let t = c.note in
    let q = c.keep_row in
    let e = c.effect_of-e in
    let p = c.requires in
    (compared x.line.now x.counter x.sets.now x.state.now x.found.now t.new.found x.row.now q.new.row x.leak e.result p.0 p.2 c.told-found p.1 (search rules) e.ensures q.ensures t.ensures.0 (sym c.is_overfull.ensures ∙ c.if-is_overfull.false) c.if-leak.false c.is_alike.ensures, t.ensures.1)
