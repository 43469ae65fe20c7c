-- `walk::is_unsettled` meets its contract: the base of the destination, then the arguments of a branch. Assumes nothing.
use mathlib.Core.Path.{◌≡◌, sym, ap, ◌∙◌}
use mathlib.Core.Bool.{Bool, true, false}
use Prim.Native.Nat.{ℕ}
use Rattle.model.specs.declared.Mark.{Mark}
use Rattle.model.specs.declared.Line.{Line}
use Rattle.sets.specs.Walk.{Sets, lists_of, values, several, base, branches, loose, unsettled}
use Rattle.choices.specs.Gathering.{line_by}
use Rattle.walk.proofs.is_unsettled.Goals as goal

module _ (S : Sets) (l : Line) where
  by-destination : several (values S (base l.destination)) ≡ true → true ≡ unsettled S l
  unfolding unsettled
  by-destination e = rw e

  module _ (e : several (values S (base l.destination)) ≡ false) where
    by_first : (m : Mark) → m ≡ l.mark → branches l.opcode ≡ true → loose S m l.first ≡ true → true ≡ unsettled S l
    unfolding unsettled
    by_first m q f g = rw (e, f, ← q, g)

    by-second : (m : Mark) (r : Bool) → m ≡ l.mark → branches l.opcode ≡ true → loose S m l.first ≡ false → r ≡ loose S m l.second → r ≡ unsettled S l
    unfolding unsettled
    by-second m r q f g h = rw (e, f, ← q, g) h

    no-branch : branches l.opcode ≡ false → false ≡ unsettled S l
    unfolding unsettled
    no-branch f = rw (e, f)

-- a place has one value or several, by the code's test of it
told : (S : Sets) (i j : ℕ) (r b : Bool) → i ≡ j → r ≡ several (values S i) → r ≡ b → several (values S j) ≡ b
told S i j r b ei er e = rw (← ei, ← er) e

pub returns-then-is_several : goal.returns-then-is_several
returns-then-is_several c =
    let S = lists_of c.args.sets.now in
    c.if-is_several.true ∙ by-destination S (line_by c.args.line.now) (told S _ _ _ _ c.base_of.ensures c.is_several.ensures c.if-is_several.true)

pub returns-then-is_loose : goal.returns-then-is_loose
returns-then-is_loose c =
    let S = lists_of c.args.sets.now in
    c.if-is_loose.true
    ∙ by_first S (line_by c.args.line.now) (told S _ _ _ _ c.base_of.ensures c.is_several.ensures c.if-is_several.false)
    _ c.mark_of-mark.ensures (ap branches (sym c.opcode_of.ensures) ∙ sym c.is_branch.ensures ∙ c.if-is_branch.true) (sym c.is_loose.ensures ∙ c.if-is_loose.true)

pub returns-else-is_loose : goal.returns-else-is_loose
returns-else-is_loose c =
    let S = lists_of c.args.sets.now in
    by-second S (line_by c.args.line.now) (told S _ _ _ _ c.base_of.ensures c.is_several.ensures c.if-is_several.false)
    _ _ c.mark_of-mark.ensures (ap branches (sym c.opcode_of.ensures) ∙ sym c.is_branch.ensures ∙ c.if-is_branch.true) (sym c.is_loose.ensures ∙ c.if-is_loose.false) c.is_loose-else-is_loose.ensures

pub returns-else-is_branch : goal.returns-else-is_branch
returns-else-is_branch c =
    let S = lists_of c.args.sets.now in
    c.if-is_branch.false
    ∙ no-branch S (line_by c.args.line.now) (told S _ _ _ _ c.base_of.ensures c.is_several.ensures c.if-is_several.false)
    (ap branches (sym c.opcode_of.ensures) ∙ sym c.is_branch.ensures ∙ c.if-is_branch.false)
