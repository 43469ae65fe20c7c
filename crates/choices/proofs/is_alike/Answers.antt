-- `choices::is_alike` meets its contract. Assumes nothing.
use mathlib.Core.Path.{◌≡◌, sym, ap, ◌∙◌}
use mathlib.Core.Bool.{Bool, true, false, ◌&&◌}
use mathlib.Core.List.{List}
use Prim.Native.Nat.{ℕ}
use lib.ListN.{get_or, set}
use lib.Seq.{set-get_or}
use Rattle.sets.specs.Walk.{same_row}
use Rattle.choices.proofs.Gathered.{same_row_lem}
use Rattle.choices.proofs.is_alike.Goals as goal
use Rattle.choices.proofs.is_alike.Goals.{then-first, else-first}

both : (r a b : Bool) → a ≡ true → r ≡ b → r ≡ a && b
both r a b e f = rw e f

neither : (r a b : Bool) → r ≡ a → r ≡ false → r ≡ a && b
neither r a b e f = rw (← e, f)

-- the first row is its own
itself : (r q : List ℕ) → r ≡ q → same_row r (set q 2 (get_or r 2 0)) ≡ true
itself r q e = ap (λ (p : List ℕ). same_row r (set p 2 (get_or r 2 0))) (sym e) ∙ ap (same_row r) (set-get_or r 2 0) ∙ same_row_lem r

pub returns-then-is_same : goal.returns-then-is_same
returns-then-is_same c = elim c.if-first.branch [
  | then-first w ↦ both _ _ _ (itself c.args.row.now c.args.shown.now (c.requires w.if-first.true)) c.is_at.ensures
  | else-first w ↦ both _ _ _ (sym (w.is_same.ensures) ∙ sym w.value-is ∙ c.if-is_same.true) c.is_at.ensures
]

pub returns-else-is_same : goal.returns-else-is_same
returns-else-is_same c = elim c.if-first.branch [
  | then-first w ↦ cc
  | else-first w ↦ neither _ _ _ (w.value-is ∙ w.is_same.ensures) c.if-is_same.false
]
