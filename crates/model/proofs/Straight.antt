-- Lines done one after the other, as a macro's are. Assumes nothing.
use mathlib.Core.Path.{◌≡◌, refl, sym, ap, ◌∙◌}
use mathlib.Core.List.{List, [], ◌∷◌, ◌++◌}
use mathlib.Core.Option.{some}
use Prim.Native.Nat.{ℕ, zero, suc, ◌+◌}
use native.Mathlib.Nat.{add-zero, suc-add, add-suc}
use lib.ListN.{length, drop, get_elem?}
use Rattle.model.specs.declared.Line.{Line}
use Rattle.model.specs.Places.{State}
use Rattle.model.specs.Step.{Row, row, next, after, bus_after}
use Rattle.model.specs.Run.{Ran, ran, push, run_on}
use Rattle.model.specs.Lines.{Every}
use Rattle.model.proofs.Runs.{join_runs, step_run, run-zero}

-- straight lines go on to the next line, whatever the state
abbrev pub Straight : List Line → Type 0
Straight = Every (λ l. (k : ℕ) (s : State) → next l k s ≡ suc k)

unfoldable pub exec : List Line → ℕ → State → ℕ → Ran
exec [] k s b = ran k s b []
exec (l ∷ ls) k s b = push (row l k s b) (exec ls (suc k) (after l s) (bus_after l s b))

pub drop_head : (p : List Line) (k : ℕ) (l : Line) (r : List Line) → drop k p ≡ l ∷ r → get_elem? p k ≡ some l
drop_head [] zero l r e = cc
drop_head [] (suc k) l r e = cc
drop_head (x ∷ p) zero l r e = cc
drop_head (x ∷ p) (suc k) l r e = drop_head p k l r e

drop_tail : (p : List Line) (k : ℕ) (l : Line) (r : List Line) → drop k p ≡ l ∷ r → drop (suc k) p ≡ r
drop_tail [] zero l r e = cc
drop_tail [] (suc k) l r e = cc
drop_tail (x ∷ p) zero l r e = cc
drop_tail (x ∷ p) (suc k) l r e = drop_tail p k l r e

-- straight lines that stand at k in a program are done by a run from there
pub run_straight : (p ls r : List Line) (k : ℕ) (s : State) (b : ℕ) → drop k p ≡ ls ++ r → Straight ls → run_on p (length ls) k s b ≡ exec ls k s b
unfolding exec
run_straight p [] r k s b e h = run-zero p k s b
run_straight p (l ∷ ls) r k s b e h =
    step_run p k s b l (drop_head p k l (ls ++ r) e) (length ls)
    ∙ ap (λ (n : ℕ). push (row l k s b) (run_on p (length ls) n (after l s) (bus_after l s b))) (h.0 k s)
    ∙ ap (push (row l k s b)) (run_straight p ls r (suc k) (after l s) (bus_after l s b) (drop_tail p k l (ls ++ r) e) h.1)

exec-append : (xs ys : List Line) (k : ℕ) (s : State) (b : ℕ)
    → exec (xs ++ ys) k s b ≡ join_runs (exec xs k s b) (exec ys (exec xs k s b).at (exec xs k s b).state (exec xs k s b).bus)
unfolding exec
exec-append [] ys k s b = refl
exec-append (l ∷ xs) ys k s b = ap (push (row l k s b)) (exec-append xs ys (suc k) (after l s) (bus_after l s b))

-- a piece, and then another from where it ends
pub exec_then : (xs ys : List Line) (k : ℕ) (s : State) (b : ℕ) {k₁ : ℕ} {s₁ : State} {b₁ : ℕ} {rs : List Row} {k₂ : ℕ} {s₂ : State} {b₂ : ℕ} {qs : List Row}
    → exec xs k s b ≡ ran k₁ s₁ b₁ rs → exec ys k₁ s₁ b₁ ≡ ran k₂ s₂ b₂ qs → exec (xs ++ ys) k s b ≡ ran k₂ s₂ b₂ (rs ++ qs)
exec_then xs ys k s b {k₁} {s₁} {b₁} {rs} e f =
    exec-append xs ys k s b ∙ ap (λ (g : Ran). join_runs g (exec ys g.at g.state g.bus)) e ∙ ap (join_runs (ran k₁ s₁ b₁ rs)) f

pub exec_at : (ls : List Line) (k : ℕ) (s : State) (b : ℕ) → (exec ls k s b).at ≡ k + length ls
unfolding exec
exec_at [] k s b = sym (add-zero k)
exec_at (l ∷ ls) k s b = exec_at ls (suc k) (after l s) (bus_after l s b) ∙ suc-add k (length ls) ∙ sym (add-suc k (length ls))

pub exec_rows : (ls : List Line) (k : ℕ) (s : State) (b : ℕ) → length (exec ls k s b).rows ≡ length ls
unfolding exec
exec_rows [] k s b = refl
exec_rows (l ∷ ls) k s b = ap suc (exec_rows ls (suc k) (after l s) (bus_after l s b))
