-- Lines one after the other, under bounds that each changes at one place, and on the bus. Assumes nothing.
use mathlib.Core.Path.{◌≡◌, refl, subst}
use mathlib.Core.Bool.{Bool, true, false, cond}
use mathlib.Core.List.{List, [], ◌∷◌, ◌++◌}
use Prim.Native.Nat.{ℕ, suc, ◌+◌}
use native.Mathlib.Nat.{add-zero}
use native.Mathlib.Numerals.{add-one}
use native.Mathlib.Omega.{arith}
use borrow.Author.Tests.{eqb-true, eqb-false}
use lib.Dec.{eqb}
use lib.ListN.{length, drop}
use lib.Seq.{drop-drop}
use Rattle.model.specs.declared.Line.{Line}
use Rattle.model.specs.Step.{Row}
use Rattle.model.proofs.Straight.{drop_head}
use Rattle.sets.proofs.Bounds.{Bound, Does, Turns, UpTo, step_on}

-- ---- a bound with Q at place q

abbrev pub put : ℕ → List ℕ → Bound → Bound
put q Q B i = cond (eqb i q) Q (B i)

pub by_put : (q : ℕ) (Q : List ℕ) (B : Bound) (i : ℕ) (P : List ℕ → Type 0) → (i ≡ q → P Q) → ((i ≡ q → ⊥) → P (B i)) → P (put q Q B i)
by_put q Q B i P f g = go (eqb i q) refl
  where
    go : (t : Bool) → eqb i q ≡ t → P (cond t Q (B i))
    go true e = f (eqb-true i q e)
    go false e = g (eqb-false i q e)

pub put_same : (q : ℕ) (Q : List ℕ) (B : Bound) → put q Q B q ≡ Q
put_same q Q B = by_put q Q B q (λ X. X ≡ Q) (λ e. refl) (λ n. absurd (n refl))

pub put_other : (q : ℕ) (Q : List ℕ) (B : Bound) (i : ℕ) → (i ≡ q → ⊥) → put q Q B i ≡ B i
put_other q Q B i n = by_put q Q B i (λ X. X ≡ B i) (λ e. absurd (n e)) (λ n. refl)

pub turn-put : {B : Bound} {q : ℕ} {Q : List ℕ} → Turns B q Q (put q Q B)
turn-put {B} {q} {Q} = record { keep = λ i g n x m. rw (put_other q Q B i n) m; new = λ g x m. rw (put_same q Q B) m }

-- what was there before does not matter
pub turn_again : (B : Bound) (q : ℕ) (P Q : List ℕ) → Turns (put q P B) q Q (put q Q B)
turn_again B q P Q = record { keep = λ i g n x m. rw (put_other q Q B i n) (rw (put_other q P B i n) at m); new = λ g x m. rw (put_same q Q B) m }

-- ---- lines

-- a line that goes on to the next and takes sets under B to sets under C, and the bus from X to Y
pub record Step (B : Bound) (X : List ℕ) (l : Line) (C : Bound) (Y : List ℕ) : Type 0 where
  pub at : ℕ
  pub written : List ℕ
  pub shows : ℕ → Row
  pub does : (k : ℕ) → Does B X l k at written (shows k) Y (suc k)
  pub turns : Turns B at written C

pub data Chain : Bound → List ℕ → List Line → Bound → List ℕ → Type 0 where
  end : {B : Bound} {X : List ℕ} → Chain B X [] B X
  line : {B C D : Bound} {X Y Z : List ℕ} {l : Line} {ls : List Line} → Step B X l C Y → Chain C Y ls D Z → Chain B X (l ∷ ls) D Z

pub chain_append : {B C D : Bound} {X Y Z : List ℕ} {xs ys : List Line} → Chain B X xs C Y → Chain C Y ys D Z → Chain B X (xs ++ ys) D Z
chain_append end d = d
chain_append (line s c) d = line s (chain_append c d)

-- where the walk passes after the lines it passes from the first of them, with a budget greater by their number
pub chain_up : {B D : Bound} {X Z : List ℕ} {ls : List Line} → Chain B X ls D Z → (p t : List Line) (n k : ℕ) → drop k p ≡ ls ++ t → UpTo p n (k + length ls) D Z → UpTo p (n + length ls) k B X
chain_up end p t n k e up = rw (add-zero n) (rw (add-zero k) at up)
chain_up (line {B = B} {C = C} {D = D} {X = X} {Y = Y} {Z = Z} {l = l} {ls = ls} s c) p t n k e up =
    let tail : drop (suc k) p ≡ ls ++ t = rw (← add-one k, ← drop-drop 1 k p, e) in
    subst (λ (m : ℕ). UpTo p m k B X) (omega arith)
    (step_on p (n + length ls) k B X C Y l s.at s.written (s.shows k) (suc k) (drop_head p k l (ls ++ t) e) (s.does k) s.turns
    (chain_up c p t n (suc k) tail (subst (λ (j : ℕ). UpTo p n j D Z) (omega arith) up)))
