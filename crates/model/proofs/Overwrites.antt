-- Numbers written to a store, one list after another and at its front. Assumes nothing.
use Prim.Native.Nat.{ℕ, suc, ◌+◌, ◌≤◌}
use mathlib.Core.Path.{◌≡◌, ap, ◌∙◌}
use mathlib.Core.List.{List, [], ◌∷◌, ◌++◌}
use native.Mathlib.Omega.{arith}
use native.Mathlib.Nat.{add-zero, zero-add}
use lib.ListN.{length, set, drop}
use lib.Seq.{sets, sets-eq}
use Rattle.model.specs.Answers.{at_front}

pub sets_append : (l : List ℕ) (i : ℕ) (x y : List ℕ) → sets (sets l i x) (i + length x) y ≡ sets l i (x ++ y)
sets_append l i [] y = ap (λ (k : ℕ). sets l k y) (add-zero i)
sets_append l i (a ∷ x) y =
    let e : i + suc (length x) ≡ suc i + length x = omega arith in
    ap (λ (k : ℕ). sets (sets (set l i a) (suc i) x) k y) e ∙ sets_append (set l i a) (suc i) x y

pub sets_front : (l x : List ℕ) → length x ≤ length l → sets l 0 x ≡ at_front x l
sets_front l x h = sets-eq x l 0 (omega arith) ∙ ap (λ (k : ℕ). x ++ drop k l) (zero-add (length x))
