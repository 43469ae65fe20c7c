-- The cases of `carried`, each by what the check of it tells: what is refused, and what goes over. Assumes nothing.
use mathlib.Core.Path.{◌≡◌, refl, sym}
use mathlib.Core.Bool.{Bool, true, false, cond, ◌&&◌}
use mathlib.Core.List.{List, [], ◌∷◌}
use Prim.Native.Nat.{ℕ}
use lib.Dec.{eqb}
use lib.ListN.{length}
use Rattle.std.specs.Prelude.{Result, Ok, Err, IsErrAnd}
use Rattle.model.specs.declared.Condition.TheVariants.{WrongLength}
use Rattle.model.specs.declared.Refusal.{Refusal}
use Rattle.model.specs.Limits.{state_size}
use Rattle.model.specs.Answers.{report, counted, refused, Outcome, outcome}
use Rattle.model.specs.Places.{State}
use Rattle.model.specs.Images.{every, carried}
use Rattle.model.proofs.CheckAnswers.{refusal}
use Rattle.model.proofs.OutcomeLaws.{carried_goes}
use borrow.Author.Tests.{eq-eqb}
use Rattle.model.proofs.TestLaws.{holds}

-- two tests in a row that give the same where either fails
either_fails : (x y : Bool) (a r : Outcome) → (x && y) ≡ false → cond x (cond y a r) r ≡ r
either_fails true true a r e = absurd (holds (sym e))
either_fails true false a r e = refl
either_fails false y a r e = refl

-- what `?` hands on is the refusal that came, and the store as it was
pub handed_on : (f : Refusal ℕ) (r : Result ℕ (Refusal ℕ)) → IsErrAnd r (λ y. y ≡ f) → (ss : List (List ℕ)) (x : Outcome) → outcome (refusal f) ss ≡ x → outcome (report r) ss ≡ x
handed_on f (Ok n) h ss x e = absurd h
handed_on f (Err y) h ss x e = rw h e

module _ (right : ℕ → ℕ → Bool) (over : State → State) (from into : State) where
  pub other_size : (f : Refusal ℕ) → ((eqb (length from) state_size && eqb (length into) state_size) ≡ false) × (f ≡ record { condition = WrongLength; line = 0 })
      → outcome (refusal f) (into ∷ []) ≡ carried right over from into
  unfolding carried
  other_size f h = rw h.1 (sym (either_fails (eqb (length from) state_size) (eqb (length into) state_size) _ _ h.0))

  module _ (g : (length from ≡ state_size) × (length into ≡ state_size)) where
    pub turned_down : every right 0 from ≡ false → outcome (refused 19 0) (into ∷ []) ≡ carried right over from into
    unfolding carried
    turned_down h = rw (eq-eqb (length from) state_size g.0, eq-eqb (length into) state_size g.1, h)

    pub goes_over : (l : State) → every right 0 from ≡ true → l ≡ over from → outcome (counted state_size) (l ∷ []) ≡ carried right over from into
    goes_over l h e = rw e (sym (carried_goes right over from into g.0 g.1 h))
