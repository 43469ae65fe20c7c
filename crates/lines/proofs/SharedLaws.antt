-- What is counted of a text that was printed into lent memory stands there. Assumes nothing.
use Prim.Native.Nat.{ℕ, ◌≤◌}
use mathlib.Core.Path.{◌≡◌, refl, sym, ap, ◌∙◌}
use mathlib.Core.Bool.{Bool, true, false, cond}
use mathlib.Core.List.{List, [], ◌∷◌}
use native.Mathlib.Omega.{arith}
use lib.Dec.{ltb}
use lib.ListN.{length, drop, length-append}
use Rattle.model.specs.Answers.{Report, counted, refused, Outcome, outcome, at_front}
use Rattle.model.specs.Text.{fitted}
use Rattle.model.proofs.StoredLaws.{counted_count, never_counted}
use Rattle.model.proofs.OutcomeLaws.{first_store}

either_within : (t : Bool) (text out new : List ℕ) (n : ℕ)
    → outcome (counted n) (new ∷ []) ≡ cond t (outcome (refused 17 0) (out ∷ [])) (outcome (counted (length text)) (at_front text out ∷ [])) → ltb (length out) (length text) ≡ t → n ≤ length new
either_within true text out new n e h = absurd (never_counted (sym (ap (λ (o : Outcome). o.answer) e)))
either_within false text out new n e h =
    omega (arith, counted_count (ap (λ (o : Outcome). o.answer) e), ap (λ (o : Outcome). length (first_store o)) e, length-append text (drop (length text) out))

pub counted_within : (text out new : List ℕ) (r : Report) (n : ℕ) → outcome r (new ∷ []) ≡ fitted text out → r ≡ counted n → n ≤ length new
unfolding fitted
counted_within text out new r n e c = either_within (ltb (length out) (length text)) text out new n (ap (λ (s : Report). outcome s (new ∷ [])) (sym c) ∙ e) refl
