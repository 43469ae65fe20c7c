-- From an entry point's one equation to the packed answer and the stores. Assumes nothing.
use mathlib.Core.Path.{◌≡◌, ap, ◌∙◌}
use mathlib.Core.List.{List}
use Prim.Native.Nat.{ℕ}
use Rattle.model.specs.Answers.{Report, Outcome, outcome}

pub told : (pack : Report → ℕ) (a : Report) (ss : List (List ℕ)) (o : Outcome) (n : ℕ) → n ≡ pack a → outcome a ss ≡ o → (n ≡ pack o.answer) × (ss ≡ o.stores)
told pack a ss o n e h = (e ∙ ap (λ (x : Outcome). pack x.answer) h, ap (λ (x : Outcome). x.stores) h)
