-- `text::cut::count` meets its contract: the bytes that the filter lets through are those that the model counts. Assumes nothing.
use Rattle.std.proofs.Common.{rules, tests, ◌≡◌, ℕ, Bool, true, false, List, [], ◌∷◌, length, refl, ap, ◌∙◌}
use mathlib.Core.Bool.{cond}
use Prim.Native.Nat.{suc}
use lib.Dec.{eqb}
use Rattle.std.specs.List.{filter}
use Rattle.std.proofs.lemmas.Iterator.{YieldsList-from_slice}
use Rattle.std.proofs.lemmas.Iterator.Consumers.{YieldsList-from_filter, count_from_yields_List}
use Rattle.model.specs.Text.{count_of}
use Rattle.text.proofs.cut.count.Goals as goal

step : (t : Bool) (b n : ℕ) (s : List ℕ) → length s ≡ n → length (cond t (b ∷ s) s) ≡ cond t (suc n) n
step true b n s e = ap suc e
step false b n s e = e

counted : (c : ℕ) (s : List ℕ) → length (filter (λ b. eqb b c) s) ≡ count_of c s
unfolding count_of
counted c [] = refl
counted c (b ∷ s) = step (eqb b c) b _ _ (counted c s)

pub returns : goal.returns
returns c =
    count_from_yields_List c.filter.result _ c.count.ensures.ran (YieldsList-from_filter _ (λ b. eqb b c.args.c) (YieldsList-from_slice c.args.s.now (cc)) c.filter.ensures.closure (λ x r q k. search (rules, tests)))
    ∙ counted c.args.c c.args.s.now
