-- `published::parts::blanks` meets its contract: the place of the first byte that is no blank. Assumes nothing.
use mathlib.Core.Path.{◌≡◌, ap, ◌∙◌}
use Prim.Native.Nat.{ℕ}
use mathlib.Core.Bool.{not}
use lib.ListN.{drop}
use Rattle.std.proofs.Common.{rules, tests}
use Rattle.std.specs.Prelude.{position}
use Rattle.std.proofs.lemmas.Iterator.{YieldsList-from_slice}
use Rattle.std.proofs.lemmas.Iterator.Search.{position_from_yields_List}
use Rattle.published.specs.Published.{is_blank}
use Rattle.published.proofs.ReadingLaws.{first_few, first_place, trim_first}
use Rattle.published.proofs.parts.blanks.Goals as goal

pub returns : goal.returns
returns c =
    let s = c.args.s.now in
    let e : c.position.result ≡ position (λ b. not (is_blank b)) s = position_from_yields_List (λ b. not (is_blank b)) _ _ c.position.result c.position.ensures.ran (YieldsList-from_slice _ c.iter.ensures.rest) (λ x b q k. search (rules, tests)) in
    let f = first_place (λ b. not (is_blank b)) s e c.unwrap_or.ensures in
    (ap (λ (k : ℕ). drop k s) f ∙ trim_first s, rw f (first_few (λ b. not (is_blank b)) s))
