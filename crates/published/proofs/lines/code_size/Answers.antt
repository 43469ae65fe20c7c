-- `published::lines::code_size` meets its contract: the place of the first byte that begins a comment or ends the line. Assumes nothing.
use mathlib.Core.Path.{◌≡◌, sym, ◌∙◌}
use Prim.Native.Nat.{ℕ}
use mathlib.Core.Bool.{Bool, ◌||◌}
use lib.Dec.{eqb}
use Rattle.std.proofs.Common.{rules, tests}
use Rattle.std.specs.Prelude.{position}
use Rattle.std.proofs.lemmas.Iterator.{YieldsList-from_slice}
use Rattle.std.proofs.lemmas.Iterator.Search.{position_from_yields_List}
use Rattle.published.specs.Published.{semicolon}
use Rattle.model.specs.Text.{newline}
use Rattle.published.proofs.ReadingLaws.{first_few, first_place}
use Rattle.published.proofs.PlaceLaws.{code_first}
use Rattle.published.proofs.lines.code_size.Goals as goal

pub returns : goal.returns
returns c =
    let s = c.args.line.now in
    let ends : ℕ → Bool = λ b. eqb b semicolon || eqb b newline in
    let e : c.position.result ≡ position ends s = position_from_yields_List ends _ _ c.position.result c.position.ensures.ran (YieldsList-from_slice _ c.iter.ensures.rest) (λ x b q k. search (rules, tests)) in
    let f = first_place ends s e c.unwrap_or.ensures in
    (f ∙ sym (code_first s), rw f (first_few ends s))
