-- `published::parts::word` meets its contract: the place of the first blank. Assumes nothing.
use mathlib.Core.Path.{◌≡◌, sym, ◌∙◌}
use Rattle.std.proofs.Common.{rules, tests}
use Rattle.std.specs.Prelude.{position}
use Rattle.std.proofs.lemmas.Iterator.{YieldsList-from_slice}
use Rattle.std.proofs.lemmas.Iterator.Search.{position_from_yields_List}
use Rattle.published.specs.Published.{is_blank}
use Rattle.published.proofs.ReadingLaws.{first_few, first_place, word_first}
use Rattle.published.proofs.parts.word.Goals as goal

pub returns : goal.returns
returns c =
    let s = c.args.s.now in
    let e : c.position.result ≡ position is_blank s = position_from_yields_List is_blank _ _ c.position.result c.position.ensures.ran (YieldsList-from_slice _ c.iter.ensures.rest) (λ x b q k. search (rules, tests)) in
    let f = first_place is_blank s e c.unwrap_or.ensures in
    (f ∙ sym (word_first s), rw f (first_few is_blank s))
