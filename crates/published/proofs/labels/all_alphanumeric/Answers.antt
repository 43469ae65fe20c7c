-- `published::labels::all_alphanumeric` meets its contract. Assumes nothing.
use mathlib.Core.Path.{sym, ap, ◌∙◌}
use Prim.Native.Nat.{◌+◌}
use mathlib.Core.Bool.{Bool, ◌&&◌}
use lib.ListN.{drop}
use Rattle.published.specs.Published.{all_alphanumeric}
use Rattle.published.proofs.ReadingLaws.{letters_more, letters_none}
use Rattle.text.proofs.FieldLaws.{and_true}
use Rattle.published.proofs.labels.all_alphanumeric.Goals as goal

pub loop-b-preserved : goal.loop-b-preserved
loop-b-preserved c =
    ap (λ (t : Bool). (c.loop-b.all && t) && all_alphanumeric (drop (c.loop-b.b-index + 1) c.args.s.now)) c.is_ascii_alphanumeric-all.ensures.value
    ∙ letters_more c.args.s.now c.loop-b.b-index c.loop-b-test.true c.loop-b.all ∙ c.loop-b.invariant

pub returns : goal.returns
returns c = sym (and_true c.loop-b.all) ∙ ap (λ (t : Bool). c.loop-b.all && t) (sym (letters_none c.args.s.now c.loop-b.b-index c.loop-b-test.false)) ∙ c.loop-b.invariant
