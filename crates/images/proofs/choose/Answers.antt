-- `images::choose` meets its contract. The loop's invariant: the first i places are chosen. Assumes nothing.
use mathlib.Core.Path.{◌≡◌, sym, ◌∙◌}
use mathlib.Core.List.{map}
use native.Mathlib.Omega.{arith}
use borrow.Author.Tests.{eq-eqb, ne_eqb}
use lib.ListN.{get_or}
use Rattle.std.proofs.lemmas.List.{length-map, get_or-map}
use Rattle.images.specs.Ranges.{chosen}
use Rattle.images.proofs.Ranges.{front-next, front_all}
use Rattle.images.proofs.choose.Goals.{then-byte-key, else-byte-key}
use Rattle.images.proofs.choose.Goals as goal

pub loop-i-preserved : goal.loop-i-preserved
loop-i-preserved c =
    let a = c.args in
    let i = c.loop-i.i in
    let f = chosen a.key a.x a.y in
    let is : c.if-byte-key.into ≡ f (get_or a.from.now i 0) =
    elim c.if-byte-key.branch [
      | then-byte-key w ↦ w.into-is ∙ sym (rw (eq-eqb _ _ w.if-byte-key.true))
      | else-byte-key w ↦ w.into-is ∙ sym (rw (ne_eqb _ _ w.if-byte-key.false))
    ] in
    rw (is, ← get_or-map f a.from.now i 0 0 (omega arith), c.loop-i.invariant)
    (front-next (map f a.from.now) a.into.now i (omega (arith, length-map a.from.now f)) (omega arith))

pub returns : goal.returns
returns c =
    let f = chosen c.args.key c.args.x c.args.y in
    c.loop-i.invariant ∙ front_all (map f c.args.from.now) c.args.into.now c.loop-i.i (omega (arith, length-map c.args.from.now f)) (omega arith)
