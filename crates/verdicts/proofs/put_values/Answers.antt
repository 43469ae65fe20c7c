-- `verdicts::put_values` meets its contract: the bytes of the next set. Assumes nothing.
use mathlib.Core.Path.{refl, sym, ap, ◌∙◌}
use mathlib.Core.List.{List}
use Prim.Native.Nat.{ℕ, ◌+◌, ◌*◌}
use native.Mathlib.Omega.{arith}
use lib.ListN.{length, set}
use Rattle.model.specs.declared.Layout.{Layout}
use Rattle.model.specs.Places.{is_sensitive}
use Rattle.model.specs.Code.{code}
use Rattle.sets.specs.Walk.{set_width}
use Rattle.verdicts.proofs.VerdictSets.{both-codes, one_value, before_long, before-next}
use Rattle.verdicts.proofs.put_values.Goals as goal

pub layout_of-requires : goal.layout_of-requires
layout_of-requires c = refl

pub put_bytes-requires : goal.put_bytes-requires
put_bytes-requires c =
    let x = c.args in
    let p = c.requires in
    omega (arith, p.0, ap length p.1, before_long x.i (omega (arith, p.0)))

pub put_bytes-requires-else-is_sensitive : goal.put_bytes-requires-else-is_sensitive
put_bytes-requires-else-is_sensitive c =
    let x = c.args in
    let p = c.requires in
    omega (arith, p.0, ap length p.1, before_long x.i (omega (arith, p.0)))

pub returns-then-is_sensitive : goal.returns-then-is_sensitive
returns-then-is_sensitive c =
    let x = c.args in
    let p = c.requires in
    let one = c.code_of-one.result in
    let coded = c.code_of-one.ensures ∙ ap (λ (L : Layout). code L 1) c.layout_of.ensures in
    let sensitive = ap is_sensitive (sym c.kind_at.ensures) ∙ sym c.is_sensitive.ensures ∙ c.if-is_sensitive.true in
    c.put_bytes.ensures
    ∙ ap (λ (l : List ℕ). set (set (set l (set_width * x.i) 2) (set_width * x.i + 1) one) (set_width * x.i + 2) x.value) p.1
    ∙ before-next x.i 2 one x.value p.0 (both-codes x.i x.value p.2 one coded sensitive)

pub returns-else-is_sensitive : goal.returns-else-is_sensitive
returns-else-is_sensitive c =
    let x = c.args in
    let p = c.requires in
    let other = ap is_sensitive (sym c.kind_at.ensures) ∙ sym c.is_sensitive.ensures ∙ c.if-is_sensitive.false in
    c.put_bytes-else-is_sensitive.ensures
    ∙ ap (λ (l : List ℕ). set (set (set l (set_width * x.i) 1) (set_width * x.i + 1) x.value) (set_width * x.i + 2) 0) p.1
    ∙ before-next x.i 1 x.value 0 p.0 (one_value x.i x.value p.2 other)
