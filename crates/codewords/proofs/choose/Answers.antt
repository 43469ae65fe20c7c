-- `codewords::choose` meets its contract: what is ranked and found is what the definition says, and the claim follows from that. Assumes nothing.
use mathlib.Core.Path.{◌≡◌, refl, sym, ap, ◌∙◌}
use mathlib.Core.List.{map}
use Prim.Native.Nat.{ℕ, ◌+◌, ◌-◌}
use native.Mathlib.Omega.{arith}
use lib.ListN.{take, drop, length-take, length-drop}
use Rattle.codewords.specs.Codewords.{set_of}
use Rattle.codewords.specs.Keys.{word_of}
use Rattle.codewords.proofs.AnswerLaws.{not_right, ranks}
use Rattle.codewords.proofs.Choices.{choices}
use Rattle.codewords.proofs.Ranges.{inputs_say}
use Rattle.codewords.proofs.choose.Goals as goal

pub returns-then-not-inputs_right : goal.returns-then-not-inputs_right
returns-then-not-inputs_right c =
    let a = c.args in
    let q = c.refused.ensures ∙ not_right a.bits a.ones a.size a.weights.now (sym c.inputs_right.ensures ∙ c.if-not-inputs_right.true) in
    record { set_value = q; choice = choices a.bits a.ones a.size a.weights.now _ _ q }

pub rank_words-n-requires : goal.rank_words-n-requires
rank_words-n-requires c =
    let a = c.args in
    let i = inputs_say a.bits a.ones a.size a.weights.now (sym c.inputs_right.ensures ∙ c.if-not-inputs_right.false) in
    (i.given.bits, i.given.count, i.given.right, refl)

pub returns-then-n-count : goal.returns-then-n-count
returns-then-n-count c =
    let a = c.args in
    let r = c.rank_words-n in
    let k = ranks a.bits a.ones a.size a.weights.now (sym c.inputs_right.ensures ∙ c.if-not-inputs_right.false) r.result r.new.into r.ensures in
    let q = c.refused-then-n-count.ensures ∙ k.too_few c.if-n-count.true in
    record { set_value = q; choice = choices a.bits a.ones a.size a.weights.now _ _ q }

pub slice_bounds-keys-end : goal.slice_bounds-keys-end
slice_bounds-keys-end c =
    let a = c.args in
    let r = c.rank_words-n in
    let k = ranks a.bits a.ones a.size a.weights.now (sym c.inputs_right.ensures ∙ c.if-not-inputs_right.false) r.result r.new.into r.ensures in
    omega (arith, r.auto.into, k.few)

pub slice_bounds-ranked-end : goal.slice_bounds-ranked-end
slice_bounds-ranked-end c =
    let a = c.args in
    let r = c.rank_words-n in
    let k = ranks a.bits a.ones a.size a.weights.now (sym c.inputs_right.ensures ∙ c.if-not-inputs_right.false) r.result r.new.into r.ensures in
    sym k.long

pub lowest_run-at-requires : goal.lowest_run-at-requires
lowest_run-at-requires c =
    let a = c.args in
    let r = c.rank_words-n in
    let k = ranks a.bits a.ones a.size a.weights.now (sym c.inputs_right.ensures ∙ c.if-not-inputs_right.false) r.result r.new.into r.ensures in
    (k.some, omega (arith, k.long, c.if-n-count.false), omega (arith, k.long, k.few))

pub overflow_add-end : goal.overflow_add-end
overflow_add-end c =
    let a = c.args in
    let r = c.rank_words-n in
    let k = ranks a.bits a.ones a.size a.weights.now (sym c.inputs_right.ensures ∙ c.if-not-inputs_right.false) r.result r.new.into r.ensures in
    record { fits = omega (arith, k.long, k.few, c.lowest_run-at.ensures.0) }

pub offset_bounds-ranked-at : goal.offset_bounds-ranked-at
offset_bounds-ranked-at c =
    let a = c.args in
    let r = c.rank_words-n in
    let k = ranks a.bits a.ones a.size a.weights.now (sym c.inputs_right.ensures ∙ c.if-not-inputs_right.false) r.result r.new.into r.ensures in
    record { fits = omega (arith, k.long, k.few, c.lowest_run-at.ensures.0) }

pub set_of-set-requires : goal.set_of-set-requires
set_of-set-requires c =
    let a = c.args in
    let r = c.rank_words-n in
    let k = ranks a.bits a.ones a.size a.weights.now (sym c.inputs_right.ensures ∙ c.if-not-inputs_right.false) r.result r.new.into r.ensures in
    let f = k.fits in
    simp (length-take, length-drop) (omega arith)

pub returns : goal.returns
returns c =
    let a = c.args in
    let r = c.rank_words-n in
    let k = ranks a.bits a.ones a.size a.weights.now (sym c.inputs_right.ensures ∙ c.if-not-inputs_right.false) r.result r.new.into r.ensures in
    let b = c.lowest_run-at in
    let m : b.result + a.size - b.result ≡ a.size = omega arith in
    let q =
    k.enough c.if-n-count.false b.result b.ensures.1 _
    (c.set_of-set.ensures ∙ ap (λ (j : ℕ). set_of (map word_of (take j (drop b.result (take r.result r.new.into))))) m)
    in
    record { set_value = q; choice = choices a.bits a.ones a.size a.weights.now _ _ q }
