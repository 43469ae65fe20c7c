-- `published::taking::collect` meets its contract: what is seen so far, and what is left, give what is seen of the whole text. Assumes nothing.
use mathlib.Core.Path.{◌≡◌, refl, sym, ap, subst, ◌∙◌}
use Prim.Native.Nat.{ℕ, ◌≤◌, ◌<◌}
use mathlib.Core.List.{List}
use lib.ListN.{length, take, drop}
use lib.Dec.{eqb, ltb}
use mathlib.Core.Bool.{Bool, ◌&&◌}
use borrow.Author.Tests.{lt-ltb, le-ltb}
use Rattle.published.proofs.taking.collect.Goals.{then-w-gt0, else-w-gt0}
use borrow.Author.Rules.{rules}
use native.Mathlib.Omega.{arith}
use Rattle.published.specs.Reading.{label_size, body_of}
use Rattle.published.specs.Published.{bit}
use Rattle.published.specs.Passes.{NamedAt}
use Rattle.published.proofs.CollectLaws.{walked_none, walked_next, walked_all, cut}
use Rattle.published.proofs.taking.collect.Goals as goal

pub loop-at-init : goal.loop-at-init
loop-at-init c = (refl, walked_none c.args.labels.now.text.now c.args.labels.now.heads c.args.labels.now.table c.args.labels.now.count c.requires c.args.labels.now.linked)

pub line_at-l-requires : goal.line_at-l-requires
line_at-l-requires c = c.loop-at-test.true

pub body-requires : goal.body-requires
body-requires c = (c.label_size-w.ensures.0, c.label_size-w.ensures.1)

pub overflow_add-n : goal.overflow_add-n
overflow_add-n c = let long : length c.args.labels.now.text.now < 18446744073709551616 = search rules in omega (arith, c.loop-at.invariant.1.low, c.loop-at-test.true, c.counts.ensures.1, long)

pub clean_after-clean-requires : goal.clean_after-clean-requires
clean_after-clean-requires c = let long : length c.args.labels.now.text.now < 18446744073709551616 = search rules in omega (arith, c.loop-at.invariant.1.lines, c.loop-at-test.true, long)

pub overflow_add-i : goal.overflow_add-i
overflow_add-i c = let long : length c.args.labels.now.text.now < 18446744073709551616 = search rules in omega (arith, c.loop-at.invariant.1.lines, c.loop-at-test.true, long)

pub loop-at-smaller : goal.loop-at-smaller
loop-at-smaller c = omega (arith, c.line_at-l.ensures.past, c.loop-at-test.true)

pub loop-at-preserved : goal.loop-at-preserved
loop-at-preserved c =
    let text = c.args.labels.now.text.now in
    let old = c.loop-at.labels in
    let new = c.named.new.labels in
    let l = c.line_at-l.result in
    let w = c.label_size-w.result in
    let code : List ℕ = take l.size (drop l.start text) in
    let s : c.part-s.result.now ≡ code = c.part-s.ensures in
    let e = c.line_at-l.ensures.code in
    let same = eqb new.count old.count in
    let wrong : c.if-w-gt0.clean_after ≡ ltb 0 w && same =
    elim c.if-w-gt0.branch [
      | then-w-gt0 b ↦ b.clean_after-is ∙ sym (ap (λ (t : Bool). t && same) (lt-ltb 0 _ b.if-w-gt0.true))
      | else-w-gt0 b ↦ b.clean_after-is ∙ le-ltb 0 _ b.if-w-gt0.false ∙ sym (ap (λ (t : Bool). t && same) (le-ltb 0 _ b.if-w-gt0.false))
    ]
    in
    let named : NamedAt text old.table new.heads new.table l.start old.count new.count w c.loop-at.n =
    subst (λ (x : List ℕ). NamedAt x old.table new.heads new.table l.start old.count new.count w c.loop-at.n) c.loop-at.invariant.0 c.named.ensures.named in (
      c.named.ensures.text ∙ c.loop-at.invariant.0,
      walked_next text old.heads old.table c.loop-at.at c.loop-at.i old.count c.loop-at.n c.loop-at.clean c.loop-at.invariant.1 c.loop-at-test.true code e
          (named l.size (c.label_size-w.ensures.0 ∙ ap label_size s) (subst (λ (x : List ℕ). w ≤ length x) s c.label_size-w.ensures.1)
          (cut text old.heads old.table c.loop-at.at c.loop-at.i old.count c.loop-at.n c.loop-at.clean c.loop-at.invariant.1 c.loop-at-test.true code e))
          (c.counts.ensures.0 ∙ ap (λ (x : List ℕ). bit (ltb 0 (length x))) (c.body.ensures ∙ ap body_of s)) c.line_at-l.ensures.past wrong c.clean_after-clean.ensures,
    )

pub returns-clause-collected : goal.returns-clause-collected
returns-clause-collected c =
    walked_all c.args.labels.now.text.now c.loop-at.labels.heads c.loop-at.labels.table c.loop-at.at c.loop-at.i c.loop-at.labels.count c.loop-at.n c.loop-at.clean c.loop-at.invariant.1 c.loop-at-test.false
