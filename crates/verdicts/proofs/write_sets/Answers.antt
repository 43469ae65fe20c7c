-- `verdicts::write_sets` meets its contract. The loop's invariant: the sets of the first i places are written. Assumes nothing.
use mathlib.Core.Path.{sym, ap, ◌∙◌}
use native.Mathlib.Numerals.{add-one}
use native.Mathlib.Omega.{arith}
use lib.ListN.{length}
use Rattle.model.specs.Answers.{report}
use Rattle.verdicts.specs.Verdicts.{sets_before}
use Rattle.verdicts.proofs.VerdictSets.{before_long, before_none, zero_at}
use Rattle.verdicts.proofs.write_sets.Goals as goal

pub loop-i-init : goal.loop-i-init
loop-i-init c = c.requires

pub put_values-requires : goal.put_values-requires
put_values-requires c =
    let t = c.loop-i-test in
    let m = c.loop-i in
    let v = c.to_image in
    (t.true, m.invariant, zero_at v.new.image (report v.result) v.ensures m.i t.true)

pub loop-i-preserved : goal.loop-i-preserved
loop-i-preserved c =
    let m = c.loop-i in
    c.put_values.ensures ∙ ap sets_before (sym (add-one m.i))

pub shape_of-sets : goal.shape_of-sets
shape_of-sets c =
    let m = c.loop-i in
    omega (arith, ap length m.invariant, before_long m.i (omega arith), ap length c.requires, before_long 0 (omega arith))

pub returns : goal.returns
returns c =
    let m = c.loop-i in
    m.invariant ∙ before_none m.i (omega arith) c.loop-i-test.false
