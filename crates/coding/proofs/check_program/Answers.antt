-- `coding::check_program` meets its contract. The loop's invariant: the check of the lines that are left answers as the whole does.
-- The measure is the number of lines left. Assumes nothing.
use mathlib.Core.Path.{◌∙◌, sym, ap}
use Prim.Native.Nat.{ℕ}
use native.Mathlib.Omega.{arith}
use Rattle.model.specs.Answers.{refused}
use Rattle.coding.proofs.Programs.{passes, fails, ends, begins, too_long, some_fault}
use Rattle.coding.proofs.check_program.Goals as goal

pub returns-then-count-gt-MAX_LINES : goal.returns-then-count-gt-MAX_LINES
returns-then-count-gt-MAX_LINES c = too_long _ c.if-count-gt-MAX_LINES.true

pub loop-i-init : goal.loop-i-init
loop-i-init c = begins _ (omega arith)

pub condition_of-requires : goal.condition_of-requires
condition_of-requires c = some_fault _ c.fault_at-number.ensures.few c.if-number-ne0.true

pub returns-then-number-ne0 : goal.returns-then-number-ne0
returns-then-number-ne0 c =
    let l = c.loop-i in
    let e = c.fault_at-number.ensures.value in
    ap (λ (f : ℕ). refused f l.i) (c.condition_of.ensures ∙ e) ∙ sym (fails _ _ l.i c.loop-i-test.true (λ z. c.if-number-ne0.true (e ∙ z))) ∙ l.invariant

pub loop-i-preserved : goal.loop-i-preserved
loop-i-preserved c =
    let l = c.loop-i in
    sym (passes _ _ l.i c.loop-i-test.true (sym c.fault_at-number.ensures.value ∙ c.if-number-ne0.false)) ∙ l.invariant

pub returns : goal.returns
returns c = sym (ends _ _ _ (omega arith)) ∙ c.loop-i.invariant
