-- `published::instructions::operands` meets its contract: each operand in turn, then the mark check without the target. Assumes nothing.
use Prim.Native.Nat.{ℕ}
use Rattle.std.proofs.lemmas.Result.{err_from_is_err_and}
use Rattle.model.specs.Stored.{no_literal, line_of}
use Rattle.model.specs.Marks.{mark_fault}
use mathlib.Core.Path.{sym, ap, ◌∙◌}
use Rattle.model.proofs.CheckAnswers.{none_0, some_numbered}
use Rattle.text.proofs.FieldAnswers.{right, wrong}
use Rattle.published.proofs.InstructionLaws.{no_place, no_first, no_second, marks_fail, marks_pass}
use Rattle.published.proofs.instructions.operands.Goals as goal

pub returns-in_err-destination : goal.returns-in_err-destination
returns-in_err-destination c =
    λ n h.
    let p = err_from_is_err_and c.from_residual.result c.from_residual.ensures.1 in
    let w = wrong _ _ (c.no_literal.ensures ∙ ap no_literal c.operand.ensures) c.ok_or.ensures.value c.in_err-destination.was in
    rw (p.1, p.2, w.condition) (no_place n c.args.o c.args.d.now c.args.a.now c.args.b.now _ w.missing)

pub returns-in_err-first : goal.returns-in_err-first
returns-in_err-first c =
    λ n h.
    let p = err_from_is_err_and c.from_residual-in_err-first.result c.from_residual-in_err-first.ensures.1 in
    let x = right _ _ (c.no_literal.ensures ∙ ap no_literal c.operand.ensures) c.ok_or.ensures.value c.in_ok-destination.was in
    let w = wrong _ _ c.operand-2.ensures c.ok_or-2.ensures.value c.in_err-first.was in
    rw (p.1, p.2, w.condition) (no_first n c.args.o c.args.d.now c.args.a.now c.args.b.now _ _ x w.missing)

pub returns-in_err-second : goal.returns-in_err-second
returns-in_err-second c =
    λ n h.
    let p = err_from_is_err_and c.from_residual-in_err-second.result c.from_residual-in_err-second.ensures.1 in
    let x = right _ _ (c.no_literal.ensures ∙ ap no_literal c.operand.ensures) c.ok_or.ensures.value c.in_ok-destination.was in
    let y = right _ _ c.operand-2.ensures c.ok_or-2.ensures.value c.in_ok-first.was in
    let w = wrong _ _ c.operand-3.ensures c.ok_or-3.ensures.value c.in_err-second.was in
    rw (p.1, p.2, w.condition) (no_second n c.args.o c.args.d.now c.args.a.now c.args.b.now _ _ _ x y w.missing)

pub returns-then-is_some : goal.returns-then-is_some
returns-then-is_some c =
    λ n h.
    let x = right _ _ (c.no_literal.ensures ∙ ap no_literal c.operand.ensures) c.ok_or.ensures.value c.in_ok-destination.was in
    let y = right _ _ c.operand-2.ensures c.ok_or-2.ensures.value c.in_ok-first.was in
    let z = right _ _ c.operand-3.ensures c.ok_or-3.ensures.value c.in_ok-second.was in
    marks_fail n c.args.o c.args.d.now c.args.a.now c.args.b.now c.args.target _ _ _ x y z h
    (λ e. some_numbered _ (sym c.is_some.ensures ∙ c.if-is_some.true) (c.mark_fault.ensures ∙ ap (λ (m : ℕ). mark_fault 0 (line_of m c.args.o c.in_ok-destination.destination c.in_ok-first.first c.in_ok-second.second 0)) c.mark_for-mark.ensures ∙ e))

pub returns : goal.returns
returns c =
    λ n h.
    let x = right _ _ (c.no_literal.ensures ∙ ap no_literal c.operand.ensures) c.ok_or.ensures.value c.in_ok-destination.was in
    let y = right _ _ c.operand-2.ensures c.ok_or-2.ensures.value c.in_ok-first.was in
    let z = right _ _ c.operand-3.ensures c.ok_or-3.ensures.value c.in_ok-second.was in
    marks_pass n c.args.o c.args.d.now c.args.a.now c.args.b.now c.args.target _ _ _ x y z h _ c.mark_for-mark.ensures (sym c.mark_fault.ensures ∙ none_0 _ (sym c.is_some.ensures ∙ c.if-is_some.false))
