-- `verdicts::print_verdict` meets its contract: a refusal is printed, and what was read is judged. Assumes nothing.
use mathlib.Core.Path.{sym, ap, ◌∙◌}
use mathlib.Core.List.{List}
use Prim.Native.Nat.{ℕ}
use lib.Seq.{length-take-le}
use Rattle.model.specs.Text.{fitted}
use Rattle.verdicts.proofs.VerdictTexts.{long_prints, unread_prints, lines_fit, read_prints}
use Rattle.verdicts.proofs.print_verdict.Goals as goal

pub returns-then-input-gt-INPUT_SIZE : goal.returns-then-input-gt-INPUT_SIZE
returns-then-input-gt-INPUT_SIZE c =
    let x = c.args in
    c.write_refusal.ensures ∙ ap (λ (t : List ℕ). fitted t x.out.now) (long_prints x.input.now c.if-input-gt-INPUT_SIZE.true)

pub returns-in_default : goal.returns-in_default
returns-in_default c =
    let x = c.args in
    let s = c.room-store in
    let r = c.read_lines-got in
    c.write_refusal-in_default.ensures ∙ ap (λ (t : List ℕ). fitted t x.out.now) (unread_prints x.input.now s.result r.new.store r.result c.if-input-gt-INPUT_SIZE.false s.ensures.len r.ensures _ c.in_default.is)

pub slice_bounds-store-end : goal.slice_bounds-store-end
slice_bounds-store-end c =
    let x = c.args in
    let s = c.room-store in
    let r = c.read_lines-got in
    lines_fit x.input.now s.result r.new.store r.result c.if-input-gt-INPUT_SIZE.false s.ensures.len r.ensures c.in-Ok.n c.in-Ok.is

pub slice_bounds-write_judged-end : goal.slice_bounds-write_judged-end
slice_bounds-write_judged-end c =
    let x = c.args in
    let s = c.room-store in
    let r = c.read_lines-got in
    sym (length-take-le _ _ (lines_fit x.input.now s.result r.new.store r.result c.if-input-gt-INPUT_SIZE.false s.ensures.len r.ensures c.in-Ok.n c.in-Ok.is))

pub returns : goal.returns
returns c =
    let x = c.args in
    let s = c.room-store in
    let r = c.read_lines-got in
    c.write_judged.ensures ∙ ap (λ (t : List ℕ). fitted t x.out.now) (read_prints x.input.now s.result r.new.store r.result c.if-input-gt-INPUT_SIZE.false s.ensures.len r.ensures c.in-Ok.n c.in-Ok.is)
