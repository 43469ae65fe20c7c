-- `published::lines::line_at` meets its contract: the parts before a comment, and the newline behind them. Assumes nothing.
use mathlib.Core.Path.{sym, ap, ap₂}
use Prim.Native.Nat.{ℕ, ◌+◌, ◌-◌}
use mathlib.Core.List.{List}
use lib.ListN.{length, take, drop, length-drop}
use lib.Dec.{ltb}
use lib.Seq.{length-take-le}
use native.Mathlib.Omega.{arith}
use Rattle.published.proofs.PlaceLaws.{placed-code, placed_end, placed_long}
use Rattle.published.proofs.lines.line_at.Goals as goal

pub slice_bounds-blanks-end : goal.slice_bounds-blanks-end
slice_bounds-blanks-end c = sym (length-take-le c.code_size-code.result _ c.code_size-code.ensures.1)

pub overflow_add-result : goal.overflow_add-result
overflow_add-result c =
    let text = c.args.text.now in
    let at = c.args.at in
    let line : List ℕ = take (length text - at) (drop at text) in
    omega (arith, c.requires, c.blanks-gap.ensures.1, c.code_size-code.ensures.1, length-take-le c.code_size-code.result line c.code_size-code.ensures.1, placed_long text at 0 0, length-drop at text, c.ranges)

pub overflow_sub-result : goal.overflow_sub-result
overflow_sub-result c =
    let text = c.args.text.now in
    let at = c.args.at in
    omega (arith, c.blanks-gap.ensures.1, length-take-le c.code_size-code.result (take (length text - at) (drop at text)) c.code_size-code.ensures.1)

pub returns : goal.returns
returns c =
    let text = c.args.text.now in
    let at = c.args.at in
    let e = placed_end text at c.code_size-code.result c.blanks-gap.result c.find.result c.code_size-code.ensures.0 c.find.ensures.0 in
    record {
      code = placed-code text at c.code_size-code.result c.blanks-gap.result c.code_size-code.ensures.0 c.blanks-gap.ensures.0;
      past = ap (λ (k : ℕ). at + k + 1) e;
      end = ap₂ ltb e (placed_long text at c.code_size-code.result c.blanks-gap.result);
    }
