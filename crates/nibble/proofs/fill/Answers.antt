-- `nibble::fill` meets its contract. The table is that of the nibbles below a alone, and what is left of the map decides as the whole does.
-- Assumes nothing.
use mathlib.Core.Path.{◌∙◌}
use Prim.Native.Nat.{◌<◌}
use native.Mathlib.Omega.{arith}
use borrow.Author.Rules.{rules}
use Rattle.nibble.proofs.CodeLaws.{six-bits}
use Rattle.nibble.proofs.MapLaws.{above_next, above_here, above_end, none_filled, fill_turn, fill_end}
use Rattle.nibble.proofs.fill.Goals as goal

pub loop-a-init : goal.loop-a-init
loop-a-init c = (c.requires.zeros ∙ none_filled c.args.map.now, omega arith)

pub bounds-table-at : goal.bounds-table-at
bounds-table-at c = let h : c.encode-at.result < 64 = rw c.encode-at.ensures (six-bits c.loop-a.a) in search rules

pub loop-a-preserved : goal.loop-a-preserved
loop-a-preserved c =
    let m = c.args.map.now in
    let l = c.loop-a in
    (fill_turn m l.table l.a _ _ l.invariant.0 (omega arith) c.encode-at.ensures c.encode.ensures, above_next m l.a (omega arith) c.if-value-gt15.false ∙ l.invariant.1)

pub returns-then-value-gt15-clause-err : goal.returns-then-value-gt15-clause-err
returns-then-value-gt15-clause-err c = (above_here c.args.map.now c.loop-a.a (omega arith) c.if-value-gt15.true ∙ c.loop-a.invariant.1, omega arith)

pub returns-clause-ok : goal.returns-clause-ok
returns-clause-ok c =
    let m = c.args.map.now in
    let l = c.loop-a in
    (omega (arith, above_end m l.a (omega arith), l.invariant.1), fill_end m l.table l.a l.invariant.0 (omega arith))
