-- `pieces::put_line` meets its contract. The six numbers are those of the line. Assumes nothing.
use native.Mathlib.Omega.{arith}
use lib.ListN.{length-set}
use Rattle.pieces.proofs.PartNumbers.{line_stored}
use Rattle.pieces.proofs.StoreWrites.{one_line, wrote_one}
use borrow.Author.Rules.{rules}
use Rattle.pieces.proofs.put_line.Goals as goal

pub bounds-out-k-2 : goal.bounds-out-k-2
bounds-out-k-2 c = simp length-set (omega arith)

pub bounds-out-k-3 : goal.bounds-out-k-3
bounds-out-k-3 c = simp length-set (omega arith)

pub bounds-out-k-4 : goal.bounds-out-k-4
bounds-out-k-4 c = simp length-set (omega arith)

pub bounds-out-k-5 : goal.bounds-out-k-5
bounds-out-k-5 c = simp length-set (omega arith)

pub bounds-out-k-6 : goal.bounds-out-k-6
bounds-out-k-6 c = simp length-set (omega arith)

pub returns : goal.returns
returns c =
    λ y e.
    wrote_one (omega arith) c.requires
    (one_line _ c.args.at _ _ c.args.d c.args.a c.args.b c.args.t _
    (rw (c.mark_code.ensures, c.opcode_code.ensures)
    (line_stored c.args.m c.args.o _ _ _ _ y (search rules) (search rules) (search rules) e)) c.requires)
