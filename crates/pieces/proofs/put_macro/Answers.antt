-- `pieces::put_macro` meets its contract. An arm for each opcode that has a macro. Assumes nothing.
use mathlib.Core.Path.{◌≡◌}
use Rattle.model.specs.Stored.{operand_of}
use Rattle.model.specs.Expansion.{lookup, macro}
use Rattle.pieces.proofs.PieceWrites.{not_macro, mov_macro, and_macro, orr_macro, xor_macro, no_macro, same_wrote, same_room, nothing_wrote}
use Rattle.pieces.proofs.put_macro.Goals.{in-And, in-Orr, in-Xor}
use Rattle.pieces.proofs.put_macro.Goals as goal

pub put_negate-requires : goal.put_negate-requires
put_negate-requires c = let a = c.args in same_room _ _ (not_macro a.layout a.o (operand_of a.d) (operand_of a.a) (operand_of a.b) c.in-Not.is) a.out.now a.at c.requires

pub returns-in-Not : goal.returns-in-Not
returns-in-Not c = let a = c.args in same_wrote _ _ (not_macro a.layout a.o (operand_of a.d) (operand_of a.a) (operand_of a.b) c.in-Not.is) _ _ c.put_negate.ensures

pub put_copy-requires : goal.put_copy-requires
put_copy-requires c = let a = c.args in same_room _ _ (mov_macro a.layout a.o (operand_of a.d) (operand_of a.a) (operand_of a.b) c.in-Mov.is) a.out.now a.at c.requires

pub returns-in-Mov : goal.returns-in-Mov
returns-in-Mov c = let a = c.args in same_wrote _ _ (mov_macro a.layout a.o (operand_of a.d) (operand_of a.a) (operand_of a.b) c.in-Mov.is) _ _ c.put_copy.ensures

pub returns-in_default : goal.returns-in_default
returns-in_default c =
    let a = c.args in
    let n = c.in_default in
    nothing_wrote _ (no_macro a.layout a.o (operand_of a.d) (operand_of a.a) (operand_of a.b) n.not-Not n.not-Mov n.not-And n.not-Orr n.not-Xor) a.out.now a.at c.requires

pub put_lookup-requires : goal.put_lookup-requires
put_lookup-requires c =
    let a = c.args in
    let is : macro a.layout a.o (operand_of a.d) (operand_of a.a) (operand_of a.b) ≡ lookup a.layout c.match-o.table (operand_of a.d) (operand_of a.a) (operand_of a.b) =
    elim c.match-o.branch [
      | in-And w ↦ and_macro a.layout a.o _ _ _ _ w.in-And.is w.table-is
      | in-Orr w ↦ orr_macro a.layout a.o _ _ _ _ w.in-Orr.is w.table-is
      | in-Xor w ↦ xor_macro a.layout a.o _ _ _ _ w.in-Xor.is w.table-is
    ] in
    same_room _ _ is a.out.now a.at c.requires

pub returns : goal.returns
returns c =
    let a = c.args in
    let is : macro a.layout a.o (operand_of a.d) (operand_of a.a) (operand_of a.b) ≡ lookup a.layout c.match-o.table (operand_of a.d) (operand_of a.a) (operand_of a.b) =
    elim c.match-o.branch [
      | in-And w ↦ and_macro a.layout a.o _ _ _ _ w.in-And.is w.table-is
      | in-Orr w ↦ orr_macro a.layout a.o _ _ _ _ w.in-Orr.is w.table-is
      | in-Xor w ↦ xor_macro a.layout a.o _ _ _ _ w.in-Xor.is w.table-is
    ] in
    same_wrote _ _ is _ _ c.put_lookup.ensures
