-- `pieces::put_scale` meets its contract. Its lines, one after the other, by whether the bits are spaced. Assumes nothing.
use native.Mathlib.Omega.{arith}
use Rattle.model.proofs.Lengths.{scale_bounds, scale_near}
use Rattle.pieces.proofs.PieceWrites.{spaced_wrote, near_wrote}
use Rattle.pieces.proofs.put_scale.Goals as goal

pub put_marked-masked-requires : goal.put_marked-masked-requires
put_marked-masked-requires c = omega (arith, scale_bounds c.args.layout)

pub put_marked-shifted-requires : goal.put_marked-shifted-requires
put_marked-shifted-requires c = omega (arith, scale_bounds c.args.layout)

pub returns-then-layout : goal.returns-then-layout
returns-then-layout c = spaced_wrote _ _ c.literal.ensures c.if-layout.true c.put_marked-masked.ensures c.put_marked-shifted.ensures

pub put_marked-requires : goal.put_marked-requires
put_marked-requires c = omega (arith, scale_near c.args.layout c.if-layout.false)

pub returns : goal.returns
returns c = near_wrote _ _ c.literal.ensures c.if-layout.false c.put_marked-masked.ensures c.put_marked-shifted.ensures c.put_marked.ensures
