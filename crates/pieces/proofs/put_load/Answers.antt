-- `pieces::put_load` meets its contract. The register precharged and written; then, by whether the argument is a public place, its
-- bit coded. Assumes nothing.
use mathlib.Core.Path.{sym, ◌∙◌}
use native.Mathlib.Omega.{arith}
use Rattle.model.specs.Stored.{operand_of}
use Rattle.model.proofs.Loads.{load_public, load_bounds}
use Rattle.pieces.proofs.PieceWrites.{load_wrote, load_bit_wrote}
use Rattle.pieces.proofs.put_load.Goals as goal

pub put_precharged-loaded-requires : goal.put_precharged-loaded-requires
put_precharged-loaded-requires c = omega (arith, c.requires.1, load_bounds c.args.n (operand_of c.args.a))

pub put_code_bit-requires : goal.put_code_bit-requires
put_code_bit-requires c =
    let w = c.put_precharged-loaded.ensures in
    (c.requires.0, omega (arith, c.requires.1, load_public c.args.n (operand_of c.args.a) (sym c.names_public.ensures ∙ c.if-names_public.true), w.ends, w.long))

pub returns-then-names_public : goal.returns-then-names_public
returns-then-names_public c = load_bit_wrote _ _ c.requires.0 (sym c.names_public.ensures ∙ c.if-names_public.true) c.put_precharged-loaded.ensures c.put_code_bit.ensures

pub returns : goal.returns
returns c = load_wrote _ _ c.requires.0 (sym c.names_public.ensures ∙ c.if-names_public.false) c.put_precharged-loaded.ensures
