-- `pieces::coded` meets its contract. By the range that tells a literal. Assumes nothing.
use native.Mathlib.Omega.{arith}
use Rattle.model.specs.Expansion.{coded}
use Rattle.model.proofs.Forms.{empty}
use Rattle.pieces.proofs.PartNumbers.{coded_literal, coded_other}
use Rattle.pieces.proofs.coded.Goals as goal

pub returns-in-1-to-256 : goal.returns-in-1-to-256
returns-in-1-to-256 c = coded_literal c.args.layout c.args.code _ _ (omega arith) (omega arith) c.code_of.ensures c.literal.ensures

pub returns-in_default : goal.returns-in_default
unfolding coded
returns-in_default c = rw (empty c.args.code (omega arith))

pub returns-in_default-2 : goal.returns-in_default-2
returns-in_default-2 c = coded_other c.args.layout c.args.code (omega arith)
