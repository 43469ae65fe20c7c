-- `printing::size::line_size` meets its contract. Assumes nothing.
use native.Mathlib.Omega.{arith}
use borrow.Author.Rules.{rules}
use Rattle.printing.proofs.SizeLaws.{line_sizes}
use Rattle.printing.proofs.size.line_size.Goals as goal

pub returns : goal.returns
returns c = ((λ m o. omega (arith, line_sizes m o c.args.d c.args.a c.args.b c.args.t, c.operand_size.ensures.0, c.operand_size-2.ensures.0, c.operand_size-3.ensures.0, c.target_size.ensures.0)), search rules)
