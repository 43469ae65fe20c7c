-- `marks::other_fault` meets its contract. 10, then 11; else 12 holds. Assumes nothing.
use mathlib.Core.Path.{refl, sym, ◌∙◌}
use Rattle.model.specs.Marks.{mark_fault}
use Rattle.model.specs.Stored.{line_of}
use Rattle.marks.proofs.MarkWalk.{broken, kept}
use Rattle.marks.proofs.UsualOperands.{other_12}
use Rattle.marks.proofs.other_fault.Goals as goal

pub returns-then-holds10 : goal.returns-then-holds10
unfolding mark_fault
returns-then-holds10 c = λ n o t. broken _ _ _ _ c.holds10.ensures c.if-holds10.true

pub returns-then-holds11 : goal.returns-then-holds11
unfolding mark_fault
returns-then-holds11 c = λ n o t. kept _ _ _ _ _ c.holds10.ensures c.if-holds10.false (broken _ _ _ _ c.holds11.ensures c.if-holds11.true)

pub returns : goal.returns
unfolding mark_fault
returns c = λ n o t. kept _ _ _ _ _ c.holds10.ensures c.if-holds10.false (kept _ _ _ _ _ c.holds11.ensures c.if-holds11.false (broken _ _ _ _ (other_12 (line_of c.args.m o c.args.d c.args.a c.args.b t) c.requires (sym c.if-holds10.false ∙ c.holds10.ensures)) refl))
