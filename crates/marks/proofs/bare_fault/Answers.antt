-- `marks::bare_fault` meets its contract: without a mark and operands no condition but 16 can hold. Assumes nothing.
use mathlib.Core.Path.{◌≡◌, refl}
use mathlib.Core.Bool.{cond}
use Prim.Native.Nat.{ℕ}
use Rattle.model.specs.Stored.{operand_of, line_of}
use Rattle.model.specs.Marks.{holds10, holds11, holds12, holds14, holds15, holds16, mark_fault}
use Rattle.marks.proofs.bare_fault.Goals as goal

bare : (n o t : ℕ) → mark_fault n (line_of 0 o 0 0 0 t) ≡ cond (holds16 n (line_of 0 0 0 0 0 t)) 16 0
unfolding mark_fault holds10 holds11 holds12 holds14 holds15 holds16 operand_of
bare n o t = refl

pub returns-then-holds16 : goal.returns-then-holds16
returns-then-holds16 c = λ o. rw (bare c.args.count o c.args.t, ← c.holds16.ensures, c.if-holds16.true)

pub returns-else-holds16 : goal.returns-else-holds16
returns-else-holds16 c = λ o. rw (bare c.args.count o c.args.t, ← c.holds16.ensures, c.if-holds16.false)
