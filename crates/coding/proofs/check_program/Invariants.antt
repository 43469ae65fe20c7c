-- `coding::check_program` meets its contract. The loop's invariant: the check of the lines that are left answers as the whole does.
-- Assumes nothing.
use mathlib.Core.Path.{◌≡◌}
use Prim.Native.Nat.{◌-◌}
use Rattle.model.specs.Stored.{check_from, program_check}
use Rattle.coding.proofs.check_program.Given as goal

abbrev pub invariant-loop-i : goal.invariant-loop-i
invariant-loop-i l = check_from l.program l.i (l.count - l.i) ≡ program_check l.program
