-- `filters::tell` meets its contract. Assumes nothing.
use native.Mathlib.Omega.{arith}
use mathlib.Core.Path.{◌∙◌}
use Rattle.filters.proofs.FilterLaws.{count-narrow, tell_count, line_narrow, tell_room, tell_line}
use Rattle.filters.proofs.tell.Goals as goal

pub overflow_cast-result : goal.overflow_cast-result
overflow_cast-result c = omega (arith, count-narrow c.args.answer _ c.in-Ok.is c.requires)

pub overflow_cast-refusal : goal.overflow_cast-refusal
overflow_cast-refusal c = omega (arith, line_narrow c.args.answer _ c.in-Err.is c.requires)

pub returns-in-Ok : goal.returns-in-Ok
returns-in-Ok c = tell_count c.args.answer _ c.in-Ok.is c.args.out.now

pub returns-in-NoRoom : goal.returns-in-NoRoom
returns-in-NoRoom c = tell_room c.args.answer _ c.in-Err.is c.args.out.now c.in-NoRoom.is

pub returns-in_default : goal.returns-in_default
returns-in_default c = c.write_refusal.ensures ∙ tell_line c.args.answer _ c.in-Err.is c.args.out.now c.in_default.not-NoRoom
