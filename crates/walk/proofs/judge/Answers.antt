-- `walk::judge` meets its contract: each refusal, and the walk on sets of its own. The check of a program answers a count or a refusal alone. Assumes nothing.
use mathlib.Core.Path.{sym, ap, ◌∙◌}
use native.Mathlib.Omega.{arith}
use lib.ListN.{length}
use Rattle.std.proofs.lemmas.Result.{err_from_is_err_and}
use Rattle.model.proofs.StoredLaws.{program_checked}
use Rattle.model.proofs.CheckAnswers.{count-told}
use Rattle.model.proofs.TestLaws.{holds}
use Rattle.model.specs.Limits.{state_size}
use Rattle.sets.specs.Walk.{sized, sets_of}
use Rattle.sets.proofs.Reports.{sized-full}
use Rattle.walk.proofs.WalkLaws.{no_program, no_sets, no_sizes, walks}
use Rattle.walk.proofs.judge.Goals as goal

pub returns-in_err-count : goal.returns-in_err-count
returns-in_err-count c =
    let x = c.args in
    let p = err_from_is_err_and c.from_residual.result c.from_residual.ensures.1 in
    rw (p.1, p.2) (no_program x.program.now x.sets.now x.budget _ _ c.in_err-count.was c.check_program.ensures)

pub returns-in_default : goal.returns-in_default
returns-in_default c =
    let x = c.args in
    let k = c.check_program in
    no_sets x.program.now x.sets.now x.budget _ (count-told c.in_ok-count.was k.ensures) c.in_default.ensures.1

pub returns-then-not-is_sized : goal.returns-then-not-is_sized
returns-then-not-is_sized c =
    let x = c.args in
    let k = c.check_program in
    let w = c.in-Ok.ensures.1 in
    no_sizes x.program.now x.sets.now x.budget _ (count-told c.in_ok-count.was k.ensures) w.long (ap (sized state_size) (sym w.same) ∙ sym c.is_sized.ensures ∙ c.if-not-is_sized.true)

pub take_sets-requires : goal.take_sets-requires
take_sets-requires c = holds (sym c.is_sized.ensures ∙ c.if-not-is_sized.false)

pub overflow_cast-count : goal.overflow_cast-count
overflow_cast-count c =
    let x = c.args in
    let k = c.check_program in
    omega (arith, (program_checked x.program.now _ (count-told c.in_ok-count.was k.ensures)).few)

pub walk_lines-requires : goal.walk_lines-requires
walk_lines-requires c =
    let x = c.args in
    let k = c.check_program in
    let t = c.take_sets in
    let w = c.in-Ok.ensures.1 in
    let q = program_checked x.program.now _ (count-told c.in_ok-count.was k.ensures) in
    (q.count, omega (arith, q.few, q.count), t.ensures.1, rw t.ensures.0 (sized-full c.in-Ok.sets.now (ap length w.same ∙ w.long) (holds (sym c.is_sized.ensures ∙ c.if-not-is_sized.false))))

pub returns : goal.returns
returns c =
    let x = c.args in
    let k = c.check_program in
    let w = c.in-Ok.ensures.1 in
    walks x.program.now x.sets.now x.budget _ (count-told c.in_ok-count.was k.ensures) _ _ w.long
    (ap (sized state_size) (sym w.same) ∙ sym c.is_sized.ensures ∙ c.if-not-is_sized.false) (c.take_sets.ensures.0 ∙ ap sets_of w.same) c.walk_lines.ensures
