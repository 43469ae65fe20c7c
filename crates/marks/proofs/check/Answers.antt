-- `marks::check` meets its contract. A program that the check of its numbers refuses is refused so; for any other the
-- conditions of the marks decide. Assumes nothing.
use Rattle.std.proofs.lemmas.Result.{err_from_is_err_and}
use Rattle.marks.proofs.MarkWalk.{check_stops, check_goes_on}
use Rattle.marks.proofs.check.Goals as goal

pub returns-in_err-check_program : goal.returns-in_err-check_program
returns-in_err-check_program c =
    let p = err_from_is_err_and c.from_residual.result c.from_residual.ensures.1 in
    rw (p.1, p.2) (check_stops c.args.program.now _ _ c.in_err-check_program.was c.check_program.ensures)

pub returns : goal.returns
returns c = check_goes_on c.args.program.now _ _ _ c.check_program.ensures c.in_ok-check_program.was c.check_marks.ensures
