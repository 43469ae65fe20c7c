-- `printing::write` meets its contract: that the text fits is known before a byte is written, and it then stands at the front. Assumes nothing.
use Prim.Native.Nat.{ℕ, ◌≤◌, ◌<◌}
use mathlib.Core.Path.{ap₂, ◌∙◌}
use mathlib.Core.List.{List, [], ◌∷◌}
use native.Mathlib.Omega.{arith}
use native.Mathlib.Nat.{zero-add}
use lib.ListN.{length}
use Rattle.std.proofs.lemmas.Result.{err_from_is_err_and}
use Rattle.model.specs.Answers.{counted, outcome}
use Rattle.model.specs.Text.{text_of}
use Rattle.model.proofs.CheckAnswers.{count-told}
use Rattle.model.proofs.Overwrites.{sets_front}
use Rattle.printing.proofs.PrintLaws.{write_refused, write_room, write_done, write_few, write_most}
use Rattle.printing.proofs.write.Goals as goal
use Rattle.printing.proofs.write.Goals.{else-out-n-via-then-out-n+else-out-text_size, else-out-n-via-else-out-n}

pub returns-in_err-check_program : goal.returns-in_err-check_program
returns-in_err-check_program c =
    let p = err_from_is_err_and c.from_residual.result c.from_residual.ensures.1 in
    rw (p.1, p.2) (write_refused c.args.program.now c.args.out.now _ _ c.in_err-check_program.was c.check_program.ensures)

pub overflow_mul-n : goal.overflow_mul-n
overflow_mul-n c = omega (arith, write_few c.args.program.now c.args.out.now _ (count-told c.in_ok-check_program.was c.check_program.ensures))

pub text_size-requires : goal.text_size-requires
text_size-requires c = write_few c.args.program.now c.args.out.now _ (count-told c.in_ok-check_program.was c.check_program.ensures)

pub returns-then-out-text_size : goal.returns-then-out-text_size
unfolding text_of
returns-then-out-text_size c =
    let p = c.args.program.now in
    let o = c.args.out.now in
    let over : length o < length (text_of p) = omega (arith, c.text_size.ensures) in
    write_room p o _ (count-told c.in_ok-check_program.was c.check_program.ensures) over

pub print-written-requires : goal.print-written-requires
print-written-requires c = write_few c.args.program.now c.args.out.now _ (count-told c.in_ok-check_program.was c.check_program.ensures)

pub overflow_cast-result : goal.overflow_cast-result
overflow_cast-result c = omega (arith, write_few c.args.program.now c.args.out.now _ (count-told c.in_ok-check_program.was c.check_program.ensures), c.print-written.ensures.near)

pub returns : goal.returns
unfolding text_of
returns c =
    let p = c.args.program.now in
    let o = c.args.out.now in
    let e = (count-told c.in_ok-check_program.was c.check_program.ensures) in
    let fits : length (text_of p) ≤ length o =
    elim c.else-out-n.branch [ else-out-n-via-then-out-n+else-out-text_size w ↦ omega (arith, w.text_size.ensures, w.if-out-text_size.false) | else-out-n-via-else-out-n w ↦ omega (arith, w.if-out-n.false, write_most p o _ e) ] in
    let w = c.print-written.ensures in
    ap₂ (λ (k : ℕ) (t : List ℕ). outcome (counted k) (t ∷ [])) (w.after ∙ zero-add (length (text_of p))) (w.bytes ∙ sets_front o (text_of p) fits)
    ∙ write_done p o _ e fits
