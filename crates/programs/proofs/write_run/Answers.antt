-- `programs::write_run` meets its contract: the run from the image is halted or spent, and its rows stand in the trace store.
-- Assumes nothing.
use mathlib.Core.Path.{◌≡◌, ◌∙◌, ap, sym}
use mathlib.Core.Bool.{true, false}
use mathlib.Core.List.{List}
use Prim.Native.Nat.{ℕ}
use native.Mathlib.Omega.{arith}
use Rattle.std.specs.Prelude.{Result, Ok}
use Rattle.model.specs.declared.Ending.{Ending}
use Rattle.model.specs.declared.Refusal.{Refusal}
use Rattle.model.specs.Answers.{report, ended, run_report}
use Rattle.model.specs.Text.{fitted}
use Rattle.programs.proofs.RunLaws.{end_word, ending, answered, steps_fit, ended_is, never_refuses}
use Rattle.programs.proofs.write_run.Goals as goal

told : {a : Result Ending (Refusal ℕ)} {e f : Ending} → a ≡ Ok e → e ≡ f → run_report a ≡ ended f
told q d = ap run_report q ∙ ap ended d

pub write_ended-requires : goal.write_ended-requires
write_ended-requires c =
    let image = c.to_image.new.image in
    let state = c.run.new.state in
    let trace = c.run.new.trace in (
      omega (arith, c.run.auto.trace, c.room-trace.ensures.len),
      steps_fit c.args.program.now image state c.room-trace.result trace (run_report c.run.result) (report c.to_image.result) c.requires c.to_image.ensures c.room-trace.ensures.len c.run.ensures
          (end_word false) c.in-Halted.steps (ending _ _ false _ c.in-Halted.steps (sym (told c.in_ok-ending.was c.in-Halted.is) ∙ answered c.args.program.now image state c.room-trace.result trace (run_report c.run.result) (report c.to_image.result) c.requires c.to_image.ensures c.room-trace.ensures.len c.run.ensures)),
      omega arith,
    )

pub write_ended-requires-in-Spent : goal.write_ended-requires-in-Spent
write_ended-requires-in-Spent c =
    let image = c.to_image.new.image in
    let state = c.run.new.state in
    let trace = c.run.new.trace in (
      omega (arith, c.run.auto.trace, c.room-trace.ensures.len),
      steps_fit c.args.program.now image state c.room-trace.result trace (run_report c.run.result) (report c.to_image.result) c.requires c.to_image.ensures c.room-trace.ensures.len c.run.ensures
          (end_word true) c.in-Spent.steps (ending _ _ true _ c.in-Spent.steps (sym (told c.in_ok-ending.was c.in-Spent.is) ∙ answered c.args.program.now image state c.room-trace.result trace (run_report c.run.result) (report c.to_image.result) c.requires c.to_image.ensures c.room-trace.ensures.len c.run.ensures)),
      omega arith,
    )

pub returns-in-Halted : goal.returns-in-Halted
returns-in-Halted c =
    let image = c.to_image.new.image in
    let state = c.run.new.state in
    let trace = c.run.new.trace in
    c.write_ended.ensures ∙ ap (λ (x : List ℕ). fitted x c.args.out.now) (ended_is c.args.program.now image state c.room-trace.result trace (run_report c.run.result) (report c.to_image.result) c.requires c.to_image.ensures c.room-trace.ensures.len c.run.ensures
    (end_word false) c.in-Halted.steps (ending _ _ false _ c.in-Halted.steps (sym (told c.in_ok-ending.was c.in-Halted.is) ∙ answered c.args.program.now image state c.room-trace.result trace (run_report c.run.result) (report c.to_image.result) c.requires c.to_image.ensures c.room-trace.ensures.len c.run.ensures)))

pub returns-in-Spent : goal.returns-in-Spent
returns-in-Spent c =
    let image = c.to_image.new.image in
    let state = c.run.new.state in
    let trace = c.run.new.trace in
    c.write_ended-in-Spent.ensures ∙ ap (λ (x : List ℕ). fitted x c.args.out.now) (ended_is c.args.program.now image state c.room-trace.result trace (run_report c.run.result) (report c.to_image.result) c.requires c.to_image.ensures c.room-trace.ensures.len c.run.ensures
    (end_word true) c.in-Spent.steps (ending _ _ true _ c.in-Spent.steps (sym (told c.in_ok-ending.was c.in-Spent.is) ∙ answered c.args.program.now image state c.room-trace.result trace (run_report c.run.result) (report c.to_image.result) c.requires c.to_image.ensures c.room-trace.ensures.len c.run.ensures)))

pub returns-in_err-ending : goal.returns-in_err-ending
returns-in_err-ending c =
    let image = c.to_image.new.image in
    let state = c.run.new.state in
    let trace = c.run.new.trace in
    absurd (never_refuses c.args.program.now image state c.room-trace.result trace (run_report c.run.result) (report c.to_image.result) c.requires c.to_image.ensures c.room-trace.ensures.len c.run.ensures _ _ (ap run_report c.in_err-ending.was))
