-- `filters::print_sent` meets its contract. Assumes nothing.
use mathlib.Core.Path.{ap, ◌∙◌}
use Prim.Native.Nat.{ℕ}
use mathlib.Core.List.{List}
use Rattle.model.specs.Answers.{report}
use Rattle.model.specs.Text.{fitted}
use Rattle.filters.proofs.FilterLaws.{sent_narrow, sent_told, long_sent}
use Rattle.filters.proofs.print_sent.Goals as goal

pub returns-then-input-gt-INPUT_SIZE : goal.returns-then-input-gt-INPUT_SIZE
returns-then-input-gt-INPUT_SIZE c = c.write_refusal.ensures ∙ ap (λ (t : List ℕ). fitted t c.args.out.now) (long_sent c.args.input.now c.if-input-gt-INPUT_SIZE.true)

pub tell-requires : goal.tell-requires
tell-requires c = sent_narrow c.args.input.now c.args.out.now _ (report c.send_out.result) c.if-input-gt-INPUT_SIZE.false c.send_out.ensures

pub returns : goal.returns
returns c = c.tell.ensures ∙ sent_told c.args.input.now c.args.out.now _ (report c.send_out.result) c.if-input-gt-INPUT_SIZE.false c.send_out.ensures
