-- `filters::print_taken` meets its contract. Assumes nothing.
use mathlib.Core.Path.{ap, ◌∙◌}
use Prim.Native.Nat.{ℕ}
use mathlib.Core.List.{List}
use Rattle.model.specs.Answers.{report}
use Rattle.model.specs.Text.{fitted}
use Rattle.filters.proofs.FilterLaws.{taken-narrow, taken-told, long_taken}
use Rattle.filters.proofs.print_taken.Goals as goal

pub returns-then-input-gt-INPUT_SIZE : goal.returns-then-input-gt-INPUT_SIZE
returns-then-input-gt-INPUT_SIZE c = c.write_refusal.ensures ∙ ap (λ (t : List ℕ). fitted t c.args.out.now) (long_taken c.args.input.now c.if-input-gt-INPUT_SIZE.true)

pub tell-requires : goal.tell-requires
tell-requires c = taken-narrow c.args.input.now c.args.out.now _ (report c.take_in.result) c.if-input-gt-INPUT_SIZE.false c.take_in.ensures

pub returns : goal.returns
returns c = c.tell.ensures ∙ taken-told c.args.input.now c.args.out.now _ (report c.take_in.result) c.if-input-gt-INPUT_SIZE.false c.take_in.ensures
