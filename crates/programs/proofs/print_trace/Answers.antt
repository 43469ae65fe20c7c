-- `programs::print_trace` meets its contract: a refusal is printed, and what was expanded is run. Assumes nothing.
use mathlib.Core.Path.{◌∙◌, ap, sym}
use mathlib.Core.List.{List}
use Prim.Native.Nat.{ℕ}
use lib.Seq.{length-take-le}
use Rattle.model.specs.Text.{fitted}
use Rattle.programs.proofs.LoadLaws.{loaded, part_check}
use Rattle.programs.proofs.RunLaws.{loaded_run, refusal_of_trace}
use Rattle.programs.proofs.print_trace.Goals as goal

pub returns-in_default : goal.returns-in_default
returns-in_default c = c.write_refusal.ensures ∙ refusal_of_trace c.args.input.now c.room-listing.result c.load-loaded.new.listing c.args.out.now c.load-loaded.result _ c.load-loaded.ensures c.in_default.is

pub slice_bounds-listing-end : goal.slice_bounds-listing-end
slice_bounds-listing-end c = (loaded c.args.input.now c.room-listing.result c.load-loaded.new.listing c.load-loaded.result c.load-loaded.ensures c.in-Ok.n c.in-Ok.is).fits

pub slice_bounds-write_run-end : goal.slice_bounds-write_run-end
slice_bounds-write_run-end c = sym (length-take-le _ _ (loaded c.args.input.now c.room-listing.result c.load-loaded.new.listing c.load-loaded.result c.load-loaded.ensures c.in-Ok.n c.in-Ok.is).fits)

pub write_run-requires : goal.write_run-requires
write_run-requires c = part_check c.args.input.now c.load-loaded.new.listing c.in-Ok.n (loaded c.args.input.now c.room-listing.result c.load-loaded.new.listing c.load-loaded.result c.load-loaded.ensures c.in-Ok.n c.in-Ok.is)

pub returns : goal.returns
returns c = c.write_run.ensures ∙ ap (λ (t : List ℕ). fitted t c.args.out.now) (loaded_run c.args.input.now c.load-loaded.new.listing c.in-Ok.n (loaded c.args.input.now c.room-listing.result c.load-loaded.new.listing c.load-loaded.result c.load-loaded.ensures c.in-Ok.n c.in-Ok.is))
