-- `programs::print_expansion` meets its contract: a refusal is printed, and what was expanded is written. Assumes nothing.
use mathlib.Core.Path.{◌∙◌, sym}
use lib.Seq.{length-take-le}
use Rattle.programs.proofs.LoadLaws.{loaded, expansion_written, refusal_of_expansion}
use Rattle.programs.proofs.print_expansion.Goals as goal

pub returns-in_default : goal.returns-in_default
returns-in_default c = c.write_refusal.ensures ∙ refusal_of_expansion c.args.input.now c.room-listing.result c.load-loaded.new.listing c.args.out.now c.load-loaded.result _ c.load-loaded.ensures c.in_default.is

pub slice_bounds-listing-end : goal.slice_bounds-listing-end
slice_bounds-listing-end c = (loaded c.args.input.now c.room-listing.result c.load-loaded.new.listing c.load-loaded.result c.load-loaded.ensures c.in-Ok.n c.in-Ok.is).fits

pub slice_bounds-write-end : goal.slice_bounds-write-end
slice_bounds-write-end c = sym (length-take-le _ _ (loaded c.args.input.now c.room-listing.result c.load-loaded.new.listing c.load-loaded.result c.load-loaded.ensures c.in-Ok.n c.in-Ok.is).fits)

pub returns : goal.returns
returns c = c.write.ensures ∙ expansion_written c.args.input.now c.load-loaded.new.listing c.in-Ok.n (loaded c.args.input.now c.room-listing.result c.load-loaded.new.listing c.load-loaded.result c.load-loaded.ensures c.in-Ok.n c.in-Ok.is) c.args.out.now
