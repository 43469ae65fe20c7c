-- `programs::load` meets its contract: a refusal is handed on, and what was read is expanded. Assumes nothing.
use mathlib.Core.Path.{◌∙◌, sym}
use lib.Seq.{length-take-le}
use Rattle.std.proofs.lemmas.Result.{err_from_is_err_and}
use Rattle.programs.proofs.LoadLaws.{too_long, read_refused, read_fits, read_expands}
use Rattle.programs.proofs.load.Goals as goal

pub returns-then-input-gt-INPUT_SIZE : goal.returns-then-input-gt-INPUT_SIZE
returns-then-input-gt-INPUT_SIZE c = too_long c.args.input.now c.args.listing.now c.if-input-gt-INPUT_SIZE.true

pub returns-in_err-n : goal.returns-in_err-n
returns-in_err-n c =
    let p = err_from_is_err_and c.from_residual.result c.from_residual.ensures.1 in
    rw (p.1, p.2) (read_refused c.args.input.now c.room-store.result c.read_lines.new.store _ c.if-input-gt-INPUT_SIZE.false c.room-store.ensures.len c.read_lines.ensures c.args.listing.now _ c.in_err-n.was)

pub slice_bounds-store-end : goal.slice_bounds-store-end
slice_bounds-store-end c = read_fits c.args.input.now c.room-store.result c.read_lines.new.store c.read_lines.result c.if-input-gt-INPUT_SIZE.false c.room-store.ensures.len c.read_lines.ensures c.in_ok-n.n c.in_ok-n.was

pub slice_bounds-expand-end : goal.slice_bounds-expand-end
slice_bounds-expand-end c = sym (length-take-le _ _ (read_fits c.args.input.now c.room-store.result c.read_lines.new.store c.read_lines.result c.if-input-gt-INPUT_SIZE.false c.room-store.ensures.len c.read_lines.ensures c.in_ok-n.n c.in_ok-n.was))

pub returns : goal.returns
returns c = c.expand.ensures ∙ read_expands c.args.input.now c.room-store.result c.read_lines.new.store c.read_lines.result c.if-input-gt-INPUT_SIZE.false c.room-store.ensures.len c.read_lines.ensures c.in_ok-n.n c.in_ok-n.was c.args.listing.now c.requires
