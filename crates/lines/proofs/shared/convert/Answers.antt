-- `lines::shared::convert` is safe and ends: the bytes that are counted stand in the store. Assumes nothing.
use mathlib.Core.Path.{sym, ap}
use native.Mathlib.Omega.{arith}
use lib.Seq.{length-take-le}
use Rattle.model.specs.Answers.{report}
use Rattle.lines.proofs.shared.convert.Goals as goal

pub slice_bounds-write_all-end : goal.slice_bounds-write_all-end
slice_bounds-write_all-end g c = omega (arith, c.requires.fits _ _ _ _ _ c.print-answer.ensures (ap report c.in-Ok.is))

pub slice_bounds-write_all-end-2 : goal.slice_bounds-write_all-end-2
slice_bounds-write_all-end-2 g c = sym (length-take-le _ _ (omega (arith, c.requires.fits _ _ _ _ _ c.print-answer.ensures (ap report c.in-Ok.is))))
