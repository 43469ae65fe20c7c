-- `images::put_entry` meets its contract. Nothing for 0, else three writes. Assumes nothing.
use borrow.Author.Tests.{eq-eqb, ne_eqb}
use lib.ListN.{length-set}
use native.Mathlib.Omega.{arith}
use Rattle.images.specs.Pages.{entered}
use Rattle.images.proofs.TablePage.{scaled_fits, entry_fits, orr_first}
use Rattle.images.proofs.put_entry.Goals as goal

pub returns-then-tables-k-eq0 : goal.returns-then-tables-k-eq0
unfolding entered
returns-then-tables-k-eq0 c = rw (eq-eqb _ _ c.if-tables-k-eq0.true)

pub overflow_mul-page : goal.overflow_mul-page
overflow_mul-page c = record { fits = omega (arith, scaled_fits c.args.layout c.requires.0 c.args.tables.now c.requires.1 c.args.k) }

pub bounds-page-at : goal.bounds-page-at
bounds-page-at c = omega (arith, entry_fits c.args.layout c.requires.0 c.args.k c.requires.2)

pub overflow_mul-page-2 : goal.overflow_mul-page-2
overflow_mul-page-2 c = record { fits = omega (arith, scaled_fits c.args.layout c.requires.0 c.args.tables.now c.requires.1 c.args.k) }

pub bounds-page-at-2 : goal.bounds-page-at-2
bounds-page-at-2 c = simp length-set (omega (arith, entry_fits c.args.layout c.requires.0 c.args.k c.requires.2, orr_first c.args.layout c.requires.0))

pub overflow_mul-page-3 : goal.overflow_mul-page-3
overflow_mul-page-3 c = record { fits = omega (arith, scaled_fits c.args.layout c.requires.0 c.args.tables.now c.requires.1 c.args.k) }

pub bounds-page-at-3 : goal.bounds-page-at-3
bounds-page-at-3 c = simp length-set (omega (arith, entry_fits c.args.layout c.requires.0 c.args.k c.requires.2))

pub returns : goal.returns
unfolding entered
returns c = rw (ne_eqb _ _ c.if-tables-k-eq0.false)
