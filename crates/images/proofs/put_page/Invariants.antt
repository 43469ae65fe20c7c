-- `images::put_page` meets its contract. The loop's invariant: the first k entries of each table are copied. Assumes nothing.
use mathlib.Core.Path.{◌≡◌}
use Rattle.images.specs.Pages.{copied}
use Rattle.images.proofs.put_page.Given as goal

abbrev pub invariant-loop-k : goal.invariant-loop-k
invariant-loop-k l = l.page ≡ copied l.layout l.tables.and l.tables.orr l.tables.xor l.initial.page l.k
