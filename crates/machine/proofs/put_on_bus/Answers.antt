-- `machine::put_on_bus` meets its contract: a cell has an address, and any other place has none. Assumes nothing.
use Rattle.std.proofs.Common.{◌≡◌, ℕ, ◌-◌, true, false, arith}
use lib.Count.{ones}
use Rattle.model.specs.Step.{weight, distance}
use Rattle.model.proofs.Pieces.{distance_same}
use Rattle.machine.specs.Loop.{address_at, is_cell, on_bus_at}
use Rattle.machine.proofs.NamedPlaces.{cell_range, no_address, bus_cell, bus_left, by_low, by_high}
use Rattle.machine.proofs.put_on_bus.Goals as goal

shown : (i b w h : ℕ) → is_cell i ≡ true → w ≡ weight (address_at i) → h ≡ distance b (i - 32) → record { bus = i - 32; weight = w; distance = h } ≡ on_bus_at i b
shown i b w h e ew eh = rw (ew, eh, bus_cell i b e)

quiet : (i b : ℕ) → is_cell i ≡ false → record { bus = b; weight = 0; distance = 0 } ≡ on_bus_at i b
unfolding ones
quiet i b e = rw (no_address i e, bus_left i b e, distance_same b)

pub returns-then-code-lt-CELLS : goal.returns-then-code-lt-CELLS
returns-then-code-lt-CELLS c = (quiet c.args.at c.args.bus (by_low c.args.code c.args.at c.requires.1 c.if-code-lt-CELLS.true), c.requires.2)

pub overflow_sub-address : goal.overflow_sub-address
overflow_sub-address c = omega (arith, (cell_range c.args.at (by_high c.args.code c.args.at c.requires.1 c.if-code-lt-CELLS.false)).0)

pub distance_of-requires : goal.distance_of-requires
distance_of-requires c = let r = cell_range c.args.at (by_high c.args.code c.args.at c.requires.1 c.if-code-lt-CELLS.false) in (c.requires.2, omega (arith, r.0, r.1))

pub returns : goal.returns
returns c =
    let e = by_high c.args.code c.args.at c.requires.1 c.if-code-lt-CELLS.false in
    let r = cell_range c.args.at e in
    (shown c.args.at c.args.bus _ _ e (c.args.weights.now.right c.args.at c.requires.0) c.distance_of.ensures, omega (arith, r.0, r.1))
