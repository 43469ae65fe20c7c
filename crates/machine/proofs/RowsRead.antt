-- The row and the bus of a line, by the places of its operands. Assumes nothing.
use Rattle.std.proofs.Common.{◌≡◌, ℕ, List, get_or, refl, ap, ◌∙◌}
use Rattle.model.specs.declared.Operand.{Operand}
use Rattle.model.specs.declared.Line.{Line}
use Rattle.model.specs.Places.{State, place, address}
use Rattle.model.specs.Stored.{operand_of}
use Rattle.model.specs.Step.{weight, distance, result, on_bus, bus_after, distances, row}
use Rattle.machine.specs.declared.Fetched.{Fetched}
use Rattle.machine.specs.declared.OnBus.{OnBus}
use Rattle.machine.specs.Loop.{fetch_of, on_bus_at, row_of}
use Rattle.machine.proofs.NamedPlaces.{address_at_lem, bus_at_lem}

-- what an operand's address shows on the bus
abbrev shown_by : Operand → State → ℕ → OnBus
shown_by o s b = record { bus = on_bus o s b; weight = weight (address o s); distance = distance b (on_bus o s b) }

-- it is what its place shows
pub record Stands (o : Operand) (s : State) : Type 0 where
  pub shows : (b : ℕ) → on_bus_at (place o s) b ≡ shown_by o s b

pub stands : (n : ℕ) (s : State) → Stands (operand_of n) s
stands n s = record { shows = λ b. rw (address_at_lem s n, bus_at_lem s n b) refl }

module _ (l : Line) (k : ℕ) (s : State) (b : ℕ) (x y : Fetched) (q r o : ℕ) (u v w : OnBus) (t : List ℕ)
    (ex : x ≡ fetch_of l.first s) (ey : y ≡ fetch_of l.second s) (eq : q ≡ place l.destination s) (eo : o ≡ get_or s q 0) (er : r ≡ result l s)
    (ax : Stands l.first s) (ay : Stands l.second s) (aq : Stands l.destination s)
    (eu : u ≡ on_bus_at x.at b) (ev : v ≡ on_bus_at y.at u.bus) (ew : w ≡ on_bus_at q v.bus) where
  first : u ≡ shown_by l.first s b
  first = eu ∙ ap (λ (f : Fetched). on_bus_at f.at b) ex ∙ ax.shows b

  second : v ≡ shown_by l.second s (on_bus l.first s b)
  second = ev ∙ ap (λ (f : Fetched). on_bus_at f.at u.bus) ey ∙ ay.shows u.bus ∙ ap (λ (g : OnBus). shown_by l.second s g.bus) first

  third : w ≡ shown_by l.destination s (on_bus l.second s (on_bus l.first s b))
  third = ew ∙ ap (λ (i : ℕ). on_bus_at i v.bus) eq ∙ aq.shows v.bus ∙ ap (λ (g : OnBus). shown_by l.destination s g.bus) second

  pub row_read : t ≡ row_of k o r u v w → t ≡ row l k s b
  unfolding row distances
  row_read et = et ∙ rw (third, second, first, eo, er, eq)

  pub bus_read : w.bus ≡ bus_after l s b
  unfolding bus_after
  bus_read = ap (λ (g : OnBus). g.bus) third
