-- `machine::effect_of` meets its contract: the parts of a step from what each call gives. Assumes nothing.
use Rattle.std.proofs.Common.{◌≡◌, ℕ, List, get_or, refl}
use Rattle.model.specs.declared.Mark.{Mark}
use Rattle.model.specs.declared.Opcode.{Opcode}
use Rattle.model.specs.declared.Line.{Line}
use Rattle.model.specs.Places.{State, place}
use Rattle.model.specs.Stored.{opcode_of, line_of}
use Rattle.model.specs.Step.{alu, result}
use Rattle.machine.specs.declared.Arguments.{Arguments}
use Rattle.machine.specs.declared.Effect.{Effect}
use Rattle.machine.specs.declared.Fetched.{Fetched}
use Rattle.machine.specs.declared.OnBus.{OnBus}
use Rattle.machine.specs.Loop.{fetch_of, arguments_of, on_bus_at, row_of, effect_of}
use Rattle.machine.proofs.NamedPlaces.{place_most, fetched_most, cell_by, fetched_by, arguments_read}
use Rattle.machine.proofs.RowsRead.{Stands, stands, row_read}
use Rattle.machine.proofs.effect_of.Goals as goal

abbrev effect : ℕ → ℕ → List ℕ → Effect
effect r q t = record { result = r; place = q; row = t }

-- what a line does, over plain values
worked : (l : Line) (k : ℕ) (s : State) (bus : ℕ) (m : Mark) (p : Opcode) (x y : Fetched) (z : Arguments) (q r o : ℕ) (u v w : OnBus) (t : List ℕ)
    → m ≡ l.mark → p ≡ l.opcode → x ≡ fetch_of l.first s → y ≡ fetch_of l.second s → z ≡ arguments_of m x y
    → r ≡ alu m p z.first z.second → q ≡ place l.destination s → o ≡ get_or s q 0
    → Stands l.first s → Stands l.second s → Stands l.destination s
    → u ≡ on_bus_at x.at bus → v ≡ on_bus_at y.at u.bus → w ≡ on_bus_at q v.bus → t ≡ row_of k o r u v w
    → effect r q t ≡ effect_of l k s bus
unfolding result
worked l k s bus m p x y z q r o u v w t em ep ex ey ez er eq eo ax ay aq eu ev ew et =
    let ab = arguments_read m l.first l.second s x y z ex ey ez in
    let a = ab.0 in
    let b = ab.1 in
    let is : r ≡ result l s = cc in
    rw (is, eq, row_read l k s bus x y q r o u v w t ex ey eq eo is ax ay aq eu ev ew et)

pub put_on_bus-first-requires : goal.put_on_bus-first-requires
put_on_bus-first-requires c = (fetched_most c.args.state.now c.args.a _ c.fetch-x.ensures, fetched_by c.args.state.now c.args.a _ c.fetch-x.ensures, c.requires)

pub put_on_bus-second-requires : goal.put_on_bus-second-requires
put_on_bus-second-requires c = (fetched_most c.args.state.now c.args.b _ c.fetch-y.ensures, fetched_by c.args.state.now c.args.b _ c.fetch-y.ensures, c.put_on_bus-first.ensures.1)

pub put_on_bus-destination-requires : goal.put_on_bus-destination-requires
put_on_bus-destination-requires c = (rw c.place_at-at.ensures (place_most c.args.state.now c.args.d), rw c.place_at-at.ensures (cell_by c.args.state.now c.args.d), c.put_on_bus-second.ensures.1)

pub returns : goal.returns
returns c =
    let a = c.args in
    worked (line_of a.m a.o a.d a.a a.b 0) a.counter a.state.now a.bus
    c.mark_of-mark.result (opcode_of a.o) c.fetch-x.result c.fetch-y.result c.read_arguments-args.result c.place_at-at.result _ _ c.put_on_bus-first.result c.put_on_bus-second.result c.put_on_bus-destination.result c.row_of-row.result
    c.mark_of-mark.ensures refl c.fetch-x.ensures c.fetch-y.ensures c.read_arguments-args.ensures c.alu-result.ensures c.place_at-at.ensures c.read-old.ensures
    (stands a.a a.state.now) (stands a.b a.state.now) (stands a.d a.state.now)
    c.put_on_bus-first.ensures.0 c.put_on_bus-second.ensures.0 c.put_on_bus-destination.ensures.0 c.row_of-row.ensures
