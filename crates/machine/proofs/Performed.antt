-- A step, over plain values: what its parts give, and its row in the store. Assumes nothing.
use Rattle.std.proofs.Common.{◌≡◌, ℕ, suc, ◌+◌, Bool, cond, List, get_or, set}
use Rattle.model.specs.declared.Mark.{Mark}
use Rattle.model.specs.declared.Opcode.{Opcode}
use Rattle.model.specs.declared.Line.{Line}
use Rattle.model.specs.Places.{State, place}
use Rattle.model.specs.Stored.{line_of, line_at}
use Rattle.model.specs.Step.{Row, alu, taken, target_line, result, next, after, bus_after, row}
use Rattle.coding.specs.Fields.{numbers_at}
use Rattle.machine.specs.declared.Arguments.{Arguments}
use Rattle.machine.specs.declared.Fetched.{Fetched}
use Rattle.machine.specs.declared.OnBus.{OnBus}
use Rattle.machine.specs.declared.steps.Run.{Run}
use Rattle.machine.specs.Loop.{fetch_of, arguments_of, on_bus_at, row_of, machine, put_row, step_by}
use Rattle.machine.proofs.NamedPlaces.{arguments_read}
use Rattle.machine.proofs.RowsRead.{Stands, row_read, bus_read}

-- what a step answers and leaves, over plain values
pub performed : (l : Line) (k : ℕ) (s s' : State) (bus : ℕ) (m : Mark) (p : Opcode) (j : Bool) (x y : Fetched) (z : Arguments) (q g n r o : ℕ) (u v w : OnBus) (t : List ℕ)
    → m ≡ l.mark → p ≡ l.opcode → x ≡ fetch_of l.first s → y ≡ fetch_of l.second s → z ≡ arguments_of m x y
    → r ≡ alu m p z.first z.second → j ≡ taken p z.first z.second → g ≡ target_line l.target → n ≡ cond j g (suc k)
    → q ≡ place l.destination s → o ≡ get_or s q 0 → s' ≡ set s q r → Stands l.first s → Stands l.second s → Stands l.destination s
    → u ≡ on_bus_at x.at bus → v ≡ on_bus_at y.at u.bus → w ≡ on_bus_at q v.bus → t ≡ row_of k o r u v w
    → (n ≡ next l k s) × (t ≡ row l k s bus) × (w.bus ≡ bus_after l s bus) × (s' ≡ after l s)
unfolding next after result
performed l k s s' bus m p j x y z q g n r o u v w t em ep ex ey ez er ej eg en eq eo es ax ay aq eu ev ew et =
    let ab = arguments_read m l.first l.second s x y z ex ey ez in
    let a = ab.0 in
    let b = ab.1 in
    let is : r ≡ result l s = cc in
    (cc, row_read l k s bus x y q r o u v w t ex ey eq eo is ax ay aq eu ev ew et, bus_read l k s bus x y q r o u v w t ex ey eq eo is ax ay aq eu ev ew, cc)

-- the line of the six numbers at a line
pub same_line : (n p : List ℕ) (i : ℕ) → n ≡ numbers_at p i → line_of (get_or n 0 0) (get_or n 1 0) (get_or n 2 0) (get_or n 3 0) (get_or n 4 0) (get_or n 5 0) ≡ line_at p i
same_line n p i e = rw e

-- a step, over plain values
pub one_step : (l l' : Line) (r : Run) (s s' : State) (t t' : List ℕ) (n b : ℕ) (w : Row) → l ≡ l' → n ≡ next l r.counter s → w ≡ row l r.counter s r.bus
    → b ≡ bus_after l s r.bus → s' ≡ after l s → t' ≡ put_row t r.steps w → machine (record { counter = n; steps = r.steps + 1; bus = b }) s' t' ≡ step_by l' (machine r s t)
unfolding step_by
one_step l l' r s s' t t' n b w el en ew eb es et = cc
