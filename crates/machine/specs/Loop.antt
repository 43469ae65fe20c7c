-- The parts of a step that the code hands from function to function, and the loop over steps with a trace store.
-- proofs/Traces ties the loop to the model's run. Assumes nothing.
use Rattle.std.specs.Prelude.{◌≡◌, ℕ, zero, suc, ◌+◌, ◌-◌, ◌*◌, ◌<◌, ◌≤◌, Bool, true, false, cond, List, [], ◌∷◌, ◌++◌, take, drop, ◌==◌, nat_lt, slice_index}
use Rattle.model.specs.declared.Mark.{Mark}
use Rattle.model.specs.declared.Line.{Line}
use Rattle.model.specs.declared.Opcode.{Opcode}
use Rattle.model.specs.declared.Opcode.TheVariants.{Nop, Jmp, Not, Mov, And, Orr, Xor, Lsl, Lsr, Add, Mul, Beq, Bne}
use Rattle.model.specs.declared.Operand.{Operand}
use Rattle.model.specs.Limits.{row_width, state_size}
use Rattle.model.specs.Answers.{Report, halted, spent, refused, Outcome, outcome, and_then}
use Rattle.model.specs.Places.{State, kind, is_public, place, value}
use Rattle.model.specs.Stored.{cells, line_at, program_check}
use Rattle.model.specs.Step.{weight, distance, meaning, Row, result, next, after, bus_after, row}
use Rattle.machine.specs.declared.Arguments.{Arguments}
use Rattle.machine.specs.declared.Effect.{Effect}
use Rattle.machine.specs.declared.Fetched.{Fetched}
use Rattle.machine.specs.declared.OnBus.{OnBus}
use Rattle.machine.specs.declared.steps.Run.{Run}

-- what an operand reads, and its place
abbrev pub fetch_of : Operand → State → Fetched
fetch_of o s = record { at = place o s; value = value o s }

-- what a line of that mark reads of a byte at place i, by the kind of the place
abbrev pub read_as : Mark → ℕ → ℕ → ℕ
read_as m i x = meaning m (kind i) x

-- the arguments of a line of that mark, of what was fetched
abbrev pub arguments_of : Mark → Fetched → Fetched → Arguments
arguments_of m x y = record { first = read_as m x.at x.value; second = read_as m y.at y.value }

-- what a marked line keeps of a byte at place i: of a public place the lowest bit, of any other all
abbrev pub mask : ℕ → ℕ
mask i = cond (is_public (kind i)) 1 255

-- whether a place is a cell, which has an address
abbrev pub is_cell : ℕ → Bool
is_cell i = cond (nat_lt i 32) false (nat_lt i state_size)

-- the number of the cell at place i; 0 where there is none, in a register and past the state
unfoldable pub address_at : ℕ → ℕ
address_at i = cond (is_cell i) (i - 32) 0

-- the bus after the address of place i, where there is one
unfoldable pub bus_at : ℕ → ℕ → ℕ
bus_at i b = cond (is_cell i) (i - 32) b

-- the numbers that an address may be
abbrev pub addresses : ℕ
addresses = 512

-- a table with an entry for each place, and for the one past the state, which is none
abbrev pub ByPlace : (ℕ → ℕ) → List ℕ → Type 0
ByPlace f table = (i : ℕ) → i ≤ state_size → slice_index table i ≡ f i

-- whether place i is a cell is told by the number of the operand that names it
unfoldable pub CellBy : ℕ → ℕ → Type 0
CellBy n i = (n < cells → is_cell i ≡ false) × (cells ≤ n → is_cell i ≡ true)

-- what the address of place i shows on the bus, where there is one: the bus afterwards, its weight, and its distance from the one before
abbrev pub on_bus_at : ℕ → ℕ → OnBus
on_bus_at i b = record { bus = bus_at i b; weight = weight (address_at i); distance = distance b (bus_at i b) }

-- the row of line k, from the old value, the result, and what the addresses of the arguments and the destination show
abbrev pub row_of : ℕ → ℕ → ℕ → OnBus → OnBus → OnBus → Row
row_of k old result first second destination =
    k ∷ weight result ∷ distance old result ∷ first.weight ∷ second.weight ∷ destination.weight ∷ first.distance ∷ second.distance ∷ destination.distance ∷ []

-- what a line does on a state
abbrev pub effect_of : Line → ℕ → State → ℕ → Effect
effect_of l k s b = record { result = result l s; place = place l.destination s; row = row l k s b }

-- jmp, beq, bne: all others go on whatever their arguments
abbrev pub jumps : Opcode → Bool
jumps Nop = false
jumps Jmp = true
jumps Not = false
jumps Mov = false
jumps And = false
jumps Orr = false
jumps Xor = false
jumps Lsl = false
jumps Lsr = false
jumps Add = false
jumps Mul = false
jumps Beq = true
jumps Bne = true

-- a trace store with row n replaced
abbrev pub put_row : List ℕ → ℕ → Row → List ℕ
put_row t n r = take (row_width * n) t ++ r ++ drop (row_width * n + row_width) t

-- the run's counter, step tally and bus, the state, and the trace store
pub record Machine : Type 0 where
  pub run : Run
  pub state : State
  pub trace : List ℕ

abbrev pub machine : Run → State → List ℕ → Machine
machine r s t = record { run = r; state = s; trace = t }

-- one step of a line
unfoldable pub step_by : Line → Machine → Machine
step_by l m =
    machine (record { counter = next l m.run.counter m.state; steps = m.run.steps + 1; bus = bus_after l m.state m.run.bus })
    (after l m.state) (put_row m.trace m.run.steps (row l m.run.counter m.state m.run.bus))

-- one step of a stored program
abbrev pub step_of : List ℕ → Machine → Machine
step_of p m = step_by (line_at p m.run.counter) m

-- a run's refusals, from the sizes of the state and the trace store: 7, 3 to 6, then 18, then 20; else the count of lines
unfoldable pub admission : List ℕ → ℕ → ℕ → ℕ → Report
unfolding program_check
admission p budget size room =
    and_then (program_check p)
    (cond (size == state_size)
    (cond (nat_lt room (row_width * budget)) (refused 20 0) (program_check p))
    (refused 18 0))

abbrev pub halted_at : Machine → Outcome
halted_at m = outcome (halted m.run.counter m.run.steps) (m.state ∷ m.trace ∷ [])

abbrev pub spent_at : Machine → Outcome
spent_at m = outcome (spent m.run.counter m.run.steps) (m.state ∷ m.trace ∷ [])

-- at most b more steps of a stored program of n lines
unfoldable pub run_from : List ℕ → ℕ → ℕ → Machine → Outcome
run_from p n zero m = cond (nat_lt m.run.counter n) (spent_at m) (halted_at m)
run_from p n (suc b) m = cond (nat_lt m.run.counter n) (run_from p n b (step_of p m)) (halted_at m)
