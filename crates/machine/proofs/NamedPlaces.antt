-- Which operands name no place, that the others read theirs, which places are cells, the address of a place and the bus after it, and what a line makes of what is read.
-- Assumes nothing.
use Rattle.std.proofs.Common.{◌≡◌, ℕ, ◌+◌, ◌-◌, ◌<◌, ◌≤◌, true, false, T, get_or, sym, refl, ap, ◌∙◌, subst, arith, le-ltb, lt-ltb}
use Rattle.model.specs.declared.Kind.{Kind}
use Rattle.model.specs.declared.Mark.{Mark}
use Rattle.model.specs.declared.Operand.{Operand}
use Rattle.model.specs.Limits.{state_size}
use Rattle.model.specs.Places.{State, place, address, has_address, value}
use Rattle.model.specs.Step.{meaning, argument, on_bus}
use Rattle.model.specs.Stored.{registers, cells, operand_of}
use Rattle.model.proofs.TestLaws.{below}
use Rattle.model.proofs.Forms.{by_form, low_form}
use Rattle.model.proofs.Operands.{kind-place}
use Rattle.machine.specs.declared.Arguments.{Arguments}
use Rattle.machine.specs.declared.Fetched.{Fetched}
use Rattle.machine.specs.Loop.{fetch_of, read_as, arguments_of, address_at, is_cell, CellBy, bus_at}

-- an empty field and a literal name no place, and read what their number says
module _ (n : ℕ) (s : State) (h : n < registers) where
  pub no_place : place (operand_of n) s ≡ state_size
  unfolding place
  no_place = low_form n (λ o. place o s ≡ state_size) h refl (λ k. refl)

  pub reads_number : value (operand_of n) s ≡ n - 1
  unfolding value
  reads_number =
      by_form n (λ o. value o s ≡ n - 1) (λ l. omega arith) (λ g l. refl) (λ g l. absurd (omega arith)) (λ g l. absurd (omega arith))
      (λ g l. absurd (omega arith)) (λ g l. absurd (omega arith)) (λ g. absurd (omega arith))

-- every other operand reads its place
pub reads-place : (s : State) (n : ℕ) → registers ≤ n → value (operand_of n) s ≡ get_or s (place (operand_of n) s) 0
unfolding value
reads-place s n h =
    by_form n (λ o. value o s ≡ get_or s (place o s) 0) (λ l. absurd (omega arith)) (λ g l. absurd (omega arith)) (λ g l. refl) (λ g l. refl)
    (λ g l. refl) (λ g l. refl) (λ g. refl)

-- a place is one of the state, or the one past it, which is none
pub place_most : (s : State) (n : ℕ) → place (operand_of n) s ≤ state_size
unfolding place
place_most s n =
    by_form n (λ o. place o s ≤ state_size) (λ l. omega arith) (λ g l. omega arith) (λ g l. omega arith) (λ g l. omega arith)
    (λ g l. omega arith) (λ g l. omega arith) (λ g. omega arith)

pub fetched_most : (s : State) (n : ℕ) (x : Fetched) → x ≡ fetch_of (operand_of n) s → x.at ≤ state_size
fetched_most s n x e = rw e (place_most s n)

-- ---- which places are cells

pub register_none : (i : ℕ) → i < 32 → is_cell i ≡ false
register_none i h = rw (lt-ltb i 32 h)

pub past_none : (i : ℕ) → 32 ≤ i → state_size ≤ i → is_cell i ≡ false
past_none i h g = rw (le-ltb i 32 h, le-ltb i state_size g)

is_cell_lem : (i : ℕ) → 32 ≤ i → i < state_size → is_cell i ≡ true
is_cell_lem i h g = rw (le-ltb i 32 h, lt-ltb i state_size g)

pub cell_range : (i : ℕ) → is_cell i ≡ true → (32 ≤ i) × (i < state_size)
cell_range i e =
    below i 32 (λ h. absurd (subst T (sym e ∙ register_none i h) tt))
    (λ h. below i state_size (λ g. (h, g)) (λ g. absurd (subst T (sym e ∙ past_none i h g) tt)))

-- ---- the address of a place

pub no_address : (i : ℕ) → is_cell i ≡ false → address_at i ≡ 0
unfolding address_at
no_address i e = rw e

pub in_register : (i : ℕ) → i < 32 → address_at i ≡ 0
in_register i h = no_address i (register_none i h)

pub in_cell : (i : ℕ) → 32 ≤ i → i < state_size → address_at i ≡ i - 32
unfolding address_at
in_cell i h g = rw (is_cell_lem i h g)

pub past_state : (i : ℕ) → 32 ≤ i → state_size ≤ i → address_at i ≡ 0
past_state i h g = no_address i (past_none i h g)

pub cell_address : (n : ℕ) → n < 512 → address_at (32 + n) ≡ n
cell_address n h = in_cell (32 + n) (omega arith) (omega arith) ∙ omega arith

none : address_at state_size ≡ 0
none = past_state state_size (omega arith) (omega arith)

-- it is the address of the operand that names the place
pub address_at_lem : (s : State) (n : ℕ) → address_at (place (operand_of n) s) ≡ address (operand_of n) s
unfolding place address
address_at_lem s n =
    by_form n (λ o. address_at (place o s) ≡ address o s) (λ l. none) (λ g l. none) (λ g l. in_register _ (omega arith))
    (λ g l. cell_address _ (omega arith)) (λ g l. cell_address _ (omega arith))
    (λ g l. in_cell _ (omega arith) (omega arith) ∙ omega arith) (λ g. in_cell _ (omega arith) (omega arith) ∙ omega arith)

-- ---- the bus after a place

pub bus_cell : (i b : ℕ) → is_cell i ≡ true → bus_at i b ≡ i - 32
unfolding bus_at
bus_cell i b e = rw e

pub bus_left : (i b : ℕ) → is_cell i ≡ false → bus_at i b ≡ b
unfolding bus_at
bus_left i b e = rw e

-- it is the bus after the operand that names the place
pub bus_at_lem : (s : State) (n b : ℕ) → bus_at (place (operand_of n) s) b ≡ on_bus (operand_of n) s b
unfolding place address has_address on_bus
bus_at_lem s n b =
    let cell : (i : ℕ) → 32 ≤ i → i < state_size → bus_at i b ≡ i - 32 = λ i h g. bus_cell i b (is_cell_lem i h g) in
    let past : (i : ℕ) → 32 ≤ i → state_size ≤ i → bus_at i b ≡ b = λ i h g. bus_left i b (past_none i h g) in
    let low : (i : ℕ) → i < 32 → bus_at i b ≡ b = λ i h. bus_left i b (register_none i h) in
    by_form n (λ o. bus_at (place o s) b ≡ on_bus o s b) (λ l. past _ (omega arith) (omega arith)) (λ g l. past _ (omega arith) (omega arith))
    (λ g l. low _ (omega arith)) (λ g l. cell _ (omega arith) (omega arith) ∙ omega arith)
    (λ g l. cell _ (omega arith) (omega arith) ∙ omega arith)
    (λ g l. cell _ (omega arith) (omega arith) ∙ omega arith) (λ g. cell _ (omega arith) (omega arith) ∙ omega arith)

-- whether there is an address is told by the operand's number
no_cell : (n i : ℕ) → n < cells → is_cell i ≡ false → CellBy n i
unfolding CellBy
no_cell n i l e = (λ h. e, λ h. absurd (omega arith))

a_cell : (n i : ℕ) → cells ≤ n → 32 ≤ i → i < state_size → CellBy n i
unfolding CellBy
a_cell n i l h g = (λ h. absurd (omega arith), λ k. is_cell_lem i h g)

pub cell_by : (s : State) (n : ℕ) → CellBy n (place (operand_of n) s)
unfolding place
cell_by s n =
    by_form n (λ o. CellBy n (place o s)) (λ l. no_cell n state_size (omega arith) (past_none state_size (omega arith) (omega arith)))
    (λ g l. no_cell n state_size (omega arith) (past_none state_size (omega arith) (omega arith))) (λ g l. no_cell n (n - registers) l (register_none (n - registers) (omega arith)))
    (λ g l. a_cell n _ g (omega arith) (omega arith)) (λ g l. a_cell n _ (omega arith) (omega arith) (omega arith))
    (λ g l. a_cell n _ (omega arith) (omega arith) (omega arith)) (λ g. a_cell n _ (omega arith) (omega arith) (omega arith))

-- the two ways to know it of a cell, or of another place
pub by_low : (n i : ℕ) → CellBy n i → n < cells → is_cell i ≡ false
unfolding CellBy
by_low n i t h = t.0 h

pub by_high : (n i : ℕ) → CellBy n i → cells ≤ n → is_cell i ≡ true
unfolding CellBy
by_high n i t h = t.1 h

pub fetched_by : (s : State) (n : ℕ) (x : Fetched) → x ≡ fetch_of (operand_of n) s → CellBy n x.at
fetched_by s n x e = rw e (cell_by s n)

-- ---- what a line makes of what is read

-- an argument is what a line of that mark makes of its operand's place, which is of the operand's kind, and its value
argument_read : (m : Mark) (o : Operand) (s : State) → argument m o s ≡ read_as m (place o s) (value o s)
unfolding argument
argument_read m o s = ap (λ (k : Kind). meaning m k (value o s)) (sym (kind-place o s))

-- what was fetched of two operands, as a line of that mark reads it, is its arguments
pub arguments_read : (m : Mark) (a b : Operand) (s : State) (x y : Fetched) (z : Arguments) → x ≡ fetch_of a s → y ≡ fetch_of b s → z ≡ arguments_of m x y
    → (z.first ≡ argument m a s) × (z.second ≡ argument m b s)
arguments_read m a b s x y z ex ey ez = rw (ez, ex, ey) (sym (argument_read m a s), sym (argument_read m b s))
