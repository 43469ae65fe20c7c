-- 'One step': what a line makes of a state and of the bus, where it goes, and the row that it shows.
-- Assumes nothing.
use Rattle.std.specs.Prelude.{Bool, true, false, not, cond, List, [], ◌∷◌, ℕ, suc, ◌+◌, ◌-◌, ◌*◌, ◌/◌, ◌%◌, ◌^◌, eqb, get_or, set}
use Rattle.std.specs.Int.Bits.{bit_and, bit_or, bit_xor}
use Rattle.std.specs.Int.Count.{ones}
use Rattle.model.specs.declared.Mark.{Mark}
use Rattle.model.specs.declared.Mark.TheVariants.{Unmarked, Marked}
use Rattle.model.specs.declared.Opcode.{Opcode}
use Rattle.model.specs.declared.Opcode.TheVariants.{Nop, Jmp, Not, Mov, And, Orr, Xor, Lsl, Lsr, Add, Mul, Beq, Bne}
use Rattle.model.specs.declared.Kind.{Kind}
use Rattle.model.specs.declared.Operand.{Operand}
use Rattle.model.specs.declared.Target.{Target}
use Rattle.model.specs.declared.Target.TheVariants.{Empty as NoTarget, Line as ToLine}
use Rattle.model.specs.declared.Line.{Line}
use Rattle.model.specs.Places.{State, is_public, kind_of, place, address, has_address, value}

-- the Hamming weight: the ones in a number
abbrev pub weight : ℕ → ℕ
weight = ones

-- the Hamming distance: the bits in which two numbers differ
unfoldable pub distance : ℕ → ℕ → ℕ
distance x y = weight (bit_xor x y)

-- add keeps the lowest eight bits
abbrev pub wrapping_add : ℕ → ℕ → ℕ
wrapping_add x y = (x + y) % 256

-- the shift rule, for both directions and under either mark: a count is taken modulo 8 (request 02)
abbrev pub shift_by : ℕ → (ℕ → ℕ) → ℕ
shift_by y shift = shift (y % 8)

-- `not`: 255 less the value in a u line, the lowest bit flipped in an s line
unfoldable pub negated : Mark → ℕ → ℕ
negated Unmarked x = 255 - x
negated Marked x = bit_xor x 1

-- what a line writes; 0 for one that writes nothing
unfoldable pub alu : Mark → Opcode → ℕ → ℕ → ℕ
unfolding negated
alu m Nop x y = 0
alu m Jmp x y = 0
alu m Not x y = negated m x
alu m Mov x y = x
alu m And x y = bit_and x y
alu m Orr x y = bit_or x y
alu m Xor x y = bit_xor x y
alu m Lsl x y = shift_by y (λ n. x * 2 ^ n % 256)
alu m Lsr x y = shift_by y (λ n. x / 2 ^ n)
alu m Add x y = wrapping_add x y
alu m Mul x y = x * y % 256
alu m Beq x y = 0
alu m Bne x y = 0

-- whether a line goes to its target; whole bytes are compared
unfoldable pub taken : Opcode → ℕ → ℕ → Bool
taken Nop x y = false
taken Jmp x y = true
taken Not x y = false
taken Mov x y = false
taken And x y = false
taken Orr x y = false
taken Xor x y = false
taken Lsl x y = false
taken Lsr x y = false
taken Add x y = false
taken Mul x y = false
taken Beq x y = eqb x y
taken Bne x y = not (eqb x y)

unfoldable pub target_line : Target → ℕ
target_line NoTarget = 0
target_line (ToLine t) = t

-- what a byte of a place of that kind means as an argument in a line of that mark: in a marked line a public place means its lowest bit
-- (request 03)
unfoldable pub meaning : Mark → Kind → ℕ → ℕ
meaning Unmarked k x = x
meaning Marked k x = cond (is_public k) (x % 2) x

-- an argument, as a line of that mark reads it
unfoldable pub argument : Mark → Operand → State → ℕ
unfolding meaning kind_of value
argument m o s = meaning m (kind_of o) (value o s)

-- the parts of a step, all worked out from the state before the write: what is written,
unfoldable pub result : Line → State → ℕ
unfolding alu argument
result l s = alu l.mark l.opcode (argument l.mark l.first s) (argument l.mark l.second s)

-- the counter afterwards, k being the line,
unfoldable pub next : Line → ℕ → State → ℕ
unfolding taken argument target_line
next l k s = cond (taken l.opcode (argument l.mark l.first s) (argument l.mark l.second s)) (target_line l.target) (suc k)

-- the state afterwards,
unfoldable pub after : Line → State → State
unfolding result place
after l s = set s (place l.destination s) (result l s)

-- the bus after an operand, b before it (request 07): it holds the last address, so an operand that has none leaves it
unfoldable pub on_bus : Operand → State → ℕ → ℕ
unfolding has_address address
on_bus o s b = cond (has_address o) (address o s) b

-- the bus afterwards: addresses go first argument, second, destination,
unfoldable pub bus_after : Line → State → ℕ → ℕ
unfolding on_bus
bus_after l s b = on_bus l.destination s (on_bus l.second s (on_bus l.first s b))

-- their distances in that order, each from the address before; where there is none the bus stays, so 0
unfoldable pub distances : Line → State → ℕ → List ℕ
unfolding on_bus distance
distances l s b =
    let first = on_bus l.first s b in
    let second = on_bus l.second s first in
    let destination = on_bus l.destination s second in
    distance b first ∷ distance first second ∷ distance second destination ∷ []

abbrev pub Row : Type 0
Row = List ℕ

-- and the row: the line, the weight of the written value, its distance from the old value of the written place, the weights of the
-- addresses of the first argument, the second and the destination, 0 where there is no write or no address, and the distances on the bus
unfoldable pub row : Line → ℕ → State → ℕ → Row
unfolding result place address distance distances
row l k s b = k ∷ weight (result l s) ∷ distance (get_or s (place l.destination s) 0) (result l s)
    ∷ weight (address l.first s) ∷ weight (address l.second s) ∷ weight (address l.destination s)
    ∷ distances l s b
