-- The addresses of a line's operands, which its bus turns on. Nothing here is for a reader of the claims: the bus of a line is told by its last
-- address, and a leak on the bus by its first. Assumes nothing.
use Rattle.std.specs.Prelude.{cond, List, map, ℕ, ◌+◌, ◌%◌}
use Rattle.model.specs.declared.Operand.{Operand}
use Rattle.model.specs.declared.Operand.TheVariants.{Empty, Literal, Register, Cell, PublicCell, SensitiveCell, TableCell}
use Rattle.model.specs.declared.Line.{Line}
use Rattle.model.specs.Places.{has_address}
use Rattle.sets.specs.Walk.{Sets, values, base}

-- the address of an operand, v being the value of its base
unfoldable pub address_by : Operand → ℕ → ℕ
address_by Empty v = 0
address_by (Literal n) v = 0
address_by (Register n) v = 0
address_by (Cell n) v = n
address_by (PublicCell r k) v = (v + k) % 128
address_by (SensitiveCell r k) v = 128 + (v + k) % 128
address_by (TableCell r k) v = 256 + (v + k) % 256

-- all that it may have
unfoldable pub reached : Sets → Operand → List ℕ
unfolding address_by base
reached S o = map (address_by o) (values S (base o))

-- the first of these operands that has an address; an empty field where none has
unfoldable pub addressed : Operand → Operand → Operand → Operand
unfolding has_address
addressed a b c = cond (has_address a) a (cond (has_address b) b (cond (has_address c) c Empty))

abbrev pub first_addressed : Line → Operand
first_addressed l = addressed l.first l.second l.destination

abbrev pub last_addressed : Line → Operand
last_addressed l = addressed l.destination l.second l.first

-- what the bus may hold after a line: the last address, where there is one
unfoldable pub leads : Sets → List ℕ → Line → List ℕ
unfolding has_address reached
leads S bus l = cond (has_address (last_addressed l)) (reached S (last_addressed l)) bus
