-- 'Places of the machine': registers r0 to r31, cells 0 to 511, and the operands that name them.
-- A state is the list of its 544 bytes: place N is register N, and place 32 + n is cell n.
-- Assumes nothing.
use Rattle.std.specs.Prelude.{Bool, true, false, cond, List, ℕ, ◌+◌, ◌%◌, ltb, get_or}
use Rattle.model.specs.declared.Kind.{Kind}
use Rattle.model.specs.declared.Kind.TheVariants.{Neither, Public, Sensitive}
use Rattle.model.specs.declared.Operand.{Operand}
use Rattle.model.specs.declared.Operand.TheVariants.{Empty, Literal, Register, Cell, PublicCell, SensitiveCell, TableCell}
use Rattle.model.specs.Limits.{state_size}

abbrev pub State : Type 0
State = List ℕ

-- r4 to r15 and cells 0 to 127 are public, r16 to r31 and cells 128 to 255 sensitive; r0 to r3 and the table page are neither
unfoldable pub kind : ℕ → Kind
kind i =
    cond (ltb i 4) Neither
    (cond (ltb i 16) Public
    (cond (ltb i 32) Sensitive
    (cond (ltb i 160) Public
    (cond (ltb i 288) Sensitive
    Neither))))

abbrev pub is_public : Kind → Bool
is_public Neither = false
is_public Public = true
is_public Sensitive = false

abbrev pub is_sensitive : Kind → Bool
is_sensitive Neither = false
is_sensitive Public = false
is_sensitive Sensitive = true

-- the kind of the places that an operand names: `!` is public, `%` sensitive and `^` neither, whatever the base holds
unfoldable pub kind_of : Operand → Kind
unfolding kind
kind_of Empty = Neither
kind_of (Literal n) = Neither
kind_of (Register n) = kind n
kind_of (Cell n) = kind (32 + n)
kind_of (PublicCell r k) = Public
kind_of (SensitiveCell r k) = Sensitive
kind_of (TableCell r k) = Neither

-- the number of the cell that an operand names; 0 where it names none
unfoldable pub address : Operand → State → ℕ
address Empty s = 0
address (Literal n) s = 0
address (Register n) s = 0
address (Cell n) s = n
address (PublicCell r k) s = (get_or s r 0 + k) % 128
address (SensitiveCell r k) s = 128 + (get_or s r 0 + k) % 128
address (TableCell r k) s = 256 + (get_or s r 0 + k) % 256

-- whether there is one: a cell that is named, or reached through a base
unfoldable pub has_address : Operand → Bool
has_address Empty = false
has_address (Literal n) = false
has_address (Register n) = false
has_address (Cell n) = true
has_address (PublicCell r k) = true
has_address (SensitiveCell r k) = true
has_address (TableCell r k) = true

-- the place that an operand names. An empty field and a literal name none: theirs is past the state, where 0 is read and nothing written
unfoldable pub place : Operand → State → ℕ
place Empty s = state_size
place (Literal n) s = state_size
place (Register n) s = n
place (Cell n) s = 32 + n
place (PublicCell r k) s = 32 + (get_or s r 0 + k) % 128
place (SensitiveCell r k) s = 160 + (get_or s r 0 + k) % 128
place (TableCell r k) s = 288 + (get_or s r 0 + k) % 256

-- what an operand reads
unfoldable pub value : Operand → State → ℕ
unfolding place
value Empty s = 0
value (Literal n) s = n
value (Register n) s = get_or s (place (Register n) s) 0
value (Cell n) s = get_or s (place (Cell n) s) 0
value (PublicCell r k) s = get_or s (place (PublicCell r k) s) 0
value (SensitiveCell r k) s = get_or s (place (SensitiveCell r k) s) 0
value (TableCell r k) s = get_or s (place (TableCell r k) s) 0
