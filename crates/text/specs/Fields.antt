-- A field as the reader tests it, byte by byte. Laws of proofs/ show that it finds the number that the model's spelling gives, and
-- only that. Assumes nothing.
use Rattle.std.specs.Prelude.{cond, List, [], ◌∷◌, ℕ, ◌+◌, ◌-◌, ◌*◌, ltb, leb, eqb, length, get_or, drop}
use Rattle.std.specs.Prelude.{Option as Field, Some, None}
use Rattle.std.proofs.Math.Option.{Option, none, some}
use Rattle.model.specs.Stored.{literals, registers, cells, publics, sensitives, tables}
use Rattle.model.specs.Text.{up_to, past}

-- the number of a field that is right
abbrev pub found : Field ℕ → Option ℕ
found (Some k) = some k
found None = none

-- the number that the digits s add to the digits of v, while it stays below n
unfoldable pub digits_from : ℕ → ℕ → List ℕ → Field ℕ
digits_from n v [] = Some v
digits_from n v (b ∷ s) =
    cond (ltb b 48) None
    (cond (ltb 57 b) None
    (cond (leb n (10 * v + (b - 48))) None
    (digits_from n (10 * v + (b - 48)) s)))

-- a number below n: `0` alone, or digits of which the first is not 0
unfoldable pub read_number : ℕ → List ℕ → Field ℕ
read_number n s =
    cond (eqb (length s) 0) None
    (cond (eqb (get_or s 0 0) 48) (cond (eqb (length s) 1) (Some 0) None)
    (digits_from n 0 s))

-- n more
unfoldable pub shift : ℕ → Field ℕ → Field ℕ
shift n (Some k) = Some (n + k)
shift n None = None

-- a base, and an offset below w
unfoldable pub joined : ℕ → Field ℕ → Field ℕ → Field ℕ
joined w (Some b) (Some k) = Some (w * b + k)
joined w (Some b) None = None
joined w None o = None

-- `rN+k`, with k below w
unfoldable pub read_indirect : ℕ → List ℕ → Field ℕ
read_indirect w s =
    cond (eqb (get_or s 0 0) 114)
    (joined w (read_number 32 (up_to 43 (drop 1 s))) (read_number w (past 43 (drop 1 s))))
    None

-- what stands after the first byte c of an operand that is a value, a register or a cell
unfoldable pub read_direct : ℕ → List ℕ → Field ℕ
read_direct c s =
    cond (eqb c 35) (shift literals (read_number 256 s))
    (cond (eqb c 114) (shift registers (read_number 32 s))
    (cond (eqb c 64) (shift cells (read_number 512 s))
    None))

-- of any operand
unfoldable pub read_kind : ℕ → List ℕ → Field ℕ
read_kind c s =
    cond (eqb c 33) (shift publics (read_indirect 128 s))
    (cond (eqb c 37) (shift sensitives (read_indirect 128 s))
    (cond (eqb c 94) (shift tables (read_indirect 256 s))
    (read_direct c s)))
