-- Lines written into a store.
-- Assumes nothing.
use Rattle.std.specs.Prelude.{◌≡◌, ℕ, ◌+◌, ◌*◌, ◌%◌, ◌≤◌, length, take, drop}
use mathlib.Core.List.{List, ◌++◌, map, flat_map}
use Rattle.model.specs.declared.Mark.{Mark}
use Rattle.model.specs.declared.Opcode.{Opcode}
use Rattle.model.specs.declared.Target.{Target}
use Rattle.model.specs.declared.Line.{Line}
use Rattle.model.specs.Limits.{line_width}
use Rattle.model.specs.Stored.{operand_of, codes}

-- the numbers of a line as a store of 16 bits takes them; those of a correct line are its codes
abbrev pub encoded : Line → List ℕ
encoded l = map (λ n. n % 65536) (codes l)

-- the line of a mark, an opcode and a target whose operands have these numbers
abbrev pub line_with : Mark → Opcode → ℕ → ℕ → ℕ → Target → Line
line_with m o d a b t = record { mark = m; opcode = o; destination = operand_of d; first = operand_of a; second = operand_of b; target = t }

-- lines put into a store from line k on; the rest stays
unfoldable pub put : List ℕ → ℕ → List Line → List ℕ
unfolding flat_map
put out k ls = take (line_width * k) out ++ flat_map encoded ls ++ drop (line_width * (k + length ls)) out

-- o is the store `out` after the lines were put into it from line k on, and n is the line past them
pub record Wrote (out o : List ℕ) (k n : ℕ) (ls : List Line) : Type 0 where
  pub ends : n ≡ k + length ls
  pub fits : line_width * n ≤ length out
  pub long : length o ≡ length out
  pub holds : o ≡ put out k ls
