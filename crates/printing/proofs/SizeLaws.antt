-- How long the model's spellings are. Assumes nothing.
use Prim.Native.Nat.{ℕ, ◌+◌, ◌*◌, ◌≤◌}
use mathlib.Core.Bool.{Bool, true, false, cond}
use mathlib.Core.Path.{◌≡◌, refl}
use mathlib.Core.List.{List, [], ◌∷◌, flat_map}
use native.Mathlib.Omega.{arith}
use lib.Dec.{ltb}
use lib.ListN.{length, length-append}
use Rattle.model.specs.declared.Line.{Line}
use Rattle.model.specs.Lines.{AllCorrect}
use Rattle.model.specs.Stored.{mark_of, opcode_of, operand_of, target_of, line_of}
use Rattle.model.specs.Text.{digit_at, decimal, indirect, spell_operand, spell_target, spell_line}
use Rattle.model.proofs.SpellingLaws.{mark_1, opcode_3, line_34}

one_digit : (t : Bool) (d : ℕ) → length (cond t [] (d ∷ [])) ≡ cond t 0 1
one_digit true d = refl
one_digit false d = refl

digit_size : (p n : ℕ) → length (digit_at p n) ≡ cond (ltb n p) 0 1
unfolding digit_at
digit_size p n = one_digit (ltb n p) _

pub decimal-size : (n : ℕ) → length (decimal n) ≡ cond (ltb n 10000) 0 1 + (cond (ltb n 1000) 0 1 + (cond (ltb n 100) 0 1 + (cond (ltb n 10) 0 1 + 1)))
unfolding decimal
decimal-size n = simp (length-append, digit_size)

pub indirect-size : (c b k : ℕ) → length (indirect c b k) ≡ 3 + length (decimal b) + length (decimal k)
unfolding indirect
indirect-size c b k = omega (arith, length-append (decimal b) (43 ∷ decimal k))

pub line_sizes : (m o d a b t : ℕ)
    → length (spell_line (line_of m o d a b t))
    ≡ 10 + length (spell_operand (operand_of d)) + length (spell_operand (operand_of a)) + length (spell_operand (operand_of b)) + length (spell_target (target_of t))
unfolding spell_line
line_sizes m o d a b t = simp length-append (omega (arith, mark_1 (mark_of m), opcode_3 (opcode_of o)))

-- the text of correct lines, at the most
pub spelled_most : (ls : List Line) → AllCorrect ls → length (flat_map spell_line ls) ≤ 34 * length ls
unfolding flat_map
spelled_most [] h = omega arith
spelled_most (l ∷ ls) h = omega (arith, length-append (spell_line l) (flat_map spell_line ls), line_34 l h.0, spelled_most ls h.1)
