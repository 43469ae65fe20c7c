-- The numbers at a line of a store, and conditions 5 and 6 as tests on them. That the tests are the model's is shown in
-- proofs/Shapes and proofs/Faults. Assumes nothing.
use Rattle.std.specs.Prelude.{Bool, cond, not, ◌&&◌, ◌||◌, List, [], ◌∷◌, ℕ, ltb, eqb}
use Rattle.model.specs.Lines.{is_literal}
use Rattle.model.specs.Stored.{operand_of, opcodes, operands, targets, at_line}

-- the six numbers at line i
abbrev pub numbers_at : List ℕ → ℕ → List ℕ
numbers_at p i = at_line (λ m o d a b t. m ∷ o ∷ d ∷ a ∷ b ∷ t ∷ []) p i

-- whether destination, first, second and target are filled just where the opcode of number o fills them
unfoldable pub shaped : ℕ → Bool → Bool → Bool → Bool → Bool
shaped o d a b t =
    cond (eqb o 0) (not (((d || a) || b) || t))
    (cond (eqb o 1) (not ((d || a) || b) && t)
    (cond (ltb o 4) ((d && a) && not (b || t))
    (cond (ltb o 11) (((d && a) && b) && not t)
    (cond (ltb o opcodes) (((not d && a) && b) && t)
    (not (((d || a) || b) || t))))))

-- operands and target are numbers of such, and the destination's is no literal's
abbrev pub in_range : ℕ → ℕ → ℕ → ℕ → Bool
in_range d a b t = ltb d operands && not (is_literal (operand_of d)) && ltb a operands && ltb b operands && ltb t targets
