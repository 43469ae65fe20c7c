-- The fault of six stored numbers as a chain of tests, in the order of the conditions: by cases on the tests' outcomes.
-- Assumes nothing.
use mathlib.Core.Path.{◌≡◌, refl, ◌∙◌}
use mathlib.Core.Bool.{Bool, true, false, cond, not, ◌&&◌}
use mathlib.Core.List.{[], ◌∷◌}
use mathlib.Core.Option.{none, some}
use Prim.Native.Nat.{ℕ, ◌-◌, ◌/◌, ◌%◌, ◌<◌}
use lib.Dec.{ltb}
use borrow.Author.Tests.{lt-ltb}
use Rattle.model.specs.declared.Operand.TheVariants.{Empty, Literal, Register, Cell, PublicCell, SensitiveCell, TableCell}
use Rattle.model.specs.Lines.{filled, fills, is_literal}
use Rattle.model.specs.Stored.{literals, registers, cells, publics, sensitives, tables, marks, opcodes, operands, targets}
use Rattle.model.specs.Stored.{opcode_of, operand_of, Field, numbers, wrong, or_wrong, same_filled, parsed, parsed_numbers, fault}
use Rattle.coding.specs.Fields.{in_range}

-- ---- a literal's number

first_form : (p q r s t u : Bool) (a b c d e f g h i : ℕ)
    → is_literal (cond p Empty (cond q (Literal a) (cond r (Register b) (cond s (Cell c) (cond t (PublicCell d e) (cond u (SensitiveCell f g) (TableCell h i)))))))
    ≡ cond p false q
unfolding is_literal
first_form true q r s t u a b c d e f g h i = refl
first_form false true r s t u a b c d e f g h i = refl
first_form false false true s t u a b c d e f g h i = refl
first_form false false false true t u a b c d e f g h i = refl
first_form false false false false true u a b c d e f g h i = refl
first_form false false false false false true a b c d e f g h i = refl
first_form false false false false false false a b c d e f g h i = refl

pub literal_number : (n : ℕ) → is_literal (operand_of n) ≡ cond (ltb n literals) false (ltb n registers)
unfolding operand_of
literal_number n =
    first_form (ltb n literals) (ltb n registers) (ltb n cells) (ltb n publics) (ltb n sensitives) (ltb n tables) (n - literals) (n - registers) (n - cells)
    ((n - publics) / 128) ((n - publics) % 128) ((n - sensitives) / 128) ((n - sensitives) % 128) ((n - tables) / 256) ((n - tables) % 256)

-- ---- the chain

abbrev field : Bool → Bool → ℕ → Field
field filled inside k = record { filled = filled; number = cond inside (some k) none }

-- operands and target, where the destination's number is in range: s whether the shape is right, l whether the destination is a literal
operands-fault : (s l pa pb pt : Bool) (m o d a b t : ℕ)
    → fault (cond s (or_wrong 6 (cond l none (some d)) (λ d'. or_wrong 6 (cond pa (some a) none) (λ a'. or_wrong 6 (cond pb (some b) none) (λ b'. or_wrong 6 (cond pt (some t) none) (λ t'.
    numbers (m ∷ o ∷ d' ∷ a' ∷ b' ∷ t' ∷ [])))))) (wrong 5))
    ≡ cond s (cond (not l && pa && pb && pt) 0 6) 5
operands-fault false l pa pb pt m o d a b t = refl
operands-fault true true pa pb pt m o d a b t = refl
operands-fault true false false pb pt m o d a b t = refl
operands-fault true false true false pt m o d a b t = refl
operands-fault true false true true false m o d a b t = refl
operands-fault true false true true true m o d a b t = refl

destination_fault : (s : Bool) → fault (cond s (wrong 6) (wrong 5)) ≡ cond s 6 5
destination_fault true = refl
destination_fault false = refl

fields_fault : (m o d a b t : ℕ) (fm fo fd fa fb ft pm po pd pa pb pt : Bool)
    → fault (parsed (field fm pm m) (field fo po o) (field fd pd d) (field fa pa a) (field fb pb b) (field ft pt t))
    ≡ cond pm (cond po (cond (same_filled (fills (opcode_of o)) (filled fd fa fb ft)) (cond (pd && not (is_literal (operand_of d)) && pa && pb && pt) 0 6) 5) 4) 3
unfolding parsed
fields_fault m o d a b t fm fo fd fa fb ft false po pd pa pb pt = refl
fields_fault m o d a b t fm fo fd fa fb ft true false pd pa pb pt = refl
fields_fault m o d a b t fm fo fd fa fb ft true true false pa pb pt = destination_fault (same_filled (fills (opcode_of o)) (filled fd fa fb ft))
fields_fault m o d a b t fm fo fd fa fb ft true true true pa pb pt =
    operands-fault (same_filled (fills (opcode_of o)) (filled fd fa fb ft)) (is_literal (operand_of d)) pa pb pt m o d a b t

-- 3, 4, then 5, then 6
pub chain : (m o d a b t : ℕ)
    → fault (parsed_numbers m o d a b t)
    ≡ cond (ltb m marks) (cond (ltb o opcodes) (cond (same_filled (fills (opcode_of o)) (filled (ltb 0 d) (ltb 0 a) (ltb 0 b) (ltb 0 t))) (cond (in_range d a b t) 0 6) 5) 4) 3
chain m o d a b t =
    fields_fault m o d a b t (ltb 0 m) (ltb 0 o) (ltb 0 d) (ltb 0 a) (ltb 0 b) (ltb 0 t)
    (ltb m marks) (ltb o opcodes) (ltb d operands) (ltb a operands) (ltb b operands) (ltb t targets)

-- mark and opcode in range: 5, then 6
pub shaped_chain : (m o d a b t : ℕ) → m < marks → o < opcodes
    → fault (parsed_numbers m o d a b t) ≡ cond (same_filled (fills (opcode_of o)) (filled (ltb 0 d) (ltb 0 a) (ltb 0 b) (ltb 0 t))) (cond (in_range d a b t) 0 6) 5
shaped_chain m o d a b t h k = chain m o d a b t ∙ rw (lt-ltb m marks h, lt-ltb o opcodes k)
