-- Request 02: a shift count is taken modulo 8. The macros shift by one, and a count below 8 is taken as it is, as it was where a count of 8
-- or more gave 0: so the macros and their listings stay. Assumes nothing.
use mathlib.Core.Path.{◌≡◌, refl, ap}
use mathlib.Core.List.{List, [], ◌∷◌}
use Prim.Native.Nat.{ℕ, ◌<◌}
use native.Mathlib.Nat.{mod-eq_of_lt}
use lib.Dec.{T}
use Rattle.model.specs.declared.Mark.TheVariants.{Unmarked, Marked}
use Rattle.model.specs.declared.Layout.{Layout}
use Rattle.model.specs.declared.Opcode.{Opcode}
use Rattle.model.specs.declared.Opcode.TheVariants.{Nop, Jmp, Not, Mov, And, Orr, Xor, Lsl, Lsr, Add, Mul, Beq, Bne}
use Rattle.model.specs.declared.Operand.{Operand}
use Rattle.model.specs.declared.Operand.TheVariants.{Literal}
use Rattle.model.specs.Lines.{Every}
use Rattle.model.specs.Step.{shift_by, alu}
use Rattle.model.specs.Expansion.{macro}
use Rattle.model.proofs.Finite.{Pair, pair, agree}
use Rattle.model.proofs.MacroLines.{macro-lines}

-- ---- examples, by computation: in both directions and under either mark

abbrev pub examples : List Pair
examples =
    pair (alu Unmarked Lsl 1 8) 1
    ∷ pair (alu Unmarked Lsr 128 15) 1
    ∷ pair (alu Unmarked Lsl 255 255) 128
    ∷ pair (alu Unmarked Lsr 255 255) 1
    ∷ pair (alu Marked Lsl 1 8) 1
    ∷ pair (alu Marked Lsr 128 15) 1
    ∷ []

pub examples_hold : T (agree examples)
unfolding alu
examples_hold = tt

-- ---- what stays

pub below_eight : (y : ℕ) (shift : ℕ → ℕ) → y < 8 → shift_by y shift ≡ shift y
below_eight y shift h = ap shift (mod-eq_of_lt h)

-- a line of that opcode and second argument shifts, if it does, by the literal 1
abbrev pub ByOne : Opcode → Operand → Type 0
ByOne Nop b = Unit {0}
ByOne Jmp b = Unit {0}
ByOne Not b = Unit {0}
ByOne Mov b = Unit {0}
ByOne And b = Unit {0}
ByOne Orr b = Unit {0}
ByOne Xor b = Unit {0}
ByOne Lsl b = b ≡ Literal 1
ByOne Lsr b = b ≡ Literal 1
ByOne Add b = Unit {0}
ByOne Mul b = Unit {0}
ByOne Beq b = Unit {0}
ByOne Bne b = Unit {0}

-- in every layout, each line of every macro
pub macros_shift_by_one : (L : Layout) (op : Opcode) (d a b : Operand) → Every (λ l. ByOne l.opcode l.second) (macro L op d a b)
macros_shift_by_one = macro-lines (record { moves = λ d a. tt; masks = λ n m. tt; shifts = refl; joins = tt; flips = λ m. tt })
