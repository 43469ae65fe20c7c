-- Which fields an opcode fills: one test for each way of filling, over all opcodes.
-- Assumes nothing.
use mathlib.Core.Path.{◌≡◌}
use mathlib.Core.Bool.{Bool, true, false, beq}
use Prim.Native.Nat.{ℕ, ◌≤◌}
use lib.Dec.{T}
use borrow.Author.Tests.{ne_eqb, le-ltb}
use native.Mathlib.Omega.{arith}
use Rattle.model.specs.Lines.{filled, fills}
use Rattle.model.specs.Stored.{opcodes, opcode_of, same_filled}
use Rattle.model.proofs.TestLaws.{below, all_below, all_below_lem}
use Rattle.model.proofs.Forms.{opcode_past}
use Rattle.model.proofs.StoredLaws.{beq_same}
use Rattle.coding.specs.Fields.{shaped}

abbrev right : Bool → Bool → Bool → Bool → ℕ → Bool
right d a b t o = beq (shaped o d a b t) (same_filled (fills (opcode_of o)) (filled d a b t))

all_shapes : (d a b t : Bool) → T (all_below (right d a b t) opcodes)
unfolding all_below shaped fills
all_shapes true true true true = tt
all_shapes true true true false = tt
all_shapes true true false true = tt
all_shapes true true false false = tt
all_shapes true false true true = tt
all_shapes true false true false = tt
all_shapes true false false true = tt
all_shapes true false false false = tt
all_shapes false true true true = tt
all_shapes false true true false = tt
all_shapes false true false true = tt
all_shapes false true false false = tt
all_shapes false false true true = tt
all_shapes false false true false = tt
all_shapes false false false true = tt
all_shapes false false false false = tt

-- past the opcodes a number fills what the first of them fills
shaped-past : (o : ℕ) (d a b t : Bool) → opcodes ≤ o → shaped o d a b t ≡ shaped 0 d a b t
unfolding shaped
shaped-past o d a b t h =
    rw (ne_eqb o 0 (λ e. omega arith), ne_eqb o 1 (λ e. omega arith), le-ltb o 4 (omega arith), le-ltb o 11 (omega arith), le-ltb o opcodes h)

pub shape_tests : (o : ℕ) (d a b t : Bool) → shaped o d a b t ≡ same_filled (fills (opcode_of o)) (filled d a b t)
shape_tests o d a b t =
    below o opcodes (λ h. beq_same _ _ (all_below_lem (right d a b t) opcodes o (all_shapes d a b t) h))
    (λ h. rw (shaped-past o d a b t h, opcode_past o h) (beq_same _ _ (all_below_lem (right d a b t) opcodes 0 (all_shapes d a b t) (omega arith))))
