-- The operands of accepted lines: which places they name, and that they read the same in states that agree in the public places.
-- By cases on the operand. Assumes nothing.
use mathlib.Core.Path.{◌≡◌, refl, ap, ◌∙◌}
use mathlib.Core.Bool.{true, false}
use Prim.Native.Nat.{ℕ, ◌+◌, ◌%◌, ◌≤◌, ◌<◌}
use native.Mathlib.Omega.{arith}
use lib.ListN.{get_or}
use Rattle.model.specs.declared.Operand.{Operand}
use Rattle.model.specs.declared.Operand.TheVariants.{Empty, Literal, Register, Cell, PublicCell, SensitiveCell, TableCell}
use Rattle.model.specs.declared.Kind.{Kind}
use Rattle.model.specs.declared.Kind.TheVariants.{Public, Sensitive}
use Rattle.model.specs.Places.{State, kind, kind_of, is_public, value, place, address}
use Rattle.model.specs.Images.{SamePublic}
use Rattle.model.proofs.PlaceLaws.{public_register, sensitive_register, public_cell, sensitive_cell, table_cell}

-- the place of an operand is of the operand's kind, whatever the state holds; past the state, where one that names none has its place,
-- a place is neither
pub kind-place : (o : Operand) (s : State) → kind (place o s) ≡ kind_of o
unfolding kind kind_of place
kind-place Empty s = refl
kind-place (Literal n) s = refl
kind-place (Register n) s = refl
kind-place (Cell n) s = refl
kind-place (PublicCell r k) s = public_cell (32 + (get_or s r 0 + k) % 128) (omega arith) (omega arith)
kind-place (SensitiveCell r k) s = sensitive_cell (160 + (get_or s r 0 + k) % 128) (omega arith) (omega arith)
kind-place (TableCell r k) s = table_cell (288 + (get_or s r 0 + k) % 256) (omega arith)

-- a public register, as a base
abbrev pub Base : ℕ → Type 0
Base r = (4 ≤ r) × (r < 16)

-- an operand whose place is read off the line and public registers
abbrev pub Steady : Operand → Type 0
Steady Empty = Unit {0}
Steady (Literal n) = Unit {0}
Steady (Register n) = Unit {0}
Steady (Cell n) = Unit {0}
Steady (PublicCell r k) = Base r
Steady (SensitiveCell r k) = Base r
Steady (TableCell r k) = ⊥

abbrev pub SensitivePlace : Operand → Type 0
SensitivePlace Empty = ⊥
SensitivePlace (Literal n) = ⊥
SensitivePlace (Register n) = (16 ≤ n) × (n < 32)
SensitivePlace (Cell n) = (128 ≤ n) × (n < 256)
SensitivePlace (PublicCell r k) = ⊥
SensitivePlace (SensitiveCell r k) = Base r
SensitivePlace (TableCell r k) = ⊥

-- a sensitive place, or a literal bit
abbrev pub SensitiveArgument : Operand → Type 0
SensitiveArgument Empty = ⊥
SensitiveArgument (Literal n) = n ≤ 1
SensitiveArgument (Register n) = SensitivePlace (Register n)
SensitiveArgument (Cell n) = SensitivePlace (Cell n)
SensitiveArgument (PublicCell r k) = ⊥
SensitiveArgument (SensitiveCell r k) = SensitivePlace (SensitiveCell r k)
SensitiveArgument (TableCell r k) = ⊥

-- an operand of an unmarked line: a public place, a literal, or nothing
abbrev pub PublicOperand : Operand → Type 0
PublicOperand Empty = Unit {0}
PublicOperand (Literal n) = Unit {0}
PublicOperand (Register n) = (4 ≤ n) × (n < 16)
PublicOperand (Cell n) = n < 128
PublicOperand (PublicCell r k) = Base r
PublicOperand (SensitiveCell r k) = ⊥
PublicOperand (TableCell r k) = ⊥

-- an argument of a marked line: a public place, of which the lowest bit is meant, or a sensitive place or a literal bit
pub data MarkedArgument (o : Operand) : Type 0 where
  public_bit : is_public (kind_of o) ≡ true → PublicOperand o → MarkedArgument o
  sensitive_bit : is_public (kind_of o) ≡ false → SensitiveArgument o → MarkedArgument o

pub steady-place : (o : Operand) → SensitivePlace o → Steady o
steady-place Empty h = tt
steady-place (Literal n) h = tt
steady-place (Register n) h = tt
steady-place (Cell n) h = tt
steady-place (PublicCell r k) h = absurd h
steady-place (SensitiveCell r k) h = h
steady-place (TableCell r k) h = h

pub steady-argument : (o : Operand) → SensitiveArgument o → Steady o
steady-argument Empty h = tt
steady-argument (Literal n) h = tt
steady-argument (Register n) h = tt
steady-argument (Cell n) h = tt
steady-argument (PublicCell r k) h = absurd h
steady-argument (SensitiveCell r k) h = h
steady-argument (TableCell r k) h = h

pub steady_public : (o : Operand) → PublicOperand o → Steady o
steady_public Empty h = tt
steady_public (Literal n) h = tt
steady_public (Register n) h = tt
steady_public (Cell n) h = tt
steady_public (PublicCell r k) h = h
steady_public (SensitiveCell r k) h = absurd h
steady_public (TableCell r k) h = h

module _ (s t : State) (h : SamePublic s t) where
  base_same : (r : ℕ) → Base r → get_or s r 0 ≡ get_or t r 0
  unfolding SamePublic
  base_same r g = h r (omega arith) (public_register r g.0 g.1)

  pub place_same : (o : Operand) → Steady o → place o s ≡ place o t
  unfolding place
  place_same Empty g = refl
  place_same (Literal n) g = refl
  place_same (Register n) g = refl
  place_same (Cell n) g = refl
  place_same (PublicCell r k) g = rw (base_same r g)
  place_same (SensitiveCell r k) g = rw (base_same r g)
  place_same (TableCell r k) g = absurd g

  pub address_same : (o : Operand) → Steady o → address o s ≡ address o t
  unfolding address
  address_same Empty g = refl
  address_same (Literal n) g = refl
  address_same (Register n) g = refl
  address_same (Cell n) g = refl
  address_same (PublicCell r k) g = rw (base_same r g)
  address_same (SensitiveCell r k) g = rw (base_same r g)
  address_same (TableCell r k) g = absurd g

  pub value_same : (o : Operand) → PublicOperand o → value o s ≡ value o t
  unfolding value place SamePublic
  value_same Empty g = refl
  value_same (Literal n) g = refl
  value_same (Register n) g = h n (omega arith) (public_register n g.0 g.1)
  value_same (Cell n) g = h (32 + n) (omega arith) (public_cell (32 + n) (omega arith) (omega arith))
  value_same (PublicCell r k) g =
      h (32 + (get_or s r 0 + k) % 128) (omega arith) (public_cell (32 + (get_or s r 0 + k) % 128) (omega arith) (omega arith))
      ∙ ap (λ (n : ℕ). get_or t (32 + (n + k) % 128) 0) (base_same r g)
  value_same (SensitiveCell r k) g = absurd g
  value_same (TableCell r k) g = absurd g

-- a place of a kind, past the scratch registers
pub record Of (k : Kind) (n : ℕ) : Type 0 where
  pub is : kind n ≡ k
  pub past : 4 ≤ n
  pub within : n < 544

pub sensitive_of : (o : Operand) → SensitivePlace o → (s : State) → Of Sensitive (place o s)
unfolding place
sensitive_of Empty h s = absurd h
sensitive_of (Literal n) h s = absurd h
sensitive_of (Register n) h s = record { is = sensitive_register n h.0 h.1; past = omega arith; within = omega arith }
sensitive_of (Cell n) h s = record { is = sensitive_cell (32 + n) (omega arith) (omega arith); past = omega arith; within = omega arith }
sensitive_of (PublicCell r k) h s = absurd h
sensitive_of (SensitiveCell r k) h s =
    record { is = sensitive_cell (160 + (get_or s r 0 + k) % 128) (omega arith) (omega arith); past = omega arith; within = omega arith }
sensitive_of (TableCell r k) h s = absurd h

pub public_register_of : (n : ℕ) → (4 ≤ n) × (n < 16) → Of Public n
public_register_of n h = record { is = public_register n h.0 h.1; past = omega arith; within = omega arith }

pub public_cell_of : (n : ℕ) → n < 128 → Of Public (32 + n)
public_cell_of n h = record { is = public_cell (32 + n) (omega arith) (omega arith); past = omega arith; within = omega arith }

-- what a sensitive place reads is what stands there
pub value_at : (a : Operand) → SensitivePlace a → (s : State) → value a s ≡ get_or s (place a s) 0
unfolding value
value_at Empty h s = absurd h
value_at (Literal n) h s = absurd h
value_at (Register n) h s = refl
value_at (Cell n) h s = refl
value_at (PublicCell b k) h s = absurd h
value_at (SensitiveCell b k) h s = refl
value_at (TableCell b k) h s = absurd h
