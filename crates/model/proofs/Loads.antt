-- A load: the code of an argument's bit comes into a scratch register, and what is shown turns on public numbers alone. Nothing else
-- looks inside a load. Assumes nothing.
use mathlib.Core.Path.{◌≡◌, refl, sym, ap, ◌∙◌}
use mathlib.Core.Bool.{Bool, true, false}
use mathlib.Core.List.{List, [], ◌∷◌}
use Prim.Native.Nat.{ℕ, suc, ◌+◌, ◌%◌, ◌≤◌, ◌<◌}
use native.Mathlib.Omega.{arith}
use lib.Count.{ones}
use lib.ListN.{length, get_or}
use Rattle.model.specs.declared.Layout.{Layout}
use Rattle.model.specs.Layouts.{Known}
use Rattle.model.specs.declared.Mark.TheVariants.{Marked}
use Rattle.model.specs.declared.Operand.{Operand}
use Rattle.model.specs.declared.Operand.TheVariants.{Empty, Literal, Register, Cell, PublicCell, SensitiveCell, TableCell}
use Rattle.model.specs.Places.{State, is_public, kind_of, address, has_address, value}
use Rattle.model.specs.Step.{Row, meaning, argument, weight}
use Rattle.model.specs.Run.{ran}
use Rattle.model.specs.Code.{code, code_table}
use Rattle.model.specs.Images.{BitState, image_at, SamePublic}
use Rattle.model.specs.Expansion.{coded, precharged, code_bit, load}
use Rattle.model.proofs.Straight.{exec, exec_then}
use Rattle.model.proofs.PlaceLaws.{map_at-get_or}
use Rattle.model.proofs.Operands.{SensitivePlace, SensitiveArgument, PublicOperand, MarkedArgument, public_bit, sensitive_bit, steady-argument, steady_public, address_same, value_same, value_at}
use Rattle.model.proofs.Finite.{code-weight, code_loaded, code_stands}
use Rattle.model.proofs.Pieces.{held, plus4, still, reading, reach, shows, six, Scratch, got, kept, Source, charge_shown, Coder, code_cell, code_bit_shown, code_bit_exec}
use Rattle.model.proofs.ImageLaws.{zeros, rails, tail_length, same_held, image-page, found}

-- where a load that begins at k ends, by whether a public bit is loaded
abbrev end_of : Bool → ℕ → ℕ
end_of false k = suc (suc k)
end_of true k = plus4 k

abbrev pub load_end : Operand → ℕ → ℕ
load_end a k = end_of (is_public (kind_of a)) k

-- the bus after a load: at the operand's address, where it has one, or at the cell of a public bit's code
abbrev bus_of : Bool → ℕ → ℕ → ℕ
bus_of false v c = c
bus_of true v c = code_cell v

unfoldable pub load_bus : Operand → State → ℕ → ℕ
load_bus a s b = bus_of (is_public (kind_of a)) (argument Marked a s) (reach a (address a s) b)

-- the rows of the loading lines by public numbers, the bus going from b to c: the code of a bit that is not told, or a public bit v and then
-- its code
abbrev bit_shown : Layout → Bool → ℕ → ℕ → ℕ → ℕ → ℕ → List Row
bit_shown L false k v u b c = six k 1 1 (weight u) 0 0 (reading b c) ∷ []
bit_shown L true k v u b c = shows k v 0 u 0 0 (reading b c) ∷ code_bit_shown L (suc k) c v

-- the rows of a load; x is the Hamming weight of the register before
unfoldable pub load_shown : Layout → Operand → ℕ → ℕ → State → ℕ → List Row
load_shown L a k x s b =
    six k 0 x 0 0 0 (still b) ∷ bit_shown L (is_public (kind_of a)) (suc k) (argument Marked a s) (address a s) b (reach a (address a s) b)

-- the bit that an argument of a marked line reads in the source, and its load in the image
pub record Loaded (L : Layout) (r : List ℕ) (a : Operand) : Type 0 where
  pub bit : argument Marked a (zeros r) < 2
  pub loads : {n : ℕ} (S : Scratch n) (k x y z b : ℕ)
      → exec (load n (coded L a)) k (held x y z (rails L r)) b
      ≡ ran (load_end a k) (kept S (code L (argument Marked a (zeros r))) x y z (rails L r)) (load_bus a (zeros r) b) (load_shown L a k (weight (got S x y z)) (zeros r) b)

-- a literal is coded to a literal, and a place is left as it is
pub coded-kind : (L : Layout) (a : Operand) → kind_of (coded L a) ≡ kind_of a
unfolding coded kind_of
coded-kind L Empty = refl
coded-kind L (Literal n) = refl
coded-kind L (Register n) = refl
coded-kind L (Cell n) = refl
coded-kind L (PublicCell b k) = refl
coded-kind L (SensitiveCell b k) = refl
coded-kind L (TableCell b k) = refl

pub coded-address : (L : Layout) (a : Operand) → has_address (coded L a) ≡ has_address a
unfolding coded has_address
coded-address L Empty = refl
coded-address L (Literal n) = refl
coded-address L (Register n) = refl
coded-address L (Cell n) = refl
coded-address L (PublicCell b k) = refl
coded-address L (SensitiveCell b k) = refl
coded-address L (TableCell b k) = refl

pub coded_public : (L : Layout) (a : Operand) → is_public (kind_of a) ≡ true → coded L a ≡ a
unfolding coded kind_of
coded_public L Empty e = refl
coded_public L (Literal n) e = let z : ◌≡◌ {A = ℕ} 0 1 = cc in absurd (omega arith)
coded_public L (Register n) e = refl
coded_public L (Cell n) e = refl
coded_public L (PublicCell b k) e = refl
coded_public L (SensitiveCell b k) e = refl
coded_public L (TableCell b k) e = refl

module _ (L : Layout) (K : Known L) (r : List ℕ) (bits : BitState (zeros r)) where
  -- the table page of the image holds the codes
  coder : Coder L (rails L r)
  coder =
      record {
        codes = λ v h.
            let at : ℕ = 524 + v in
            let e : at ≡ 284 + (code_table + v) = omega arith in
            map_at-get_or (image_at L) 4 r at (omega (arith, tail_length L r bits)) ∙ ap (λ (n : ℕ). image_at L (4 + n) (get_or r at 0)) e
            ∙ image-page L (code_table + v) (get_or r at 0) ∙ code_stands L K v h;
      }

  -- ---- a sensitive place or a literal bit

  loaded_from : (a : Operand) → is_public (kind_of a) ≡ false → value a (zeros r) < 2
      → Source (coded L a) (rails L r) (code L (value a (zeros r))) (address a (zeros r)) → Loaded L r a
  unfolding argument meaning load code_bit load_shown load_bus ones
  loaded_from a p h A =
      let v = value a (zeros r) in
      let q : is_public (kind_of (coded L a)) ≡ false = ap is_public (coded-kind L a) ∙ p in
      record {
        bit = rw p h;
        loads = λ S k x y z b.
            rw (p, q) (charge_shown S (coded L a) k x y z (rails L r) b (code L v) (address a (zeros r)) A
            ∙ rw (code-weight L K v h, code_loaded L K v h, coded-address L a));
      }

  loaded_place : (a : Operand) → is_public (kind_of a) ≡ false → SensitivePlace a → coded L a ≡ a → Loaded L r a
  unfolding argument meaning
  loaded_place a p h c =
      let F = found L r bits a h in
      let e : value a (zeros r) ≡ get_or r F.at 0 = value_at a h (zeros r) ∙ ap (λ (n : ℕ). get_or (zeros r) n 0) F.names in
      loaded_from a p (omega (arith, F.bit, e))
      (rw c (record {
        reads = λ x y z.
            rw p (value_at a h (held x y z (rails L r)) ∙ ap (λ (n : ℕ). get_or (held x y z (rails L r)) n 0) (F.destination.names x y z) ∙ F.holds ∙ ap (code L) (sym e));
        stands = F.destination.stands;
      }))

  loaded_sensitive : (a : Operand) → is_public (kind_of a) ≡ false → SensitiveArgument a → Loaded L r a
  unfolding coded argument meaning value address
  loaded_sensitive Empty p h = absurd h
  loaded_sensitive (Literal n) p h = loaded_from (Literal n) p (omega arith) (record { reads = λ x y z. refl; stands = λ x y z. refl })
  loaded_sensitive (Register n) p h = loaded_place (Register n) p h refl
  loaded_sensitive (Cell n) p h = loaded_place (Cell n) p h refl
  loaded_sensitive (PublicCell b k) p h = absurd h
  loaded_sensitive (SensitiveCell b k) p h = loaded_place (SensitiveCell b k) p h refl
  loaded_sensitive (TableCell b k) p h = absurd h

  -- ---- a public place

  loaded_public : (a : Operand) → is_public (kind_of a) ≡ true → PublicOperand a → Loaded L r a
  unfolding argument meaning load load_shown load_bus ones
  loaded_public a p h =
      let v = value a (zeros r) % 2 in
      let low : v < 2 = omega arith in
      let A : Source a (rails L r) v (address a (zeros r)) =
      record {
        reads = λ x y z. rw p (ap (λ (n : ℕ). n % 2) (sym (value_same (zeros r) (held x y z (rails L r)) (same_held L r bits x y z) a h)));
        stands = λ x y z. sym (address_same (zeros r) (held x y z (rails L r)) (same_held L r bits x y z) a (steady_public a h));
      } in
      record {
        bit = rw p low;
        loads = λ {n} S k x y z b.
            rw (coded_public L a p, p) (exec_then (precharged (Register n) a) (code_bit true n) k (held x y z (rails L r)) b
            (charge_shown S a k x y z (rails L r) b v (address a (zeros r)) A)
            (code_bit_exec L S (suc (suc k)) x y z (rails L r) (reach a (address a (zeros r)) b) coder v low));
      }

  pub loaded : (a : Operand) → MarkedArgument a → Loaded L r a
  loaded a (public_bit p h) = loaded_public a p h
  loaded a (sensitive_bit p h) = loaded_sensitive a p h

-- it shows the same in states that agree in the public places, and leaves the bus the same
pub load_same : (L : Layout) (s t : State) → SamePublic s t → (a : Operand) → MarkedArgument a → (k x b : ℕ) → load_shown L a k x s b ≡ load_shown L a k x t b
unfolding load_shown argument meaning
load_same L s t h a (public_bit p g) k x b = rw (address_same s t h a (steady_public a g), value_same s t h a g)
load_same L s t h a (sensitive_bit p g) k x b = rw (p, address_same s t h a (steady-argument a g))

pub load_bus_same : (s t : State) → SamePublic s t → (a : Operand) → MarkedArgument a → (b : ℕ) → load_bus a s b ≡ load_bus a t b
unfolding load_bus argument meaning
load_bus_same s t h a (public_bit p g) b = rw (address_same s t h a (steady_public a g), value_same s t h a g)
load_bus_same s t h a (sensitive_bit p g) b = rw (p, address_same s t h a (steady-argument a g))

-- ---- how long it is

pub load_public : (n : ℕ) (a : Operand) → is_public (kind_of a) ≡ true → length (load n a) ≡ 4
unfolding load code_bit
load_public n a e = rw e

pub load_other : (n : ℕ) (a : Operand) → is_public (kind_of a) ≡ false → length (load n a) ≡ 2
unfolding load code_bit
load_other n a e = rw e

pub load_bounds : (n : ℕ) (a : Operand) → (2 ≤ length (load n a)) × (length (load n a) ≤ 4)
load_bounds n a = by (is_public (kind_of a)) refl
  where
    by : (c : Bool) → is_public (kind_of a) ≡ c → (2 ≤ length (load n a)) × (length (load n a) ≤ 4)
    by true e = omega (arith, load_public n a e)
    by false e = omega (arith, load_other n a e)
