-- The bus in a step on sets: after a line it is told by one operand's addresses, so it never has over 16 values. With the choices of a line this
-- makes steps exact. Assumes nothing.
use mathlib.Core.Path.{◌≡◌, refl, sym, ◌∙◌}
use mathlib.Core.Bool.{Bool, true, false, not}
use mathlib.Core.List.{List}
use Prim.Native.Nat.{ℕ, ◌≤◌}
use native.Mathlib.Omega.{arith}
use lib.Dec.{T}
use lib.ListN.{length, get_or, length-map}
use Rattle.model.specs.declared.Operand.{Operand}
use Rattle.model.specs.declared.Operand.TheVariants.{Empty, Literal, Register, Cell, PublicCell, SensitiveCell, TableCell}
use Rattle.model.specs.declared.Line.{Line}
use Rattle.model.specs.Places.{State, address, has_address}
use Rattle.model.specs.Step.{on_bus, bus_after, row}
use Rattle.sets.specs.Walk.{Sets, max_values, values, heads, base, buses}
use Rattle.sets.specs.Claims.{In, Drawn, Full, ExactSteps}
use Rattle.sets.specs.Addresses.{address_by, reached, addressed, last_addressed}
use Rattle.sets.proofs.Members.{first_in, in_some, few, in_map}
use Rattle.sets.proofs.DrawnStates.{heads_drawn, drawn_in, in_written, written_in, written_once, in_buses, buses_in, buses_once, by_steady, steady-row}

pub address-base : (o : Operand) (s : State) → address o s ≡ address_by o (get_or s (base o) 0)
unfolding address address_by base
address-base Empty s = refl
address-base (Literal n) s = refl
address-base (Register n) s = refl
address-base (Cell n) s = refl
address-base (PublicCell r k) s = refl
address-base (SensitiveCell r k) s = refl
address-base (TableCell r k) s = refl

-- ---- which operand has the first address of three

module _ (a b c : Operand) where
  pub taken-first : has_address a ≡ true → addressed a b c ≡ a
  unfolding addressed
  taken-first e = rw e

  pub taken_second : has_address a ≡ false → has_address b ≡ true → addressed a b c ≡ b
  unfolding addressed
  taken_second e f = rw (e, f)

  pub taken_third : has_address a ≡ false → has_address b ≡ false → has_address c ≡ true → addressed a b c ≡ c
  unfolding addressed
  taken_third e f g = rw (e, f, g)

  pub taken_none : has_address a ≡ false → has_address b ≡ false → has_address c ≡ false → addressed a b c ≡ Empty
  unfolding addressed
  taken_none e f g = rw (e, f, g)

  -- by which it is
  pub by_addressed : (P : Operand → Type 0) → (has_address a ≡ true → P a) → (has_address a ≡ false → has_address b ≡ true → P b)
      → (has_address a ≡ false → has_address b ≡ false → has_address c ≡ true → P c)
      → (has_address a ≡ false → has_address b ≡ false → has_address c ≡ false → P Empty) → P (addressed a b c)
  by_addressed P f g h n = go (has_address a) (has_address b) (has_address c) refl refl refl
    where
      go : (x y z : Bool) → has_address a ≡ x → has_address b ≡ y → has_address c ≡ z → P (addressed a b c)
      go true y z ex ey ez = rw (taken-first ex) (f ex)
      go false true z ex ey ez = rw (taken_second ex ey) (g ex ey)
      go false false true ex ey ez = rw (taken_third ex ey ez) (h ex ey ez)
      go false false false ex ey ez = rw (taken_none ex ey ez) (n ex ey ez)

-- ---- the last address is the bus

pub last_bus : (l : Line) (s : State) (b : ℕ) → bus_after l s b ≡ on_bus (last_addressed l) s b
unfolding bus_after on_bus has_address
last_bus l s b =
    by_addressed l.destination l.second l.first (λ o. bus_after l s b ≡ on_bus o s b)
    (λ e. rw e) (λ e f. rw (e, f)) (λ e f g. rw (e, f, g)) (λ e f g. rw (e, f, g))

-- it is among the operand's addresses, or left
module _ (S : Sets) (l : Line) where
  pub bus_reached : (s : State) (b : ℕ) → Full S → Drawn S s → has_address (last_addressed l) ≡ true → In (bus_after l s b) (reached S (last_addressed l))
  unfolding on_bus reached
  bus_reached s b F D e =
      let o = last_addressed l in
      rw (last_bus l s b, e, address-base o s) (in_map (address_by o) (get_or s (base o) 0) (values S (base o)) (drawn_in S F s D (base o)))

  pub bus_left : (s : State) (b : ℕ) → has_address (last_addressed l) ≡ false → bus_after l s b ≡ b
  unfolding on_bus
  bus_left s b e = rw (last_bus l s b, e)

  buses_fit : (bus : List ℕ) → Full S → ((i : ℕ) → length (values S i) ≤ max_values) → length bus ≤ max_values → length (buses S bus l) ≤ max_values
  unfolding reached
  buses_fit bus F sizes size = go (has_address (last_addressed l)) refl
    where
      o : Operand
      o = last_addressed l

      go : (t : Bool) → has_address o ≡ t → length (buses S bus l) ≤ max_values
      go true e =
          omega (
            arith,
            few (buses S bus l) (reached S o) (buses_once S bus l)
                (λ x m. let r = buses_in S bus l x F m in rw r.4 (bus_reached r.0 r.1 F r.2 e)),
            length-map (values S (base o)) (address_by o),
            sizes (base o),
          )
      go false e =
          omega (arith, few (buses S bus l) bus (buses_once S bus l) (λ x m. let r = buses_in S bus l x F m in rw (r.4, bus_left r.0 r.1 e) r.3), size)

-- ---- steps are exact

pub exact : ExactSteps
exact S F bus l k =
    record {
      all_results = λ s D. in_written S l s F D;
      each_once = written_once S l;
      no_others = λ x m. written_in S l x F m;
      all_buses = λ s b D m. in_buses S bus l s b F D m;
      each_bus_once = buses_once S bus l;
      no_other_buses = λ x m. buses_in S bus l x F m;
      buses_fit = buses_fit S l bus F;
      like_rows = λ t s u b c D E m n. sym (steady-row S bus l k s b F D m t) ∙ steady-row S bus l k u c F E n t;
      unlike_rows =
          by_steady (λ c. T (not c) → (s : State) × (u : State) × (b : ℕ) × (c : ℕ) × Drawn S s × Drawn S u × In b bus × In c bus × (row l k s b ≡ row l k u c → ⊥)) S bus l k F
          (λ all t. absurd t) (λ u c E m n t. (heads S, u, get_or bus 0 0, c, heads_drawn S F, E, first_in bus (in_some c bus m), m, n));
    }
