-- The walk turns on which values the bus may hold, and not on how they are listed: so the code may list them by the last address of a line.
-- Assumes nothing.
use mathlib.Core.Path.{◌≡◌, refl, sym, ap, ap₂, ◌∙◌, subst}
use mathlib.Core.Bool.{Bool, true, false}
use mathlib.Core.List.{List}
use mathlib.Core.Option.{Option, none, some}
use Prim.Native.Nat.{ℕ, zero, suc, ◌<◌}
use lib.Dec.{T, ltb}
use lib.ListN.{length, get_or, get_elem?}
use Rattle.model.specs.declared.Line.{Line}
use Rattle.model.specs.Places.{has_address}
use Rattle.model.specs.Step.{next, bus_after, on_bus}
use Rattle.sets.specs.Walk.{Sets, max_values, values, heads, base, unsettled, written, steady, onto, buses, walk}
use Rattle.sets.specs.Claims.{In, Full}
use Rattle.sets.specs.Addresses.{address_by, reached, last_addressed, leads}
use Rattle.sets.proofs.Members.{first_in, in_some, map_in}
use Rattle.sets.proofs.DrawnStates.{heads_drawn, drawn_with, in_buses, buses_in, by_steady, steady-row}
use Rattle.sets.proofs.Sound.{onto-full, tested, walk-zero, walk_none, walk_some}
use Rattle.sets.proofs.Buses.{address-base, last_bus, bus_reached, bus_left}

abbrev pub SameBus : List ℕ → List ℕ → Type 0
SameBus a b = ((x : ℕ) → In x a → In x b) × ((x : ℕ) → In x b → In x a)

pub both : (a b : Bool) → (T a → T b) → (T b → T a) → a ≡ b
both true true f g = refl
both true false f g = absurd (f tt)
both false true f g = absurd (g tt)
both false false f g = refl

module _ (S : Sets) (F : Full S) where
  -- a step that is steady stays so with fewer values
  steady_fewer : (a b : List ℕ) (l : Line) (k : ℕ) → 0 < length b → ((x : ℕ) → In x b → In x a) → T (steady S a l k) → T (steady S b l k)
  steady_fewer a b l k some-b f t =
      by_steady T S b l k F (λ all. tt)
      (λ s x D m n. n (sym (steady-row S a l k (heads S) (get_or b 0 0) F (heads_drawn S F) (f (get_or b 0 0) (first_in b some-b)) t) ∙ steady-row S a l k s x F D (f x m) t))

  steady_same : (a b : List ℕ) (l : Line) (k : ℕ) → 0 < length a → 0 < length b → SameBus a b → steady S a l k ≡ steady S b l k
  steady_same a b l k some-a some-b e = both (steady S a l k) (steady S b l k) (steady_fewer a b l k some-b e.1) (steady_fewer b a l k some-a e.0)

  buses_more : (a b : List ℕ) (l : Line) → ((x : ℕ) → In x a → In x b) → (x : ℕ) → In x (buses S a l) → In x (buses S b l)
  buses_more a b l f x m = let g = buses_in S a l x F m in rw g.4 (in_buses S b l g.0 g.1 F g.2 (f g.1 g.3))

  pub buses_some : (a : List ℕ) (l : Line) → 0 < length a → 0 < length (buses S a l)
  buses_some a l h = in_some (bus_after l (heads S) (get_or a 0 0)) (buses S a l) (in_buses S a l (heads S) (get_or a 0 0) F (heads_drawn S F) (first_in a h))

  -- after a line the bus holds its last address, or what it held
  pub buses_led : (bus : List ℕ) (l : Line) → 0 < length bus → SameBus (buses S bus l) (leads S bus l)
  unfolding leads reached on_bus
  buses_led bus l h = go (has_address (last_addressed l)) refl
    where
      go : (t : Bool) → has_address (last_addressed l) ≡ t → SameBus (buses S bus l) (leads S bus l)
      go true e = rw e (
        (λ x m. let g = buses_in S bus l x F m in rw g.4 (bus_reached S l g.0 g.1 F g.2 e)),
        (λ x m.
            let v = map_in (address_by (last_addressed l)) x (values S (base (last_addressed l))) m in
            let s = drawn_with S (base (last_addressed l)) v.0 F v.1 in
            let there : bus_after l s.0 (get_or bus 0 0) ≡ x = last_bus l s.0 (get_or bus 0 0) ∙ rw e (address-base (last_addressed l) s.0 ∙ ap (address_by (last_addressed l)) s.2 ∙ sym v.2) in
            subst (λ (y : ℕ). In y (buses S bus l)) there (in_buses S bus l s.0 (get_or bus 0 0) F s.1 (first_in bus h))),
      )
      go false e = rw e (
        (λ x m. let g = buses_in S bus l x F m in rw (g.4, bus_left S l g.0 g.1 e) g.3),
        (λ x m. subst (λ (y : ℕ). In y (buses S bus l)) (bus_left S l (heads S) x e) (in_buses S bus l (heads S) x F (heads_drawn S F) m)),
      )

pub walk_same : (p : List Line) (n k t : ℕ) (S : Sets) (a b : List ℕ) → Full S → 0 < length a → 0 < length b → SameBus a b → walk p n k t S a ≡ walk p n k t S b
walk_same p zero k t S a b F some-a some-b e = walk-zero p k t S a ∙ sym (walk-zero p k t S b)
walk_same p (suc n) k t S a b F some-a some-b e = go (λ k t S a b F some-a some-b e. walk_same p n k t S a b F some-a some-b e) (get_elem? p k) refl
  where
    go : ((k t : ℕ) (S : Sets) (a b : List ℕ) → Full S → 0 < length a → 0 < length b → SameBus a b → walk p n k t S a ≡ walk p n k t S b)
        → (o : Option Line) → get_elem? p k ≡ o → walk p (suc n) k t S a ≡ walk p (suc n) k t S b
    go later none q = walk_none p (suc n) k t S a q ∙ sym (walk_none p (suc n) k t S b q)
    go later (some l) q =
        walk_some p n k t S a l q
        ∙ ap₂ (λ same v. tested (unsettled S l) (ltb max_values (length (written S l))) same k t v) (steady_same S F a b l k some-a some-b e)
        (later (next l k (heads S)) (suc t) (onto S l) (buses S a l) (buses S b l) (onto-full S l F) (buses_some S F a l some-a) (buses_some S F b l some-b)
        (buses_more S F a b l e.0, buses_more S F b a l e.1))
        ∙ sym (walk_some p n k t S b l q)
