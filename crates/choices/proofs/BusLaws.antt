-- A step is steady with all values of the bus exactly where it is steady with 0 on the bus and the first address is at one distance from
-- them all: what the bus held before shows in that one number of the row. Assumes nothing.
use mathlib.Core.Path.{◌≡◌, refl, sym, ap, ap₂, ◌∙◌, subst}
use mathlib.Core.Bool.{Bool, true, false, ◌&&◌}
use mathlib.Core.List.{List, [], ◌∷◌}
use mathlib.Core.Logic.{inl, inr}
use Prim.Native.Nat.{ℕ, ◌+◌, ◌<◌}
use borrow.Author.Tests.{eq-eqb, eqb-true}
use lib.Dec.{T, eqb, lit<}
use lib.ListN.{length, get_or, set}
use lib.Seq.{set-set}
use Rattle.model.specs.declared.Operand.{Operand}
use Rattle.model.specs.declared.Line.{Line}
use Rattle.model.specs.Places.{State, address, has_address}
use Rattle.model.specs.Step.{weight, distance, on_bus, distances, row}
use Rattle.model.proofs.TestLaws.{and_both, both_and}
use Rattle.model.proofs.Pieces.{distance_same}
use Rattle.sets.specs.Walk.{Sets, values, heads, base, steady}
use Rattle.sets.specs.Claims.{In, Drawn, Full}
use Rattle.sets.specs.Addresses.{address_by, reached, first_addressed}
use Rattle.sets.proofs.Members.{first_in, in_map, map_in}
use Rattle.sets.proofs.DrawnStates.{heads_at, heads_drawn, drawn_in, drawn_with, by_steady, steady-row}
use Rattle.sets.proofs.Buses.{address-base, by_addressed}
use Rattle.sets.proofs.SameBus.{both}
use Rattle.choices.specs.Gathering.{all_at}
use Rattle.choices.specs.Bus.{all_met, met_by, meets}
use Rattle.choices.proofs.SetBytes.{map_at_lem}
use Rattle.choices.proofs.Gathered.{full_some, and_true}

-- ---- the number of a row that the bus shows in

-- it stands three behind the weight of the address, and nothing else turns on the bus
record Shows (l : Line) (k : ℕ) (o : Operand) : Type 0 where
  at : ℕ
  weighs : (s : State) (b : ℕ) → get_or (row l k s b) (3 + at) 0 ≡ weight (address o s)
  tells : (s : State) (b : ℕ) → get_or (row l k s b) (6 + at) 0 ≡ distance b (address o s)
  rest : (s : State) (b : ℕ) → row l k s b ≡ set (row l k s 0) (6 + at) (distance b (address o s))

no_two : false ≡ true → ⊥
no_two e = subst T (sym e) tt

module _ (l : Line) (k : ℕ) where
  first-shows : has_address (first_addressed l) ≡ true → Shows l k (first_addressed l)
  unfolding row distances on_bus has_address
  first-shows =
      by_addressed l.first l.second l.destination (λ o. has_address o ≡ true → Shows l k o)
      (λ e h. record { at = 0; weighs = λ s b. refl; tells = λ s b. rw e refl; rest = λ s b. rw e refl })
      (λ e f h. record { at = 1; weighs = λ s b. refl; tells = λ s b. rw (e, f) refl; rest = λ s b. rw (e, f, distance_same b, distance_same 0) refl })
      (λ e f g h. record { at = 2; weighs = λ s b. refl; tells = λ s b. rw (e, f, g) refl; rest = λ s b. rw (e, f, g, distance_same b, distance_same 0) refl })
      (λ e f g h. absurd (no_two h))

  none_shows : has_address (first_addressed l) ≡ false → (s : State) (b : ℕ) → row l k s b ≡ row l k s 0
  unfolding row distances on_bus has_address
  none_shows =
      by_addressed l.first l.second l.destination (λ o. has_address o ≡ false → (s : State) (b : ℕ) → row l k s b ≡ row l k s 0)
      (λ e h. absurd (no_two (sym h ∙ e))) (λ e f h. absurd (no_two (sym h ∙ f))) (λ e f g h. absurd (no_two (sym h ∙ g)))
      (λ e f g h s b. rw (e, f, g, distance_same b, distance_same 0) refl)

-- ---- all distances

so_eqb : (x y : ℕ) → x ≡ y → T (eqb x y)
so_eqb x y e = rw (eq-eqb x y e) tt

eqb_so : (x y : ℕ) → T (eqb x y) → x ≡ y
eqb_so x y = go (eqb x y) refl
  where
    go : (b : Bool) → eqb x y ≡ b → T b → x ≡ y
    go true e t = eqb-true x y e
    go false e t = absurd t

module _ (d : ℕ) where
  at_all : (x : ℕ) (bus : List ℕ) → ((b : ℕ) → In b bus → distance b x ≡ d) → T (all_at d x bus)
  unfolding all_at
  at_all x [] f = tt
  at_all x (b ∷ bus) f = both_and (eqb d (distance b x)) (all_at d x bus) (so_eqb d (distance b x) (sym (f b (inl refl)))) (at_all x bus (λ c m. f c (inr m)))

  at_each : (x : ℕ) (bus : List ℕ) → T (all_at d x bus) → (b : ℕ) → In b bus → distance b x ≡ d
  unfolding all_at
  at_each x [] t b m = absurd m
  at_each x (c ∷ bus) t b (inl e) = rw e (sym (eqb_so d (distance c x) (and_both (eqb d (distance c x)) (all_at d x bus) t).0))
  at_each x (c ∷ bus) t b (inr m) = at_each x bus (and_both (eqb d (distance c x)) (all_at d x bus) t).1 b m

  met_all : (bus xs : List ℕ) → ((x : ℕ) → In x xs → (b : ℕ) → In b bus → distance b x ≡ d) → T (all_met d bus xs)
  unfolding all_met
  met_all bus [] f = tt
  met_all bus (x ∷ xs) f = both_and (all_at d x bus) (all_met d bus xs) (at_all x bus (f x (inl refl))) (met_all bus xs (λ y m. f y (inr m)))

  met_each : (bus xs : List ℕ) → T (all_met d bus xs) → (x : ℕ) → In x xs → (b : ℕ) → In b bus → distance b x ≡ d
  unfolding all_met
  met_each bus [] t x n b m = absurd n
  met_each bus (y ∷ xs) t x (inl e) b m = rw e (at_each y bus (and_both (all_at d y bus) (all_met d bus xs) t).0 b m)
  met_each bus (y ∷ xs) t x (inr n) b m = met_each bus xs (and_both (all_at d y bus) (all_met d bus xs) t).1 x n b m

-- ---- a step

module _ (S : Sets) (F : Full S) (bus : List ℕ) (some-bus : 0 < length bus) (l : Line) (k : ℕ) where
  abbrev o : Operand
  o = first_addressed l

  abbrev xs : List ℕ
  xs = reached S o

  -- the operand's addresses are those of the drawn states
  address_in : (s : State) → Drawn S s → In (address o s) xs
  unfolding reached
  address_in s D = rw (address-base o s) (in_map (address_by o) (get_or s (base o) 0) (values S (base o)) (drawn_in S F s D (base o)))

  in_address : (x : ℕ) → In x xs → (s : State) × Drawn S s × (address o s ≡ x)
  unfolding reached
  in_address x m =
      let v = map_in (address_by o) x (values S (base o)) m in
      let s = drawn_with S (base o) v.0 F v.1 in
      (s.0, s.1, address-base o s.0 ∙ ap (address_by o) s.2 ∙ sym v.2)

  first-address : address o (heads S) ≡ get_or xs 0 0
  unfolding reached
  first-address =
      address-base o (heads S) ∙ ap (address_by o) (heads_at S (base o)) ∙ sym (map_at_lem (address_by o) (values S (base o)) 0 (full_some S F (base o)))

  abbrev first_bus : ℕ
  first_bus = get_or bus 0 0

  bus_in : In first_bus bus
  bus_in = first_in bus some-bus

  module _ (W : Shows l k o) where
    abbrev r : State → ℕ → List ℕ
    r s b = row l k s b

    -- with 0 on the bus the number is the address's weight, so a row tells the row with 0
    to_zero : (s : State) (b : ℕ) → r s 0 ≡ set (r s b) (6 + W.at) (get_or (r s b) (3 + W.at) 0)
    unfolding distance
    to_zero s b =
        W.rest s 0 ∙ sym (ap₂ (λ q w. set q (6 + W.at) w) (W.rest s b) (W.weighs s b) ∙ set-set (r s 0) (6 + W.at) (distance b (address o s)) (weight (address o s)))

    steady-zero : T (steady S bus l k) → T (steady S (0 ∷ []) l k)
    steady-zero t =
        by_steady T S (0 ∷ []) l k F (λ all. tt)
        (λ s b D m n. n (to_zero (heads S) first_bus ∙ ap (λ (q : List ℕ). set q (6 + W.at) (get_or q (3 + W.at) 0)) (steady-row S bus l k s first_bus F D bus_in t) ∙ sym (to_zero s first_bus) ∙ ap (r s) (sym (zero_in b m))))
      where
        zero_in : (b : ℕ) → In b (0 ∷ []) → b ≡ 0
        zero_in b (inl e) = e
        zero_in b (inr m) = absurd m

    steady_met_first : T (steady S bus l k) → T (met_by bus xs)
    steady_met_first t =
        met_all (distance first_bus (get_or xs 0 0)) bus xs (λ x m b n.
        let s = in_address x m in
        ap (distance b) (sym s.2) ∙ sym (W.tells s.0 b) ∙ ap (λ (q : List ℕ). get_or q (6 + W.at) 0) (sym (steady-row S bus l k s.0 b F s.1 n t))
        ∙ W.tells (heads S) first_bus ∙ ap (distance first_bus) first-address)

    steady-back : T (steady S (0 ∷ []) l k) → T (met_by bus xs) → T (steady S bus l k)
    steady-back t g =
        let d : (s : State) (b : ℕ) → Drawn S s → In b bus → distance b (address o s) ≡ distance first_bus (get_or xs 0 0)
        = λ s b D m. met_each (distance first_bus (get_or xs 0 0)) bus xs g (address o s) (address_in s D) b m in
        by_steady T S bus l k F (λ all. tt)
        (λ s b D m n. n (W.rest (heads S) first_bus ∙ ap₂ (λ q w. set q (6 + W.at) w) (steady-row S (0 ∷ []) l k s 0 F D (inl refl) t) (d (heads S) first_bus (heads_drawn S F) bus_in ∙ sym (d s b D m)) ∙ sym (W.rest s b)))

  -- where no operand has an address the bus does not matter
  steady_quiet : has_address o ≡ false → (a c : List ℕ) → 0 < length a → T (steady S a l k) → T (steady S c l k)
  steady_quiet e a c some-a t =
      let same = none_shows l k e in
      by_steady T S c l k F (λ all. tt)
      (λ s b D m n. n (same (heads S) (get_or c 0 0) ∙ sym (same (heads S) (get_or a 0 0)) ∙ steady-row S a l k s (get_or a 0 0) F D (first_in a some-a) t ∙ same s (get_or a 0 0) ∙ sym (same s b)))

  pub steady_met : steady S bus l k ≡ steady S (0 ∷ []) l k && meets S bus l
  unfolding meets
  steady_met = go (has_address o) refl
    where
      go : (h : Bool) → has_address o ≡ h → steady S bus l k ≡ steady S (0 ∷ []) l k && meets S bus l
      go true e =
          let W = first-shows l k e in
          rw e (both (steady S bus l k) (steady S (0 ∷ []) l k && met_by bus xs)
          (λ t. both_and (steady S (0 ∷ []) l k) (met_by bus xs) (steady-zero W t) (steady_met_first W t))
          (λ t. let q = and_both (steady S (0 ∷ []) l k) (met_by bus xs) t in steady-back W q.0 q.1))
      go false e =
          rw (e, and_true (steady S (0 ∷ []) l k))
          (both (steady S bus l k) (steady S (0 ∷ []) l k) (steady_quiet e bus (0 ∷ []) some-bus) (steady_quiet e (0 ∷ []) bus (lit< tt)))
