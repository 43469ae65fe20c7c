-- The choices of a line: each is a drawn state, and for each drawn state there is one that agrees with it at every place involved. So they
-- give exactly the results and the rows of all drawn states.
-- Assumes nothing.
use mathlib.Core.Path.{◌≡◌, refl, sym, ap, ap₂, ◌∙◌}
use mathlib.Core.Bool.{Bool, true, false, ◌&&◌}
use mathlib.Core.List.{List, [], ◌∷◌, map, flat_map}
use mathlib.Core.List.Memᴰ
use mathlib.Core.List.{Memᴰ}
use mathlib.Core.Logic.{◌⊎◌, inl, inr}
use Prim.Native.Nat.{ℕ, ◌≤◌, ◌<◌}
use native.Mathlib.Decide.{ℕ_discrete}
use native.Mathlib.Omega.{arith}
use borrow.Author.Tests.{eqb-true, eqb-false}
use lib.Dec.{T, eqb}
use lib.ListN.{length, get_or, set, length-map, length-set, get_or-map, get_or-eq_default}
use lib.Seq.{get_or-set_same, get_or-set_other, set_out}
use Rattle.model.specs.declared.Mark.{Mark}
use Rattle.model.specs.declared.Operand.{Operand}
use Rattle.model.specs.declared.Operand.TheVariants.{Empty, Literal, Register, Cell, PublicCell, SensitiveCell, TableCell}
use Rattle.model.specs.declared.Line.{Line}
use Rattle.model.specs.Limits.{state_size}
use Rattle.model.specs.Places.{State, kind_of, place, value, address}
use Rattle.model.specs.Step.{Row, meaning, on_bus, bus_after, distances, row, result, argument}
use Rattle.model.proofs.TestLaws.{below}
use Rattle.sets.specs.Walk.{Sets, values, heads, base, involved, draw, choices, written, buses, same_row, all_show, all_buses, steady}
use Rattle.sets.specs.Claims.{In, Drawn, Once, Full}
use Rattle.sets.proofs.Members.{first_in, in_mem, mem_in, distinct_in, in_distinct, once_distinct}

-- a state is one of the list
abbrev pub Among : State → List State → Type 0
Among e ss = Memᴰ e ss

-- ---- drawn states

pub heads-length : (S : Sets) → length (heads S) ≡ length S
heads-length S = length-map S (λ xs. get_or xs 0 0)

pub heads_at : (S : Sets) (i : ℕ) → get_or (heads S) i 0 ≡ get_or (values S i) 0 0
heads_at S i = get_or-map (λ xs. get_or xs 0 0) S i (0 ∷ [])

-- the first values are drawn
pub heads_drawn : (S : Sets) → Full S → Drawn S (heads S)
heads_drawn S F = record { long = heads-length S ∙ F.long; each = λ i h. rw (heads_at S i) (first_in (values S i) (F.some_in i h)) }

-- a drawn state has a value of the set at every number, no place too
pub drawn_in : (S : Sets) → Full S → (s : State) → Drawn S s → (i : ℕ) → In (get_or s i 0) (values S i)
drawn_in S F s D i =
    below i state_size (D.each i)
    (λ h. rw (get_or-eq_default s 0 {n = i} (omega (arith, D.long)), get_or-eq_default S (0 ∷ []) {n = i} (omega (arith, F.long))) (inl refl))

-- ---- one set replaced

pub full-set : (S : Sets) (q : ℕ) (xs : List ℕ) → Full S → 0 < length xs → Once xs → Full (set S q xs)
full-set S q xs F h o =
    record {
      long = length-set S q xs ∙ F.long;
      some_in = λ i g. go (λ ys. 0 < length ys) i g h (F.some_in i g) (ℕ_discrete i q);
      once = λ i g. go Once i g o (F.once i g) (ℕ_discrete i q);
    }
  where
    go : (P : List ℕ → Type 0) (i : ℕ) → i < state_size → P xs → P (values S i) → Dec (i ≡ q) → P (values (set S q xs) i)
    go P i g new old (no n) = rw (get_or-set_other S q i xs (0 ∷ []) n) old
    go P i g new old (yes e) = rw (← e, get_or-set_same S i xs (0 ∷ []) (omega (arith, F.long))) new

abbrev narrow : Sets → ℕ → ℕ → Sets
narrow S i v = set S i (v ∷ [])

pub narrow-full : (S : Sets) (i v : ℕ) → Full S → Full (narrow S i v)
unfolding Once
narrow-full S i v F = full-set S i (v ∷ []) F (omega arith) ((λ m. m), tt)

-- ---- what a flat_map has

pub among-flat : {A : Type 0} (g : ℕ → List A) (vs : List ℕ) (v : ℕ) {e : A} → In v vs → Memᴰ e (g v) → Memᴰ e (flat_map g vs)
unfolding flat_map
among-flat g [] v m h = absurd m
among-flat g (w ∷ vs) v (inl q) h = Memᴰ.append_left (flat_map g vs) (rw q at h)
among-flat g (w ∷ vs) v (inr m) h = Memᴰ.append_right (g w) (among-flat g vs v m h)

-- it comes of one of the values
pub record From {A : Type 0} (g : ℕ → List A) (vs : List ℕ) (e : A) : Type 0 where
  pub number : ℕ
  pub listed : In number vs
  pub gives : Memᴰ e (g number)

pub flat-among : {A : Type 0} (g : ℕ → List A) (vs : List ℕ) {e : A} → Memᴰ e (flat_map g vs) → From g vs e
unfolding flat_map
flat-among g [] m = absurd (Memᴰ.not-nil m)
flat-among {A} g (w ∷ vs) {e} m = go (λ m. flat-among g vs m) (Memᴰ.append_cases (g w) m)
  where
    go : (Memᴰ e (flat_map g vs) → From g vs e) → Memᴰ e (g w) ⊎ Memᴰ e (flat_map g vs) → From g (w ∷ vs) e
    go rest (inl m) = record { number = w; listed = inl refl; gives = m }
    go rest (inr m) = let r = rest m in record { number = r.number; listed = inr r.listed; gives = r.gives }

-- ---- each choice is drawn

-- what is drawn where a place has one of its values alone is drawn
drawn_wide : (S : Sets) (i v : ℕ) (e : State) → Full S → In v (values S i) → Drawn (narrow S i v) e → Drawn S e
drawn_wide S i v e F m D = record { long = D.long; each = λ j g. go j g (ℕ_discrete j i) }
  where
    alone : (x : ℕ) → In x (v ∷ []) → In x (values S i)
    alone x (inl q) = rw q m
    alone x (inr n) = absurd n

    go : (j : ℕ) → j < state_size → Dec (j ≡ i) → In (get_or e j 0) (values S j)
    go j g (no n) = rw (get_or-set_other S i j (v ∷ []) (0 ∷ []) n) at (D.each j g)
    go j g (yes q) =
        let h : i < state_size = rw q at g in
        rw q (alone (get_or e i 0) (rw (get_or-set_same S i (v ∷ []) (0 ∷ []) (omega (arith, F.long))) at (D.each i h)))

-- each value of a place is that of some drawn state
pub drawn_with : (S : Sets) (i v : ℕ) → Full S → In v (values S i) → (s : State) × Drawn S s × (get_or s i 0 ≡ v)
drawn_with S i v F m = (heads (narrow S i v), drawn_wide S i v (heads (narrow S i v)) F m (heads_drawn (narrow S i v) (narrow-full S i v F)), heads_at (narrow S i v) i ∙ there)
  where
    past : state_size ≤ i → values S i ≡ 0 ∷ []
    past h = get_or-eq_default S (0 ∷ []) {n = i} (omega (arith, F.long))

    sole : In v (0 ∷ []) → v ≡ 0
    sole (inl e) = e
    sole (inr n) = absurd n

    there : get_or (values (narrow S i v) i) 0 0 ≡ v
    there =
        below i state_size (λ h. rw (get_or-set_same S i (v ∷ []) (0 ∷ []) (omega (arith, F.long))) refl)
        (λ h. rw (set_out S i (v ∷ []) (omega (arith, F.long)), past h) (sym (sole (rw (past h) at m))))

draw_drawn : (fs : List (State → ℕ)) (S : Sets) → Full S → (e : State) → Among e (draw S fs) → Drawn S e
unfolding draw
draw_drawn [] S F e m = rw (Memᴰ.eq_of_singleton m) (heads_drawn S F)
draw_drawn (f ∷ fs) S F e m =
    let i = f (heads S) in
    let r = flat-among (λ v. draw (narrow S i v) fs) (values S i) m in
    let v = r.number in
    drawn_wide S i v e F r.listed (draw_drawn fs (narrow S i v) (narrow-full S i v F) e r.gives)

pub choices_drawn : (S : Sets) (l : Line) → Full S → (e : State) → Among e (choices S l) → Drawn S e
unfolding choices
choices_drawn S l F = draw_drawn (involved l) S F

-- ---- each drawn state has a choice that agrees with it

-- e agrees with s at some places
abbrev Agrees : State → List ℕ → State → Type 0
Agrees s places e = (i : ℕ) → In i places → get_or e i 0 ≡ get_or s i 0

-- s is drawn from S, whose sets at some places have the value of s alone
record Narrowed (s : State) (places : List ℕ) (S : Sets) : Type 0 where
  full : Full S
  drawn : Drawn S s
  alone : (i : ℕ) → In i places → values S i ≡ get_or s i 0 ∷ []

narrowed_agrees : (s : State) (places : List ℕ) (S : Sets) → Narrowed s places S → Agrees s places (heads S)
narrowed_agrees s places S N i m = heads_at S i ∙ ap (λ (xs : List ℕ). get_or xs 0 0) (N.alone i m)

-- and so at one place more, where that takes the value of s
module _ (s : State) (places : List ℕ) (S : Sets) (i : ℕ) (N : Narrowed s places S) where
  abbrev v : ℕ
  v = get_or s i 0

  narrow_drawn : Drawn (narrow S i v) s
  narrow_drawn = record { long = N.drawn.long; each = λ j g. go j g (ℕ_discrete j i) }
    where
      go : (j : ℕ) → j < state_size → Dec (j ≡ i) → In (get_or s j 0) (values (narrow S i v) j)
      go j g (no n) = rw (get_or-set_other S i j (v ∷ []) (0 ∷ []) n) (N.drawn.each j g)
      go j g (yes q) = rw (q, get_or-set_same S i (v ∷ []) (0 ∷ []) (omega (arith, N.full.long))) (inl refl)

  here : values (narrow S i v) i ≡ v ∷ []
  here =
      below i state_size (λ h. get_or-set_same S i (v ∷ []) (0 ∷ []) (omega (arith, N.full.long)))
      (λ h. get_or-eq_default (narrow S i v) (0 ∷ []) {n = i} (omega (arith, N.full.long, length-set S i (v ∷ [])))
      ∙ ap (λ (x : ℕ). x ∷ []) (sym (get_or-eq_default s 0 {n = i} (omega (arith, N.drawn.long)))))

  narrowed_put : Narrowed s (i ∷ places) (narrow S i v)
  narrowed_put = record { full = narrow-full S i v N.full; drawn = narrow_drawn; alone = λ j m. go j m (ℕ_discrete j i) }
    where
      go : (j : ℕ) → In j (i ∷ places) → Dec (j ≡ i) → values (narrow S i v) j ≡ get_or s j 0 ∷ []
      go j m (yes q) = rw q here
      go j (inl q) (no n) = absurd (n q)
      go j (inr m) (no n) = get_or-set_other S i j (v ∷ []) (0 ∷ []) n ∙ N.alone j m

-- the places that fs name in s, behind those before
abbrev named : State → List ℕ → List (State → ℕ) → List ℕ
named s places [] = places
named s places (f ∷ fs) = named s (f s ∷ places) fs

-- what each of fs names turns on the places before alone: it is what s names where they have the values of s
abbrev Led : State → List ℕ → List (State → ℕ) → Type 0
Led s places [] = Unit {0}
Led s places (f ∷ fs) = ((e : State) → Agrees s places e → f e ≡ f s) × Led s (f s ∷ places) fs

-- a draw that takes the values of s
draw_agrees : (s : State) (places : List ℕ) (fs : List (State → ℕ)) (S : Sets) → Narrowed s places S → Led s places fs
    → (c : State) × Among c (draw S fs) × Agrees s (named s places fs) c
unfolding draw
draw_agrees s places [] S N L = (heads S, Memᴰ.head refl, narrowed_agrees s places S N)
draw_agrees s places (f ∷ fs) S N L =
    let i = f s in
    let r = draw_agrees s (i ∷ places) fs (narrow S i (get_or s i 0)) (narrowed_put s places S i N) L.1 in
    (r.0, rw (L.0 (heads S) (narrowed_agrees s places S N)) (among-flat (λ v. draw (narrow S i v) fs) (values S i) (get_or s i 0) (drawn_in S N.full s N.drawn i) r.1), r.2)

-- ---- what a line reads

pub place_by : (o : Operand) (e s : State) → get_or e (base o) 0 ≡ get_or s (base o) 0 → place o e ≡ place o s
unfolding place base
place_by Empty e s h = refl
place_by (Literal n) e s h = refl
place_by (Register n) e s h = refl
place_by (Cell n) e s h = refl
place_by (PublicCell r k) e s h = rw h
place_by (SensitiveCell r k) e s h = rw h
place_by (TableCell r k) e s h = rw h

pub address_by_lem : (o : Operand) (e s : State) → get_or e (base o) 0 ≡ get_or s (base o) 0 → address o e ≡ address o s
unfolding address base
address_by_lem Empty e s h = refl
address_by_lem (Literal n) e s h = refl
address_by_lem (Register n) e s h = refl
address_by_lem (Cell n) e s h = refl
address_by_lem (PublicCell r k) e s h = rw h
address_by_lem (SensitiveCell r k) e s h = rw h
address_by_lem (TableCell r k) e s h = rw h

-- an argument is told by what the byte at its place means
pub argument_by : (m : Mark) (o : Operand) (e s : State) → meaning m (kind_of o) (get_or e (place o e) 0) ≡ meaning m (kind_of o) (get_or s (place o s) 0)
    → argument m o e ≡ argument m o s
unfolding argument value
argument_by m Empty e s h = refl
argument_by m (Literal n) e s h = refl
argument_by m (Register n) e s h = h
argument_by m (Cell n) e s h = h
argument_by m (PublicCell r k) e s h = h
argument_by m (SensitiveCell r k) e s h = h
argument_by m (TableCell r k) e s h = h

-- and so by that byte
pub argument_byte : (m : Mark) (o : Operand) (e s : State) → get_or e (place o e) 0 ≡ get_or s (place o s) 0 → argument m o e ≡ argument m o s
argument_byte m o e s h = argument_by m o e s (ap (meaning m (kind_of o)) h)

-- e and s have the same value at the base of an operand, and at its place
record ReadsAs (o : Operand) (e s : State) : Type 0 where
  through : get_or e (base o) 0 ≡ get_or s (base o) 0
  byte : get_or e (place o e) 0 ≡ get_or s (place o s) 0

-- and so at all places that a line involves
record Meets (l : Line) (e s : State) : Type 0 where
  first : ReadsAs l.first e s
  second : ReadsAs l.second e s
  destination : ReadsAs l.destination e s

meets-result : (l : Line) (e s : State) → Meets l e s → result l e ≡ result l s
unfolding result
meets-result l e s M = rw (argument_byte l.mark l.first e s M.first.byte, argument_byte l.mark l.second e s M.second.byte)

meets-row : (l : Line) (k : ℕ) (e s : State) (b : ℕ) → Meets l e s → row l k e b ≡ row l k s b
unfolding row distances on_bus
meets-row l k e s b M =
    rw (
      meets-result l e s M,
      M.destination.byte,
      address_by_lem l.first e s M.first.through,
      address_by_lem l.second e s M.second.through,
      address_by_lem l.destination e s M.destination.through,
    )

meets_bus : (l : Line) (e s : State) (b : ℕ) → Meets l e s → bus_after l e b ≡ bus_after l s b
unfolding bus_after on_bus
meets_bus l e s b M =
    rw (
      address_by_lem l.first e s M.first.through,
      address_by_lem l.second e s M.second.through,
      address_by_lem l.destination e s M.destination.through,
    )

agrees_reads : (s : State) (places : List ℕ) (e : State) (o : Operand) → Agrees s places e → In (base o) places → In (place o s) places → ReadsAs o e s
agrees_reads s places e o A b p = record { through = A (base o) b; byte = rw (place_by o e s (A (base o) b)) (A (place o s) p) }

-- a choice that meets a drawn state: the bases are the same in all states, and their values lead to the places
choice_of : (S : Sets) (l : Line) (s : State) → Full S → Drawn S s → (e : State) × Among e (choices S l) × Meets l e s
unfolding choices involved
choice_of S l s F D =
    let a = l.first in
    let b = l.second in
    let d = l.destination in
    let none : Narrowed s [] S = record { full = F; drawn = D; alone = λ i m. absurd m } in
    let led : Led s [] (involved l) = (
      λ e A. refl,
      (λ e A. place_by a e s (A (base a) (inl refl)), (λ e A. refl, (λ e A. place_by b e s (A (base b) (inl refl)), (λ e A. refl, (λ e A. place_by d e s (A (base d) (inl refl)), tt))))),
    ) in
    let c = draw_agrees s [] (involved l) S none led in
    let all = named s [] (involved l) in (
      c.0,
      c.1,
      record {
        first = agrees_reads s all c.0 a c.2 (inr (inr (inr (inr (inr (inl refl)))))) (inr (inr (inr (inr (inl refl)))));
        second = agrees_reads s all c.0 b c.2 (inr (inr (inr (inl refl)))) (inr (inr (inl refl)));
        destination = agrees_reads s all c.0 d c.2 (inr (inl refl)) (inl refl);
      },
    )

-- ---- results

pub in_written : (S : Sets) (l : Line) (s : State) → Full S → Drawn S s → In (result l s) (written S l)
unfolding written
in_written S l s F D =
    let c = choice_of S l s F D in
    in_distinct (result l s) (map (result l) (choices S l)) (rw (meets-result l c.0 s c.2) at (mem_in (Memᴰ.map (result l) c.1)))

pub written_in : (S : Sets) (l : Line) (x : ℕ) → Full S → In x (written S l) → (s : State) × Drawn S s × (x ≡ result l s)
unfolding written
written_in S l x F m =
    let r = Memᴰ.of_map (result l) (choices S l) (in_mem x (map (result l) (choices S l)) (distinct_in x (map (result l) (choices S l)) m)) in
    (r.0, choices_drawn S l F r.0 r.1, sym r.2)

pub written_once : (S : Sets) (l : Line) → Once (written S l)
unfolding written
written_once S l = once_distinct (map (result l) (choices S l))

-- ---- the bus

pub in_buses : (S : Sets) (bus : List ℕ) (l : Line) (s : State) (b : ℕ) → Full S → Drawn S s → In b bus → In (bus_after l s b) (buses S bus l)
unfolding buses
in_buses S bus l s b F D m =
    let c = choice_of S l s F D in
    let g : ℕ → List ℕ = λ b. map (λ s. bus_after l s b) (choices S l) in
    in_distinct (bus_after l s b) (flat_map g bus)
    (mem_in (among-flat g bus b m (rw (meets_bus l c.0 s b c.2) at (Memᴰ.map (λ (s : State). bus_after l s b) c.1))))

pub buses_in : (S : Sets) (bus : List ℕ) (l : Line) (x : ℕ) → Full S → In x (buses S bus l) → (s : State) × (b : ℕ) × Drawn S s × In b bus × (x ≡ bus_after l s b)
unfolding buses
buses_in S bus l x F m =
    let g : ℕ → List ℕ = λ b. map (λ s. bus_after l s b) (choices S l) in
    let from = flat-among g bus (in_mem x (flat_map g bus) (distinct_in x (flat_map g bus) m)) in
    let r = Memᴰ.of_map (λ (s : State). bus_after l s from.number) (choices S l) from.gives in
    (r.0, from.number, choices_drawn S l F r.0 r.1, from.listed, sym r.2)

pub buses_once : (S : Sets) (bus : List ℕ) (l : Line) → Once (buses S bus l)
unfolding buses
buses_once S bus l = once_distinct (flat_map (λ b. map (λ s. bus_after l s b) (choices S l)) bus)

-- ---- rows

-- by whether two rows are the same
by_row : (P : Bool → Type 0) (r q : Row) → (r ≡ q → P true) → ((r ≡ q → ⊥) → P false) → P (same_row r q)
unfolding same_row
by_row P [] [] f g = f refl
by_row P [] (y ∷ q) f g = g (λ e. omega (arith, ap length e))
by_row P (x ∷ r) [] f g = g (λ e. omega (arith, ap length e))
by_row P (x ∷ r) (y ∷ q) f g = go (λ f g. by_row P r q f g) (eqb x y) refl
  where
    go : ((r ≡ q → P true) → ((r ≡ q → ⊥) → P false) → P (same_row r q)) → (b : Bool) → eqb x y ≡ b → P (b && same_row r q)
    go rest true e = rest (λ p. f (ap₂ (λ (n : ℕ) (t : Row). n ∷ t) (eqb-true x y e) p)) (λ n. g (λ p. n (cc)))
    go rest false e = g (λ p. eqb-false x y e (cc))

-- by whether all states show a row, or one shows another
pub by_show : (P : Bool → Type 0) (l : Line) (k : ℕ) (r : Row) (b : ℕ) (ss : List State)
    → (((e : State) → Among e ss → r ≡ row l k e b) → P true) → ((e : State) → Among e ss → (r ≡ row l k e b → ⊥) → P false) → P (all_show l k r b ss)
unfolding all_show
by_show P l k r b [] f g = f (λ e m. absurd (Memᴰ.not-nil m))
by_show P l k r b (s ∷ ss) f g =
    by_row (λ c. P (c && all_show l k r b ss)) r (row l k s b)
    (λ p. by_show P l k r b ss (λ all. f (λ e m. go p all e (Memᴰ.cases_cons m))) (λ e m n. g e (Memᴰ.tail m) n))
    (λ n. g s (Memᴰ.head refl) n)
  where
    go : r ≡ row l k s b → ((e : State) → Among e ss → r ≡ row l k e b) → (e : State) → (e ≡ s) ⊎ Among e ss → r ≡ row l k e b
    go p all e (inl q) = rw q p
    go p all e (inr m) = all e m

-- and so with each value on the bus
by_buses : (P : Bool → Type 0) (l : Line) (k : ℕ) (r : Row) (bs : List ℕ) (ss : List State)
    → (((e : State) (b : ℕ) → Among e ss → In b bs → r ≡ row l k e b) → P true)
    → ((e : State) (b : ℕ) → Among e ss → In b bs → (r ≡ row l k e b → ⊥) → P false) → P (all_buses l k r bs ss)
unfolding all_buses
by_buses P l k r [] ss f g = f (λ e b m h. absurd h)
by_buses P l k r (c ∷ bs) ss f g =
    by_show (λ t. P (t && all_buses l k r bs ss)) l k r c ss
    (λ here. by_buses P l k r bs ss (λ all. f (λ e b m h. go here all e b m h)) (λ e b m h n. g e b m (inr h) n))
    (λ e m n. g e c m (inl refl) n)
  where
    go : ((e : State) → Among e ss → r ≡ row l k e c) → ((e : State) (b : ℕ) → Among e ss → In b bs → r ≡ row l k e b)
        → (e : State) (b : ℕ) → Among e ss → (b ≡ c) ⊎ In b bs → r ≡ row l k e b
    go here all e b m (inl q) = rw q (here e m)
    go here all e b m (inr h) = all e b m h

-- by whether all drawn states show the row of the first values, with each value on the bus, or one shows another
pub by_steady : (P : Bool → Type 0) (S : Sets) (bus : List ℕ) (l : Line) (k : ℕ) → Full S
    → (((s : State) (b : ℕ) → Drawn S s → In b bus → row l k (heads S) (get_or bus 0 0) ≡ row l k s b) → P true)
    → ((s : State) (b : ℕ) → Drawn S s → In b bus → (row l k (heads S) (get_or bus 0 0) ≡ row l k s b → ⊥) → P false) → P (steady S bus l k)
unfolding steady
by_steady P S bus l k F f g =
    by_buses P l k (row l k (heads S) (get_or bus 0 0)) bus (choices S l)
    (λ all. f (λ s b D m. let c = choice_of S l s F D in all c.0 b c.1 m ∙ meets-row l k c.0 s b c.2))
    (λ e b m h. g e b (choices_drawn S l F e m) h)

pub steady-row : (S : Sets) (bus : List ℕ) (l : Line) (k : ℕ) (s : State) (b : ℕ) → Full S → Drawn S s → In b bus → T (steady S bus l k)
    → row l k (heads S) (get_or bus 0 0) ≡ row l k s b
steady-row S bus l k s b F D m =
    by_steady (λ c. T c → row l k (heads S) (get_or bus 0 0) ≡ row l k s b) S bus l k F (λ all t. all s b D m) (λ e b E m n t. absurd t)
