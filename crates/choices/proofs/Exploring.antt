-- How the choices are gone through: a place of one value need not be drawn, one of several is narrowed to each in turn, and of the
-- destination's old values only the distance turns on which it is.
-- Assumes nothing.
use mathlib.Core.Path.{◌≡◌, refl, sym, ap, ap₂, ◌∙◌}
use mathlib.Core.Bool.{Bool, true, false, not, cond, ◌&&◌}
use mathlib.Core.List.Memᴰ
use mathlib.Core.List.{List, [], ◌∷◌, ◌++◌, map, flat_map, append-nil}
use mathlib.Core.Logic.{◌⊎◌, inl, inr}
use Prim.Native.Nat.{ℕ, zero, suc, ◌+◌, ◌≤◌, ◌<◌}
use native.Mathlib.Numerals.{add-one}
use native.Mathlib.Omega.{arith}
use borrow.Author.Tests.{ltb-true, eq-eqb, ne_eqb}
use lib.Dec.{T, eqb, ltb, ltb→lt, nltb→le}
use lib.ListN.{length, get_or, set, drop, length-map, get_or-eq_default}
use lib.Seq.{drop-cons, set-get_or, get_or-set_same, get_or-set_other}
use Rattle.model.specs.declared.Operand.{Operand}
use Rattle.model.specs.declared.Line.{Line}
use Rattle.model.specs.Limits.{state_size}
use Rattle.model.specs.Places.{State, place}
use Rattle.model.specs.Step.{Row, row, result, argument, alu, distance, on_bus, distances}
use Rattle.model.proofs.TestLaws.{below}
use Rattle.sets.specs.Walk.{Sets, max_values, insert, several, values, heads, base, draw, involved, same_row, all_show}
use Rattle.sets.specs.Claims.{In}
use Rattle.choices.specs.Gathering.{Gathered, first_row, noted, visited, visited_all, all_at, spot, argument_places, Settled}
use Rattle.sets.proofs.Members.{first_in, in_some, mem_in, by_member, in_insert, settled}
use Rattle.sets.proofs.DrawnStates.{Among, heads_at, place_by, address_by_lem, argument_byte}
use Rattle.choices.proofs.Gathered.{Some, some_put, or_not_and, and_true}

-- ---- narrowed sets

map-set : {A B : Type 0} (f : A → B) (l : List A) (i : ℕ) (y : A) → map f (set l i y) ≡ set (map f l) i (f y)
map-set f [] i y = refl
map-set f (x ∷ l) zero y = refl
map-set f (x ∷ l) (suc i) y = ap (λ (t : List _). f x ∷ t) (map-set f l i y)

pub heads-put : (S : Sets) (i : ℕ) (xs : List ℕ) → heads (set S i xs) ≡ set (heads S) i (get_or xs 0 0)
heads-put S i xs = map-set (λ xs. get_or xs 0 0) S i xs

-- a place has one value
one_listed : (xs : List ℕ) → 0 < length xs → T (not (several xs)) → xs ≡ get_or xs 0 0 ∷ []
one_listed [] h t = absurd (omega arith)
one_listed (x ∷ []) h t = refl
one_listed (x ∷ y ∷ xs) h t = absurd (omega (arith, nltb→le 1 (length (x ∷ y ∷ xs)) t))

-- so it need not be drawn
pub skip : (S : Sets) (f : State → ℕ) (fs : List (State → ℕ)) → Some S → T (not (several (values S (f (heads S))))) → draw S (f ∷ fs) ≡ draw S fs
unfolding draw flat_map
skip S f fs h t =
    let i = f (heads S) in
    let e : values S i ≡ get_or (values S i) 0 0 ∷ [] = one_listed (values S i) (h i) t in
    let same : set S i (get_or (values S i) 0 0 ∷ []) ≡ S = ap (set S i) (sym e) ∙ set-get_or S i (0 ∷ []) in
    ap (flat_map (λ v. draw (set S i (v ∷ [])) fs)) e ∙ append-nil (draw (set S i (get_or (values S i) 0 0 ∷ [])) fs) ∙ ap (λ (R : Sets). draw R fs) same

-- past the last place there is one value
pub several_within : (S : Sets) (i : ℕ) → length S ≡ state_size → T (several (values S i)) → i < state_size
several_within S i e t = below i state_size (λ h. h) (λ h. absurd (none (get_or-eq_default S (0 ∷ []) {n = i} (omega arith))))
  where
    none : values S i ≡ 0 ∷ [] → ⊥
    none q = omega (arith, ltb→lt 1 (length (values S i)) t, ap length q)

apart : (S : Sets) (i q : ℕ) → T (not (several (values S i))) → T (several (values S q)) → i ≡ q → ⊥
apart S i q n t e = omega (arith, nltb→le 1 (length (values S i)) n, ltb→lt 1 (length (values S q)) t, ap (λ (j : ℕ). length (values S j)) e)

-- ---- a place of the arguments

first_drawn : (S : Sets) (fs : List (State → ℕ)) (level : ℕ) → level < length fs
    → draw S (drop level fs) ≡ flat_map (λ v. draw (set S (get_or fs level (λ s. state_size) (heads S)) (v ∷ [])) (drop (level + 1) fs)) (values S (get_or fs level (λ s. state_size) (heads S)))
unfolding draw
first_drawn S fs level h = rw (drop-cons fs level (λ s. state_size) h, add-one level)

-- the choices once v stands at a place, and at the places after it
abbrev pub from : Sets → Line → ℕ → ℕ → ℕ → List State
from S l level at v = draw (set S at (v ∷ [])) (drop (level + 1) (involved l))

pub at_place : (S : Sets) (l : Line) (level : ℕ) → level < argument_places → draw S (drop level (involved l)) ≡ flat_map (from S l level (spot l level (heads S))) (values S (spot l level (heads S)))
unfolding spot involved
at_place S l level h = first_drawn S (involved l) level (omega arith)

pub skip-place : (S : Sets) (l : Line) (level : ℕ) → level < argument_places → Some S → T (not (several (values S (spot l level (heads S)))))
    → draw S (drop level (involved l)) ≡ draw S (drop (level + 1) (involved l))
unfolding spot involved
skip-place S l level h g t = rw (drop-cons (involved l) level (λ s. state_size) (omega arith), add-one level) (skip S (get_or (involved l) level (λ s. state_size)) (drop (suc level) (involved l)) g t)

-- ---- what is settled

-- a place of several values, narrowed to one
module _ (S : Sets) (l : Line) (k at v : ℕ) (Z : Settled S l k) (lt : k < argument_places) (e : at ≡ spot l k (heads S)) (t : T (several (values S at))) (long : length S ≡ state_size) where
  abbrev narrowed : Sets
  narrowed = set S at (v ∷ [])

  -- the places before keep their values, so that they stay the same places
  kept : (i : ℕ) → T (not (several (values S i))) → get_or (heads narrowed) i 0 ≡ get_or (heads S) i 0
  kept i n = ap (λ (s : State). get_or s i 0) (heads-put S at (v ∷ [])) ∙ get_or-set_other (heads S) at i v 0 (apart S i at n t)

  spot-kept : (j : ℕ) → j ≤ k → spot l j (heads narrowed) ≡ spot l j (heads S)
  unfolding spot involved
  spot-kept zero h = refl
  spot-kept (suc zero) h = place_by l.first (heads narrowed) (heads S) (kept (base l.first) (Z.below 0 (omega arith)))
  spot-kept (suc (suc zero)) h = refl
  spot-kept (suc (suc (suc zero))) h = place_by l.second (heads narrowed) (heads S) (kept (base l.second) (Z.below 2 (omega arith)))
  spot-kept (suc (suc (suc (suc j)))) h = absurd (omega arith)

  one_put : (i : ℕ) → T (not (several (values S i))) ⊎ (i ≡ at) → T (not (several (values narrowed i)))
  one_put i (inl n) = rw (get_or-set_other S at i (v ∷ []) (0 ∷ []) (apart S i at n t)) n
  one_put i (inr q) = rw (q, get_or-set_same S at (v ∷ []) (0 ∷ []) (omega (arith, several_within S at long t))) tt

  pub settled_put : Settled narrowed l (k + 1)
  settled_put = record {
    some_in = some_put S at v Z.some_in;
    aim = one_put (base l.destination) (inl Z.aim);
    below = λ j h. rw (spot-kept j (omega arith)) (one_put (spot l j (heads S)) (below j k (λ g. inl (Z.below j g)) (λ g. inr (last j h g))));
  }
    where
      last : (j : ℕ) → j < k + 1 → k ≤ j → spot l j (heads S) ≡ at
      last j h g = let q : j ≡ k = omega arith in rw q (sym e)

-- a place of one value
pub settled_next : (S : Sets) (l : Line) (k : ℕ) → Settled S l k → T (not (several (values S (spot l k (heads S))))) → Settled S l (k + 1)
settled_next S l k Z n = record { some_in = Z.some_in; aim = Z.aim; below = λ j h. below j k (λ g. Z.below j g) (λ g. last j h g) }
  where
    last : (j : ℕ) → j < k + 1 → k ≤ j → T (not (several (values S (spot l j (heads S)))))
    last j h g = let q : j ≡ k = omega arith in rw q n

-- ---- the old values

and_comm : (a b : Bool) → a && b ≡ b && a
and_comm true b = sym (and_true b)
and_comm false true = refl
and_comm false false = refl

and_assoc : (a b c : Bool) → a && (b && c) ≡ (a && b) && c
and_assoc true b c = refl
and_assoc false b c = refl

-- what all have in common is tested once
and_both : (a b c : Bool) → (a && b) && (a && c) ≡ a && (b && c)
and_both true b c = refl
and_both false b c = refl

-- a row compared but for number i, and that number
row_but : (r q : Row) (i d : ℕ) → i < length r → i < length q → same_row r (set q i d) ≡ same_row r (set q i (get_or r i 0)) && eqb (get_or r i 0) d
unfolding same_row
row_but [] q i d h g = absurd (omega arith)
row_but (x ∷ r) [] i d h g = absurd (omega arith)
row_but (x ∷ r) (y ∷ q) zero d h g = rw (eq-eqb x x refl) (and_comm (eqb x d) (same_row r q))
row_but (x ∷ r) (y ∷ q) (suc i) d h g =
    ap (λ (b : Bool). eqb x y && b) (row_but r q i d (omega arith) (omega arith)) ∙ and_assoc (eqb x y) (same_row r (set q i (get_or r i 0))) (eqb (get_or r i 0) d)

-- states that write x, and whose row is q but for the distance, which turns on a value
module _ (l : Line) (k : ℕ) (st : ℕ → State) (x : ℕ) (q : Row) (long : 2 < length q) where
  record Old (v : ℕ) : Type 0 where
    writes : result l (st v) ≡ x
    shows : row l k (st v) 0 ≡ set q 2 (distance v x)

  abbrev alike : Row → List ℕ → Bool
  alike r vs = same_row r (set q 2 (get_or r 2 0)) && all_at (get_or r 2 0) x vs

  alike_show : (r : Row) → 2 < length r → (v : ℕ) (vs : List ℕ) → ((w : ℕ) → In w (v ∷ vs) → Old w) → all_show l k r 0 (map st (v ∷ vs)) ≡ alike r (v ∷ vs)
  unfolding all_show all_at
  alike_show r h v [] o =
      and_true (same_row r (row l k (st v) 0)) ∙ ap (same_row r) (o v (inl refl)).shows ∙ row_but r q 2 (distance v x) h long
      ∙ ap (λ (b : Bool). same_row r (set q 2 (get_or r 2 0)) && b) (sym (and_true (eqb (get_or r 2 0) (distance v x))))
  alike_show r h v (w ∷ vs) o =
      let first : same_row r (row l k (st v) 0) ≡ same_row r (set q 2 (get_or r 2 0)) && eqb (get_or r 2 0) (distance v x) = ap (same_row r) (o v (inl refl)).shows ∙ row_but r q 2 (distance v x) h long in
      ap₂ ◌&&◌ first (alike_show r h w vs (λ y m. o y (inr m))) ∙ and_both (same_row r (set q 2 (get_or r 2 0))) (eqb (get_or r 2 0) (distance v x)) (all_at (get_or r 2 0) x (w ∷ vs))

-- ---- states that write the same value

present : (x : ℕ) (xs : List ℕ) → In x xs → insert xs x ≡ xs
unfolding insert
present x xs m = by_member (λ b. cond b xs (xs ++ x ∷ []) ≡ xs) x xs (λ h. refl) (λ n. absurd (n m))

-- one noted again adds its row alone
noted_again : (g : Gathered) (x : ℕ) (a b : Bool) (r : Row) → noted (noted g x a r) x b r ≡ noted g x (a && b) r
unfolding noted
noted_again g x a b r = go (ltb max_values (length g.results)) refl (ltb max_values (length (insert g.results x))) refl
  where
    again : insert (insert g.results x) x ≡ insert g.results x
    again = present x (insert g.results x) (in_insert x x g.results (inr refl))

    go : (m : Bool) → ltb max_values (length g.results) ≡ m → (n : Bool) → ltb max_values (length (insert g.results x)) ≡ n → noted (noted g x a r) x b r ≡ noted g x (a && b) r
    go true e n f = rw (e, e)
    go false e true f = rw (e, f, f)
    go false e false f = rw (e, f, f, again, f, or_not_and g.leak a b)

-- where there are too many results already, r is the first row
abbrev First : Gathered → Row → Type 0
First g r = max_values < length g.results → g.row ≡ r

-- and so it is once one more is noted
first-noted : (g : Gathered) (x : ℕ) (a : Bool) (r q : Row) → First g r → first_row (noted g x a r) q ≡ r
unfolding noted
first-noted g x a r q h = go (ltb max_values (length g.results)) refl (ltb max_values (length (insert g.results x))) refl
  where
    some_there : eqb (length (insert g.results x)) 0 ≡ false
    some_there = ne_eqb (length (insert g.results x)) 0 (λ e. omega (arith, in_some x (insert g.results x) (in_insert x x g.results (inr refl))))

    go : (m : Bool) → ltb max_values (length g.results) ≡ m → (n : Bool) → ltb max_values (length (insert g.results x)) ≡ n → first_row (noted g x a r) q ≡ r
    go true e n f = let many = ltb-true max_values (length g.results) e in rw (e, ne_eqb (length g.results) 0 (λ z. omega arith)) (h many)
    go false e true f = rw (e, f, some_there)
    go false e false f = rw (e, f, some_there)

module _ (l : Line) (k x : ℕ) where
  visited_same : (g : Gathered) (a : Bool) (r : Row) (s : State) → First g r → result l s ≡ x → visited l k (noted g x a r) s ≡ noted g x (a && same_row r (row l k s 0)) r
  unfolding visited
  visited_same g a r s f e =
      ap₂ (λ (y : ℕ) (q : Row). noted (noted g x a r) y (same_row q (row l k s 0)) q) e (first-noted g x a r (row l k s 0) f)
      ∙ noted_again g x a (same_row r (row l k s 0)) r

  -- states that write x, after one that did
  same_results : (ss : List State) (g : Gathered) (a : Bool) (r : Row) → First g r → ((s : State) → Among s ss → result l s ≡ x)
      → visited_all l k (noted g x a r) ss ≡ noted g x (a && all_show l k r 0 ss) r
  unfolding visited_all all_show
  same_results [] g a r f w = ap (λ (b : Bool). noted g x b r) (sym (and_true a))
  same_results (s ∷ ss) g a r f w =
      ap (λ (y : Gathered). visited_all l k y ss) (visited_same g a r s f (w s (Memᴰ.head refl)))
      ∙ same_results ss g (a && same_row r (row l k s 0)) r f (λ u m. w u (Memᴰ.tail m))
      ∙ ap (λ (b : Bool). noted g x b r) (sym (and_assoc a (same_row r (row l k s 0)) (all_show l k r 0 ss)))

  -- and with the first of them
  all_same : (s : State) (ss : List State) (g : Gathered) → ((u : State) → Among u (s ∷ ss) → result l u ≡ x)
      → visited_all l k g (s ∷ ss) ≡ noted g x (all_show l k (first_row g (row l k s 0)) 0 (s ∷ ss)) (first_row g (row l k s 0))
  unfolding visited_all visited all_show
  all_same s ss g w =
      let r = first_row g (row l k s 0) in
      ap (λ (y : ℕ). visited_all l k (noted g y (same_row r (row l k s 0)) r) ss) (w s (Memᴰ.head refl))
      ∙ same_results ss g (same_row r (row l k s 0)) r (λ h. rw (ne_eqb (length g.results) 0 (λ z. omega arith)) refl) (λ u m. w u (Memᴰ.tail m))

-- ---- the choices that are left where the arguments have one value each

module _ (S : Sets) (l : Line) (k : ℕ) (Z : Settled S l argument_places) (long : length S ≡ state_size) where
  abbrev s : State
  s = heads S

  abbrev q : ℕ
  q = place l.destination s

  -- a destination of one value has the value that stands
  same_old : T (not (several (values S q))) → (v : ℕ) → In v (values S q) → set s q v ≡ s
  same_old n v m =
      let e : v ≡ get_or s q 0 = settled v (get_or s q 0) (values S q) n m (rw (heads_at S q) (first_in (values S q) (Z.some_in q))) in
      ap (set s q) e ∙ set-get_or s q 0

  -- where it has several it is neither an argument nor a base, so that the line reads the same whichever it has
  module _ (t : T (several (values S q))) (v : ℕ) where
    other : (i : ℕ) → T (not (several (values S i))) → get_or (set s q v) i 0 ≡ get_or s i 0
    other i n = get_or-set_other s q i v 0 (apart S i q n t)

    same_argument : (o : Operand) → T (not (several (values S (base o)))) → T (not (several (values S (place o s)))) → argument l.mark o (set s q v) ≡ argument l.mark o s
    same_argument o b p = argument_byte l.mark o (set s q v) s (rw (place_by o (set s q v) s (other (base o) b)) (other (place o s) p))

    one_of : (j : ℕ) → j < argument_places → T (not (several (values S (spot l j s))))
    one_of j h = Z.below j h

    same_result : result l (set s q v) ≡ result l s
    unfolding result spot involved
    same_result = ap₂ (alu l.mark l.opcode) (same_argument l.first (one_of 0 (omega arith)) (one_of 1 (omega arith))) (same_argument l.second (one_of 2 (omega arith)) (one_of 3 (omega arith)))

    old_there : get_or (set s q v) (place l.destination (set s q v)) 0 ≡ v
    old_there =
        rw (place_by l.destination (set s q v) s (other (base l.destination) Z.aim))
        (get_or-set_same s q v 0 (omega (arith, several_within S q long t, length-map S (λ xs. get_or xs 0 0))))

    other_row : row l k (set s q v) 0 ≡ set (row l k s 0) 2 (distance v (result l s))
    unfolding row distances on_bus spot involved
    other_row =
        rw (
          same_result,
          old_there,
          address_by_lem l.first (set s q v) s (other (base l.first) (one_of 0 (omega arith))),
          address_by_lem l.second (set s q v) s (other (base l.second) (one_of 2 (omega arith))),
          address_by_lem l.destination (set s q v) s (other (base l.destination) Z.aim),
        )
        refl

  own_row : (v : ℕ) → In v (values S q) → T (not (several (values S q))) → row l k s 0 ≡ set (row l k s 0) 2 (distance v (result l s))
  unfolding row
  own_row v m n =
      let e : v ≡ get_or s q 0 = settled v (get_or s q 0) (values S q) n m (rw (heads_at S q) (first_in (values S q) (Z.some_in q))) in
      rw e refl

  row_long : 2 < length (row l k s 0)
  unfolding row distances
  row_long = omega arith

  old : (v : ℕ) → In v (values S q) → Old l k (set s q) (result l s) (row l k s 0) row_long v
  old v m = go (several (values S q)) refl
    where
      go : (b : Bool) → several (values S q) ≡ b → Old l k (set s q) (result l s) (row l k s 0) row_long v
      go true e = let t : T (several (values S q)) = rw e tt in record { writes = same_result t v; shows = other_row t v }
      go false e =
          let n : T (not (several (values S q))) = rw e tt in
          record { writes = ap (result l) (same_old n v m); shows = ap (λ (u : State). row l k u 0) (same_old n v m) ∙ own_row v m n }

  -- each old value
  olds : (vs : List ℕ) → flat_map (λ v. heads (set S q (v ∷ [])) ∷ []) vs ≡ map (set s q) vs
  unfolding flat_map
  olds [] = refl
  olds (v ∷ vs) = ap₂ (λ (u : State) (us : List State). u ∷ us) (heads-put S q (v ∷ [])) (olds vs)

  left-choices : draw S (drop argument_places (involved l)) ≡ map (set s q) (values S q)
  unfolding involved draw
  left-choices = skip S (λ s. base l.destination) (place l.destination ∷ []) Z.some_in Z.aim ∙ olds (values S q)

  first_old : (vs : List ℕ) → values S q ≡ vs → 0 < length vs → (us : List ℕ) × (vs ≡ get_or s q 0 ∷ us)
  first_old [] e h = absurd (omega arith)
  first_old (v ∷ vs) e h = (vs, ap (λ (w : ℕ). w ∷ vs) (sym (heads_at S q ∙ ap (λ (xs : List ℕ). get_or xs 0 0) e)))

  -- all write the same, and their rows are compared by their distances
  pub left-visited : (g : Gathered) (r : Row) → r ≡ first_row g (row l k s 0) → 2 < length r
      → visited_all l k g (draw S (drop argument_places (involved l)))
      ≡ noted g (result l s) (same_row r (set (row l k s 0) 2 (get_or r 2 0)) && all_at (get_or r 2 0) (result l s) (values S q)) r
  left-visited g r e h = ap (visited_all l k g) left-choices ∙ go (first_old (values S q) refl (Z.some_in q))
    where
      writes : (vs : List ℕ) → ((v : ℕ) → In v vs → In v (values S q)) → (u : State) → Among u (map (set s q) vs) → result l u ≡ result l s
      writes vs w u m = let f = Memᴰ.of_map (set s q) vs m in ap (result l) (sym f.2) ∙ (old f.0 (w f.0 (mem_in f.1))).writes

      go : (us : List ℕ) × (values S q ≡ get_or s q 0 ∷ us)
          → visited_all l k g (map (set s q) (values S q)) ≡ noted g (result l s) (same_row r (set (row l k s 0) 2 (get_or r 2 0)) && all_at (get_or r 2 0) (result l s) (values S q)) r
      go c =
          let first : set s q (get_or s q 0) ≡ s = set-get_or s q 0 in
          let own : first_row g (row l k (set s q (get_or s q 0)) 0) ≡ r = ap (λ (u : State). first_row g (row l k u 0)) first ∙ sym e in
          let w : (v : ℕ) → In v (get_or s q 0 ∷ c.0) → In v (values S q) = λ v m. rw c.1 m in
          rw c.1
          (all_same l k (result l s) (set s q (get_or s q 0)) (map (set s q) c.0) g (writes (get_or s q 0 ∷ c.0) w)
          ∙ ap (λ (p : Row). noted g (result l s) (all_show l k p 0 (map (set s q) (get_or s q 0 ∷ c.0))) p) own
          ∙ ap (λ (b : Bool). noted g (result l s) b r) (alike_show l k (set s q) (result l s) (row l k s 0) row_long r h (get_or s q 0) c.0 (λ v m. old v (w v m))))

-- ---- what the search for the next open place keeps true: the places from number `level` up to k have one value each

pub record NoneOpen (S : Sets) (l : Line) (level k : ℕ) : Type 0 where
  pub least : level ≤ k
  pub most : k ≤ argument_places
  pub same : draw S (drop level (involved l)) ≡ draw S (drop k (involved l))
  pub settled : Settled S l k
