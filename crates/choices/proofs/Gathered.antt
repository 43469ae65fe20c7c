-- What is gathered at the choices one after the other is what the walk's definitions say: the distinct results where there are no more
-- than a set holds, and whether all rows are the first.
-- Assumes nothing.
use mathlib.Core.Path.{◌≡◌, refl, sym, ap, ◌∙◌}
use mathlib.Core.Bool.{Bool, true, false, not, cond, ◌&&◌, ◌||◌}
use mathlib.Core.List.{List, [], ◌∷◌, ◌++◌, map, flat_map}
use Prim.Native.Nat.{ℕ, suc, ◌+◌, ◌≤◌, ◌<◌}
use native.Mathlib.Numerals.{add-one}
use native.Mathlib.Decide.{ℕ_discrete}
use native.Mathlib.Omega.{arith}
use borrow.Author.Tests.{le-ltb, lt-ltb, ltb-true, ltb-false, eq-eqb, ne_eqb}
use lib.Dec.{ltb}
use lib.ListN.{length, get_or, set, drop, drop_of_length-le, length-append, get_or-eq_default}
use lib.Seq.{drop-cons, map-set_same, set_out, get_or-set_same, get_or-set_other}
use Rattle.model.specs.declared.Line.{Line}
use Rattle.model.specs.Limits.{state_size}
use Rattle.model.specs.Places.{State}
use Rattle.model.specs.Step.{Row, row, result}
use Rattle.model.proofs.TestLaws.{below}
use Rattle.sets.specs.Walk.{Sets, max_values, insert, insert_all, values, heads, draw, involved, choices, written, same_row, all_show, all_buses, steady, member}
use Rattle.sets.specs.Claims.{Full}
use Rattle.choices.specs.Gathering.{Gathered, gathered, noted, visited, visited_all, Tells}

-- ---- the fold

pub insert_grows : (xs : List ℕ) (y : ℕ) → (length xs ≤ length (insert xs y)) × (length (insert xs y) ≤ suc (length xs))
unfolding insert
insert_grows xs y = go (member y xs)
  where
    go : (b : Bool) → (length xs ≤ length (cond b xs (xs ++ y ∷ []))) × (length (cond b xs (xs ++ y ∷ [])) ≤ suc (length xs))
    go true = (omega arith, omega arith)
    go false = (omega (arith, length-append xs (y ∷ [])), omega (arith, length-append xs (y ∷ [])))

insert_some : (xs : List ℕ) (y : ℕ) → 0 < length (insert xs y)
unfolding insert member
insert_some [] y = omega arith
insert_some (x ∷ xs) y = omega (arith, (insert_grows (x ∷ xs) y).0)

all_grows : (xs ys : List ℕ) → length xs ≤ length (insert_all xs ys)
unfolding insert_all
all_grows xs [] = omega arith
all_grows xs (y ∷ ys) = omega (arith, (insert_grows xs y).0, all_grows (insert xs y) ys)

module _ (l : Line) (k : ℕ) where
  visited_many : (g : Gathered) (s : State) → max_values < length g.results → visited l k g s ≡ g
  unfolding visited noted
  visited_many g s h = rw (lt-ltb max_values (length g.results) h)

  -- once there are too many results nothing changes
  pub many_stays : (g : Gathered) (ss : List State) → max_values < length g.results → visited_all l k g ss ≡ g
  unfolding visited_all
  many_stays g [] h = refl
  many_stays g (s ∷ ss) h = ap (λ (x : Gathered). visited_all l k x ss) (visited_many g s h) ∙ many_stays g ss h

  visited-append : (g : Gathered) (a b : List State) → visited_all l k g (a ++ b) ≡ visited_all l k (visited_all l k g a) b
  unfolding visited_all
  visited-append g [] b = refl
  visited-append g (s ∷ a) b = visited-append (visited l k g s) a b

  -- the loop over the values of a place, value j being next
  pub one_value : (h : ℕ → List State) (vs : List ℕ) (j : ℕ) (g g' o : Gathered) → j < length vs → g' ≡ visited_all l k g (h (get_or vs j 0))
      → visited_all l k g (flat_map h (drop j vs)) ≡ o → visited_all l k g' (flat_map h (drop (j + 1) vs)) ≡ o
  unfolding flat_map
  one_value h vs j g g' o lt e q =
      rw (e, add-one j) (sym (visited-append g (h (get_or vs j 0)) (flat_map h (drop (suc j) vs))) ∙ ap (λ (xs : List ℕ). visited_all l k g (flat_map h xs)) (sym (drop-cons vs j 0 lt)) ∙ q)

  pub no_value : (h : ℕ → List State) (vs : List ℕ) (j : ℕ) (g o : Gathered) → length vs ≤ j → visited_all l k g (flat_map h (drop j vs)) ≡ o → g ≡ o
  unfolding flat_map visited_all
  no_value h vs j g o le q = ap (λ (xs : List ℕ). visited_all l k g (flat_map h xs)) (sym (drop_of_length-le vs le)) ∙ q

-- ---- what all choices tell

pub or_not_and : (a b c : Bool) → (a || not b) || not c ≡ a || not (b && c)
or_not_and true b c = refl
or_not_and false true c = refl
or_not_and false false c = refl

pub and_true : (a : Bool) → a && true ≡ a
and_true true = refl
and_true false = refl

or_not_true : (a : Bool) → a ≡ a || not true
or_not_true true = refl
or_not_true false = refl

pub same_row_lem : (r : Row) → same_row r r ≡ true
unfolding same_row
same_row_lem [] = refl
same_row_lem (x ∷ r) = rw (eq-eqb x x refl) (same_row_lem r)

module _ (l : Line) (k : ℕ) (r : Row) where
  visited_more : (xs : List ℕ) (leak : Bool) (s : State) → 0 < length xs → length xs ≤ max_values → visited l k (gathered xs leak r) s
      ≡ cond (ltb max_values (length (insert xs (result l s)))) (gathered (insert xs (result l s)) leak r) (gathered (insert xs (result l s)) (leak || not (same_row r (row l k s 0))) r)
  unfolding visited noted
  visited_more xs leak s g h = rw (le-ltb max_values (length xs) h, ne_eqb (length xs) 0 (λ e. omega arith))

  -- after the first, whose row is r
  tells_more : (ss : List State) (xs : List ℕ) (leak : Bool) → 0 < length xs → length xs ≤ max_values
      → Tells (visited_all l k (gathered xs leak r) ss) (insert_all xs (map (result l) ss)) (leak || not (all_show l k r 0 ss))
  unfolding visited_all insert_all all_show
  tells_more [] xs leak g h = rw (le-ltb max_values (length xs) h) (refl, h, or_not_true leak)
  tells_more (s ∷ ss) xs leak g h = go (λ leak h. tells_more ss (insert xs x) leak (insert_some xs x) h) (ltb max_values (length (insert xs x))) refl
    where
      x : ℕ
      x = result l s

      same : Bool
      same = same_row r (row l k s 0)

      go : ((leak : Bool) → length (insert xs x) ≤ max_values → Tells (visited_all l k (gathered (insert xs x) leak r) ss) (insert_all (insert xs x) (map (result l) ss)) (leak || not (all_show l k r 0 ss)))
          → (b : Bool) → ltb max_values (length (insert xs x)) ≡ b
          → Tells (visited_all l k (visited l k (gathered xs leak r) s) ss) (insert_all (insert xs x) (map (result l) ss)) (leak || not (same && all_show l k r 0 ss))
      go rest true e =
          let m = ltb-true max_values (length (insert xs x)) e in
          rw (visited_more xs leak s g h, e, many_stays l k (gathered (insert xs x) leak r) ss m, e) (omega (arith, all_grows (insert xs x) (map (result l) ss)))
      go rest false e = rw (visited_more xs leak s g h, e, ← or_not_and leak same (all_show l k r 0 ss)) (rest (leak || not same) (ltb-false max_values (length (insert xs x)) e))

-- the first choice gives the row
insert-first : (x : ℕ) → insert [] x ≡ x ∷ []
unfolding insert member
insert-first x = refl

first-visited : (l : Line) (k : ℕ) (r : Row) (s : State) → visited l k (gathered [] false r) s ≡ gathered (result l s ∷ []) false (row l k s 0)
unfolding visited noted
first-visited l k r s = rw (insert-first (result l s), same_row_lem (row l k s 0)) refl

first_tells : (l : Line) (k : ℕ) (r : Row) (s : State) (ss : List State)
    → Tells (visited_all l k (gathered [] false r) (s ∷ ss)) (insert_all [] (map (result l) (s ∷ ss))) (not (all_show l k (row l k s 0) 0 (s ∷ ss)))
unfolding visited_all insert_all all_show
first_tells l k r s ss =
    let g : visited_all l k (gathered [] false r) (s ∷ ss) ≡ visited_all l k (gathered (result l s ∷ []) false (row l k s 0)) ss = ap (λ (g : Gathered). visited_all l k g ss) (first-visited l k r s) in
    let xs : insert_all [] (map (result l) (s ∷ ss)) ≡ insert_all (result l s ∷ []) (map (result l) ss) = ap (λ (xs : List ℕ). insert_all xs (map (result l) ss)) (insert-first (result l s)) in
    let all : all_show l k (row l k s 0) 0 (s ∷ ss) ≡ all_show l k (row l k s 0) 0 ss = ap (λ (b : Bool). b && all_show l k (row l k s 0) 0 ss) (same_row_lem (row l k s 0)) in
    rw (g, xs, all) (tells_more l k (row l k s 0) ss (result l s ∷ []) false (omega arith) (omega arith))

-- ---- the first choice

-- every place has some value
abbrev pub Some : Sets → Type 0
Some S = (i : ℕ) → 0 < length (values S i)

pub full_some : (S : Sets) → Full S → Some S
full_some S F i = below i state_size (F.some_in i) (λ h. rw (get_or-eq_default S (0 ∷ []) {n = i} (omega (arith, F.long))) (omega arith))

pub some_put : (S : Sets) (i v : ℕ) → Some S → Some (set S i (v ∷ []))
some_put S i v h j = go (ℕ_discrete j i)
  where
    go : Dec (j ≡ i) → 0 < length (values (set S i (v ∷ [])) j)
    go (no n) = rw (get_or-set_other S i j (v ∷ []) (0 ∷ []) n) (h j)
    go (yes e) =
        below i (length S) (λ g. rw (e, get_or-set_same S i (v ∷ []) (0 ∷ []) g) (omega arith))
        (λ g. rw (set_out S i (v ∷ []) g) (h j))

-- is that of the first values
first_choice : (fs : List (State → ℕ)) (S : Sets) → Some S → (ss : List State) × (draw S fs ≡ heads S ∷ ss)
unfolding draw
first_choice [] S h = ([], refl)
first_choice (f ∷ fs) S h = go (λ S h. first_choice fs S h) (values S (f (heads S))) refl (h (f (heads S)))
  where
    i : ℕ
    i = f (heads S)

    go : ((S : Sets) → Some S → (ss : List State) × (draw S fs ≡ heads S ∷ ss))
        → (vs : List ℕ) → values S i ≡ vs → 0 < length vs → (ss : List State) × (flat_map (λ v. draw (set S i (v ∷ [])) fs) vs ≡ heads S ∷ ss)
    go rest [] e g = absurd (omega arith)
    go rest (v ∷ vs) e g =
        let r = rest (set S i (v ∷ [])) (some_put S i v h) in
        let same : heads (set S i (v ∷ [])) ≡ heads S = map-set_same (λ xs. get_or xs 0 0) S i (v ∷ []) (0 ∷ []) (ap (λ (xs : List ℕ). get_or xs 0 0) (sym e)) in
        (r.0 ++ flat_map (λ v. draw (set S i (v ∷ [])) fs) vs, rw (r.1, same) refl)

-- a walk's step is told of by what the choices gave, from nothing, where the bus holds 0
pub tells : (S : Sets) (l : Line) (k : ℕ) (r : Row) → Some S → Tells (visited_all l k (gathered [] false r) (choices S l)) (written S l) (not (steady S (0 ∷ []) l k))
unfolding choices written steady all_buses
tells S l k r h = rw (and_true (all_show l k (row l k (heads S) 0) 0 (draw S (involved l)))) (go (first_choice (involved l) S h))
  where
    go : (ss : List State) × (draw S (involved l) ≡ heads S ∷ ss)
        → Tells (visited_all l k (gathered [] false r) (draw S (involved l))) (insert_all [] (map (result l) (draw S (involved l)))) (not (all_show l k (row l k (heads S) 0) 0 (draw S (involved l))))
    go c = rw c.1 (first_tells l k r (heads S) c.0)
