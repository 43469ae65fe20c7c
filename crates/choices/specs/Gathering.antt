-- What the code gathers at the choices of a line, one after the other. Nothing here is for a reader of the promise: proofs/Gathered and
-- proofs/Turns tie it to the walk's definitions. Assumes nothing.
use Rattle.std.specs.Prelude.{◌≡◌, Bool, true, not, cond, ◌&&◌, ◌||◌, List, [], ◌∷◌, ℕ, ◌+◌, ◌*◌, ◌<◌, ◌≤◌, T, eqb, ltb, length, get_or, set, drop}
use Rattle.model.specs.declared.Line.{Line}
use Rattle.model.specs.Limits.{state_size}
use Rattle.model.specs.Places.{State}
use Rattle.model.specs.Step.{Row, row, result, distance}
use Rattle.model.specs.Stored.{line_of}
use Rattle.sets.specs.Walk.{Sets, max_values, set_width, insert, several, values, heads, base, involved, draw, same_row}

-- the line of six numbers
abbrev pub line_by : List ℕ → Line
line_by n = line_of (get_or n 0 0) (get_or n 1 0) (get_or n 2 0) (get_or n 3 0) (get_or n 4 0) (get_or n 5 0)

-- the arguments are the first four places that a line involves
abbrev pub argument_places : ℕ
argument_places = 4

-- place number `level` of those that a line involves
unfoldable pub spot : Line → ℕ → State → ℕ
unfolding involved
spot l level = get_or (involved l) level (λ s. state_size)

-- the distinct results so far; whether a row was another than the first; the first row
pub record Gathered : Type 0 where
  pub results : List ℕ
  pub leak : Bool
  pub row : Row

abbrev pub gathered : List ℕ → Bool → Row → Gathered
gathered results leak row = record { results = results; leak = leak; row = row }

-- the first row, where r is that of a choice
abbrev pub first_row : Gathered → Row → Row
first_row g r = cond (eqb (length g.results) 0) r g.row

-- a choice more: its result, and whether its row is the first; at a result too many nothing more is looked at
unfoldable pub noted : Gathered → ℕ → Bool → Row → Gathered
unfolding insert
noted g x same r =
    cond (ltb max_values (length g.results)) g
    (cond (ltb max_values (length (insert g.results x))) (gathered (insert g.results x) g.leak r)
    (gathered (insert g.results x) (g.leak || not same) r))

-- rows are those of a bus that holds 0: what it may hold is looked at apart (specs/Bus)
unfoldable pub visited : Line → ℕ → Gathered → State → Gathered
unfolding noted result row same_row
visited l k g s = noted g (result l s) (same_row (first_row g (row l k s 0)) (row l k s 0)) (first_row g (row l k s 0))

-- choices, in their order
unfoldable pub visited_all : Line → ℕ → Gathered → List State → Gathered
unfolding visited
visited_all l k g [] = g
visited_all l k g (s ∷ ss) = visited_all l k (visited l k g s) ss

-- where a line's places before number `level` and its destination's base have one value each, and every place has some
pub record Settled (S : Sets) (l : Line) (level : ℕ) : Type 0 where
  pub some_in : (i : ℕ) → 0 < length (values S i)
  pub aim : T (not (several (values S (base l.destination))))
  pub below : (j : ℕ) → j < level → T (not (several (values S (spot l j (heads S)))))

-- the next of a line's places, from number `level` on, that has several values: its number, or that past the arguments', and itself
pub record Opens (S : Sets) (l : Line) (level k at : ℕ) : Type 0 where
  pub least : level ≤ k
  pub most : k ≤ argument_places
  pub same : draw S (drop level (involved l)) ≡ draw S (drop k (involved l))
  pub settled : Settled S l k
  pub here : k < argument_places → (at ≡ spot l k (heads S)) × T (several (values S at))

-- bytes of sets where those of place i begin with a count and a value
abbrev pub begun : List ℕ → ℕ → ℕ → ℕ → List ℕ
begun b i count value = set (set b (set_width * i) count) (set_width * i + 1) value

-- whether all old values are at that distance from a result
unfoldable pub all_at : ℕ → ℕ → List ℕ → Bool
unfolding distance
all_at d x [] = true
all_at d x (v ∷ vs) = eqb d (distance v x) && all_at d x vs

-- whether a row q is the row r but for the distance of the write, and all old values are at that distance of r from a result
abbrev pub alike : Row → Row → ℕ → List ℕ → Bool
alike r q x vs = same_row r (set q 2 (get_or r 2 0)) && all_at (get_or r 2 0) x vs

-- what was gathered at all choices tells of their results xs, and of a leak
abbrev pub Tells : Gathered → List ℕ → Bool → Type 0
Tells g xs leak = cond (ltb max_values (length g.results)) (max_values < length xs) ((g.results ≡ xs) × (length xs ≤ max_values) × (g.leak ≡ leak))
