-- Loops, one turn at a time: what is left decides as the whole does.
-- Assumes nothing.
use mathlib.Core.Path.{◌≡◌, sym, ap, ◌∙◌}
use mathlib.Core.Bool.{Bool, true, false, ◌&&◌}
use mathlib.Core.List.{List}
use Prim.Native.Nat.{ℕ, suc, ◌+◌, ◌*◌, ◌-◌, ◌≤◌, ◌<◌}
use native.Mathlib.Numerals.{add-one}
use native.Mathlib.Omega.{arith}
use borrow.Author.Tests.{eq-eqb, ne_eqb, lt-ltb, le-leb, lt-leb}
use lib.Dec.{ltb, leb}
use lib.ListN.{length, get_or, drop, drop_of_length-le}
use lib.Seq.{drop-cons, drop-drop, get_or-drop}
use Rattle.model.specs.Limits.{state_size}
use Rattle.model.specs.Step.{Row, distance}
use Rattle.sets.specs.Walk.{max_values, set_width, sized, member, insert, insert_all, same_row}
use Rattle.choices.specs.Gathering.{all_at}
use Rattle.choices.specs.Bus.{all_met}

-- ---- the values of a list

module _ (xs : List ℕ) (j : ℕ) where
  -- whether x is among them
  module _ (x : ℕ) where
    pub none_over : length xs ≤ j → member x (drop j xs) ≡ false
    unfolding member
    none_over h = rw (drop_of_length-le xs h)

    pub none_next : j < length xs → (get_or xs j 0 ≡ x → ⊥) → member x (drop j xs) ≡ member x (drop (j + 1) xs)
    unfolding member
    none_next h e = rw (drop-cons xs j 0 h, ne_eqb x (get_or xs j 0) (λ q. e (sym q)), add-one j)

    pub one_there : j < length xs → get_or xs j 0 ≡ x → member x (drop j xs) ≡ true
    unfolding member
    one_there h e = rw (drop-cons xs j 0 h, eq-eqb x (get_or xs j 0) (sym e))

  -- whether all are at the distance d from x
  module _ (d x : ℕ) where
    pub all_over : length xs ≤ j → all_at d x (drop j xs) ≡ true
    unfolding all_at
    all_over h = rw (drop_of_length-le xs h)

    pub all_next : j < length xs → distance (get_or xs j 0) x ≡ d → all_at d x (drop j xs) ≡ all_at d x (drop (j + 1) xs)
    unfolding all_at
    all_next h e = rw (drop-cons xs j 0 h, eq-eqb d (distance (get_or xs j 0) x) (sym e), add-one j)

    pub one_off : j < length xs → (distance (get_or xs j 0) x ≡ d → ⊥) → all_at d x (drop j xs) ≡ false
    unfolding all_at
    one_off h e = rw (drop-cons xs j 0 h, ne_eqb d (distance (get_or xs j 0) x) (λ q. e (sym q)))

  -- whether each is at the distance d from all values of the bus
  module _ (d : ℕ) (bus : List ℕ) where
    pub met_over : length xs ≤ j → all_met d bus (drop j xs) ≡ true
    unfolding all_met
    met_over h = rw (drop_of_length-le xs h)

    pub met_next : j < length xs → all_at d (get_or xs j 0) bus ≡ true → all_met d bus (drop j xs) ≡ all_met d bus (drop (j + 1) xs)
    unfolding all_met
    met_next h e = rw (drop-cons xs j 0 h, e, add-one j)

    pub not_met : j < length xs → all_at d (get_or xs j 0) bus ≡ false → all_met d bus (drop j xs) ≡ false
    unfolding all_met
    not_met h e = rw (drop-cons xs j 0 h, e)

  -- each put behind the others, where it is new
  module _ (ys : List ℕ) where
    pub put-over : length xs ≤ j → insert_all ys (drop j xs) ≡ ys
    unfolding insert_all
    put-over h = rw (drop_of_length-le xs h)

    pub put_next : j < length xs → insert_all ys (drop j xs) ≡ insert_all (insert ys (get_or xs j 0)) (drop (j + 1) xs)
    unfolding insert_all
    put_next h = rw (drop-cons xs j 0 h, add-one j)

-- ---- two rows

module _ (a b : Row) (i : ℕ) where
  pub rows_over : length a ≤ i → length b ≤ i → same_row (drop i a) (drop i b) ≡ true
  unfolding same_row
  rows_over h g = rw (drop_of_length-le a h, drop_of_length-le b g)

  pub rows_next : i < length a → i < length b → get_or a i 0 ≡ get_or b i 0 → same_row (drop i a) (drop i b) ≡ same_row (drop (i + 1) a) (drop (i + 1) b)
  unfolding same_row
  rows_next h g e = rw (drop-cons a i 0 h, drop-cons b i 0 g, eq-eqb (get_or a i 0) (get_or b i 0) e, add-one i)

  pub rows_not : i < length a → i < length b → (get_or a i 0 ≡ get_or b i 0 → ⊥) → same_row (drop i a) (drop i b) ≡ false
  unfolding same_row
  rows_not h g e = rw (drop-cons a i 0 h, drop-cons b i 0 g, ne_eqb (get_or a i 0) (get_or b i 0) e)

-- ---- the counts of all sets

module _ (b : List ℕ) (i : ℕ) where
  abbrev left : Bool
  left = sized (state_size - i) (drop (set_width * i) b)

  pub sized-over : state_size ≤ i → left ≡ true
  unfolding sized
  sized-over h = let z : state_size - i ≡ 0 = omega arith in rw z

  abbrev count : ℕ
  count = get_or b (set_width * i) 0

  count_left : get_or (drop (set_width * i) b) 0 0 ≡ count
  count_left = let z : set_width * i + 0 ≡ set_width * i = omega arith in get_or-drop (set_width * i) b 0 0 ∙ ap (λ (k : ℕ). get_or b k 0) z

  one_left : i < state_size → left ≡ ltb 0 count && leb count max_values && sized (state_size - (i + 1)) (drop (set_width * (i + 1)) b)
  unfolding sized
  one_left h =
      let z : state_size - i ≡ suc (state_size - (i + 1)) = omega arith in
      let w : set_width * i + set_width ≡ set_width * (i + 1) = omega arith in
      rw (z, count_left, drop-drop set_width (set_width * i) b, w)

  pub sized_empty : i < state_size → count ≡ 0 → left ≡ false
  sized_empty h e = one_left h ∙ rw e

  pub sized_long : i < state_size → max_values < count → left ≡ false
  sized_long h g = one_left h ∙ rw (lt-ltb 0 count (omega arith), lt-leb count max_values g)

  pub sized-next : i < state_size → (count ≡ 0 → ⊥) → count ≤ max_values → left ≡ sized (state_size - (i + 1)) (drop (set_width * (i + 1)) b)
  sized-next h n g = one_left h ∙ rw (lt-ltb 0 count (omega (arith, n)), le-leb count max_values g)
