-- What two loops keep true: the one over the values of a place, and the one over the places. Assumes nothing.
use mathlib.Core.Path.{◌≡◌}
use mathlib.Core.List.{List, map}
use Prim.Native.Nat.{ℕ, suc, ◌≤◌, ◌<◌}
use lib.ListN.{length, get_or, drop}
use Rattle.model.specs.Limits.{state_size}
use Rattle.model.specs.Places.{State}
use Rattle.sets.specs.Walk.{set_width, listed, lists_of, sets_of, values, insert_all, distinct}

-- what the values of place i mean by f
abbrev pub meant : (ℕ → ℕ) → List ℕ → ℕ → List ℕ
meant f b i = map f (values (lists_of b) i)

-- of these values the first j were noted in the bytes f
pub record Noted (vs f : List ℕ) (j : ℕ) : Type 0 where
  pub long : length f ≡ suc set_width
  pub count : get_or f 0 0 ≤ set_width
  pub few_noted : length (listed f) ≤ j
  pub same : insert_all (listed f) (drop j vs) ≡ distinct vs

-- the first i places have their sets and first values
pub record Took (b own : List ℕ) (s : State) (i : ℕ) : Type 0 where
  pub long : length s ≡ state_size
  pub lists : (m : ℕ) → m < i → values (lists_of own) m ≡ values (sets_of b) m
  pub first_values : (m : ℕ) → m < i → get_or s m 0 ≡ get_or (values (sets_of b) m) 0 0
