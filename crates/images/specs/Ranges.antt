-- What may stand in a place of a state, and what is written there. Assumes nothing.
use Rattle.std.specs.Prelude.{Bool, cond, ◌||◌, ℕ, eqb}
use Rattle.model.specs.Places.{kind}
use Rattle.model.specs.Images.{by_kind}

-- one of two bytes stands there
abbrev pub either : ℕ → ℕ → ℕ → Bool
either x y v = eqb v x || eqb v y

-- one of two bytes, by whether a third is the key
abbrev pub chosen : ℕ → ℕ → ℕ → ℕ → ℕ
chosen key x y b = cond (eqb b key) x y

-- what is written at place i where another state has b: b in public places; one of two bytes in sensitive ones, by whether b is the key; else 0
unfoldable pub placed : ℕ → ℕ → ℕ → ℕ → ℕ → ℕ
unfolding kind
placed key x y i b = by_kind (kind i) 0 b (chosen key x y b)
