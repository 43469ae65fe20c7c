-- What is shown of request 11. Each claim stands alone: what it assumes is written in it.
-- Assumes nothing.
use Rattle.std.specs.Prelude.{◌≡◌, Bool, true, false, ◌||◌, List, [], ◌∷◌, ◌⊎◌, ℕ, ◌-◌, ◌^◌, ◌≤◌, ◌<◌, eqb, ℤ, pos, negsuc, ◌-ℤ◌, length, get_or, take, drop, replicate, ◌≤ℤ◌, ◌<ℤ◌}
use Rattle.std.specs.Int.Count.{ones}
use Rattle.model.specs.Answers.{Report, done, refused, outcome}
use Rattle.codewords.specs.Codewords.{signal, words, spread, ranking, choose_outcome}

-- ---- lists of words

abbrev pub Every : (ℕ → Type 0) → List ℕ → Type 0
Every P [] = Unit {0}
Every P (x ∷ xs) = P x × Every P xs

abbrev pub among : ℕ → List ℕ → Bool
among x [] = false
among x (y ∷ ys) = eqb x y || among x ys

abbrev pub Distinct : List ℕ → Type 0
Distinct [] = Unit {0}
Distinct (x ∷ xs) = (among x xs ≡ false) × Distinct xs

-- ---- inputs in their ranges, and a weight per bit

pub record InRange (n k size : ℕ) (weights : List ℤ) : Type 0 where
  pub shortest : 4 ≤ n
  pub longest : n ≤ 8
  pub most_ones : k ≤ 8
  pub sizes : (size ≡ 2) ⊎ (size ≡ 4) ⊎ (size ≡ 8) ⊎ (size ≡ 16)
  pub per_bit : length weights ≡ n
  -- from -1000, which is `negsuc 999`, to 1000
  pub weight : (i : ℕ) → i < n → (negsuc 999 ≤ℤ get_or weights i (pos 0)) × (get_or weights i (pos 0) ≤ℤ pos 1000)

-- ---- sets of words

-- a word of n bits with k ones
pub record Word (n k w : ℕ) : Type 0 where
  pub bits : w < 2 ^ n
  pub many : ones w ≡ k

-- a set of that size, all words with that many ones
pub record CodeOf (n k size : ℕ) (set : List ℕ) : Type 0 where
  pub count : length set ≡ size
  pub distinct : Distinct set
  pub each : Every (Word n k) set

-- the largest signal less the smallest
pub record Spread (weights : List ℤ) (set : List ℕ) : Type 0 where
  pub high : ℕ
  pub high_in : among high set ≡ true
  pub highest : Every (λ x. signal weights x ≤ℤ signal weights high) set
  pub low : ℕ
  pub low_in : among low set ≡ true
  pub lowest : Every (λ x. signal weights low ≤ℤ signal weights x) set
  pub is : spread weights set ≡ signal weights high -ℤ signal weights low

abbrev pub Spreads : Type 0
Spreads = (weights : List ℤ) (set : List ℕ) → 0 < length set → Spread weights set

-- ---- the ranking: all the words, and these alone, by signal, then value

abbrev pub Before : List ℤ → ℕ → ℕ → Type 0
Before weights x y = (signal weights x <ℤ signal weights y) ⊎ ((signal weights x ≡ signal weights y) × (x < y))

-- each comes before all that follow
abbrev pub Ranked : List ℤ → List ℕ → Type 0
Ranked weights [] = Unit {0}
Ranked weights (x ∷ xs) = Every (Before weights x) xs × Ranked weights xs

pub record Ranking (n k : ℕ) (weights : List ℤ) (ws : List ℕ) : Type 0 where
  pub ranked : Ranked weights ws
  pub all : (w : ℕ) → Word n k w → among w ws ≡ true
  pub only : Every (Word n k) ws

-- so that the work is bounded
abbrev pub AtMostSeventy : Type 0
AtMostSeventy = (n k : ℕ) → n ≤ 8 → length (words n k) ≤ 70

-- ---- a set out of the ranking ws: its spread is the least among ALL such sets, and it is the lowest run that has it

pub record Least (n k size : ℕ) (weights : List ℤ) (ws set : List ℕ) : Type 0 where
  pub code : CodeOf n k size set
  pub ranked : Ranked weights set
  pub least : (other : List ℕ) → CodeOf n k size other → spread weights set ≤ℤ spread weights other
  -- the run begins here, and those that begin lower have a greater spread
  pub begins : ℕ
  pub run : set ≡ take size (drop begins ws)
  pub lower : (i : ℕ) → i < begins → spread weights set <ℤ spread weights (take size (drop i ws))

-- ---- an answer, and what is handed back with it

-- success counts the words; such a set in the first entries, 0 in the others
pub record Made (n k size : ℕ) (weights : List ℤ) (vs set : List ℕ) : Type 0 where
  pub counts : vs ≡ size ∷ []
  pub in_range : InRange n k size weights
  pub ranks : Ranking n k weights (ranking n k weights)
  pub chosen : Least n k size weights (ranking n k weights) (take size set)
  pub unused : drop size set ≡ replicate (16 - size) 0

-- 28 inputs outside the ranges, else 29 where there is no set of that size; both at 0, and 0 in all entries
pub record TurnedDown (n k size : ℕ) (weights : List ℤ) (number line : ℕ) (set : List ℕ) : Type 0 where
  pub why : ((number ≡ 28) × (InRange n k size weights → ⊥)) ⊎ ((number ≡ 29) × InRange n k size weights × ((other : List ℕ) → CodeOf n k size other → ⊥))
  pub at_zero : line ≡ 0
  pub cleared : set ≡ replicate 16 0

pub record Choice (n k size : ℕ) (weights : List ℤ) (answer : Report) (set : List ℕ) : Type 0 where
  pub made : (vs : List ℕ) → answer ≡ done vs → Made n k size weights vs set
  pub turned_down : (number line : ℕ) → answer ≡ refused number line → TurnedDown n k size weights number line set

abbrev pub Choices : Type 0
Choices = (n k size : ℕ) (weights : List ℤ) (answer : Report) (set : List ℕ)
    → outcome answer (set ∷ []) ≡ choose_outcome n k size weights → Choice n k size weights answer set
