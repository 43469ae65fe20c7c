-- 'Code, tables, macros', the states: bit states, images, the way back, and conditions 18 and 19.
-- Assumes nothing.
use Rattle.std.specs.Prelude.{◌≡◌, Bool, true, cond, ◌&&◌, ◌||◌, List, [], ◌∷◌, ℕ, suc, ◌-◌, ◌≤◌, ◌<◌, ltb, leb, eqb, get_or, length}
use Rattle.model.specs.Limits.{state_size}
use Rattle.model.specs.declared.Layout.{Layout}
use Rattle.model.specs.Answers.{counted, refused, Outcome, outcome}
use Rattle.model.specs.declared.Kind.{Kind}
use Rattle.model.specs.declared.Kind.TheVariants.{Neither, Public, Sensitive}
use Rattle.model.specs.Places.{State, kind}
use Rattle.model.specs.Layouts.{in_layout}
use Rattle.model.specs.Code.{code, page}

-- by the kind of a place
abbrev pub by_kind {ℓ} : {A : Type ℓ} → Kind → A → A → A → A
by_kind Neither x y z = x
by_kind Public x y z = y
by_kind Sensitive x y z = z

-- a bit state has 0 or 1 in each sensitive place and 0 in r0 to r3 and the table page
unfoldable pub Bit : ℕ → ℕ → Type 0
unfolding kind
Bit i x = by_kind (kind i) (x ≡ 0) (Unit {0}) (x ≤ 1)

pub record BitState (s : State) : Type 0 where
  pub long : length s ≡ state_size
  pub bits : (i : ℕ) → i < state_size → Bit i (get_or s i 0)

-- a function of the place and the value, at each place counted from i
unfoldable pub map_at : (ℕ → ℕ → ℕ) → ℕ → List ℕ → List ℕ
map_at f i [] = []
map_at f i (x ∷ xs) = f i x ∷ map_at f (suc i) xs

-- what an image holds where neither a public nor a sensitive place is: 0 in r0 to r3, then the table page
unfoldable pub fixed : Layout → ℕ → ℕ
unfolding page
fixed L i = cond (ltb i 4) 0 (page L (i - 288))

-- an image: public places unchanged, sensitive bits coded
unfoldable pub image_at : Layout → ℕ → ℕ → ℕ
unfolding kind fixed code
image_at L i x = by_kind (kind i) (fixed L i) x (code L x)

unfoldable pub image : Layout → State → State
unfolding map_at image_at
image L s = map_at (image_at L) 0 s

-- the way back: sensitive places decoded, r1 to r3 and the table page cleared; r0 is 0 already
unfoldable pub back_at : Layout → ℕ → ℕ → ℕ
unfolding kind code
back_at L i x = by_kind (kind i) 0 x (cond (eqb x (code L 1)) 1 0)

unfoldable pub back : Layout → State → State
unfolding map_at back_at
back L v = map_at (back_at L) 0 v

-- ---- conditions 18 and 19

-- may a bit state hold x at place i
unfoldable pub bit_right : ℕ → ℕ → Bool
unfolding kind
bit_right i x = by_kind (kind i) (eqb x 0) true (leb x 1)

-- may x stand on the way back where neither a public nor a sensitive place is: r1 to r3 hold anything
unfoldable pub fixed_right : Layout → ℕ → ℕ → Bool
unfolding fixed
fixed_right L i x = cond (ltb i 4) (cond (eqb i 0) (eqb x 0) true) (eqb x (fixed L i))

-- may x stand at place i on the way back
unfoldable pub image_right : Layout → ℕ → ℕ → Bool
unfolding kind fixed_right code
image_right L i x = by_kind (kind i) (fixed_right L i x) true (eqb x (code L 1) || eqb x (code L 0))

-- a test at each place counted from i
unfoldable pub every : (ℕ → ℕ → Bool) → ℕ → List ℕ → Bool
every f i [] = true
every f i (x ∷ xs) = f i x && every f (suc i) xs

-- from one lent state to the other: 18 where a length is not 544, then 19 where a place is not right
unfoldable pub carried : (ℕ → ℕ → Bool) → (State → State) → State → State → Outcome
unfolding every
carried right over from into =
    cond (eqb (length from) state_size)
    (cond (eqb (length into) state_size)
    (cond (every right 0 from) (outcome (counted state_size) (over from ∷ [])) (outcome (refused 19 0) (into ∷ [])))
    (outcome (refused 18 0) (into ∷ [])))
    (outcome (refused 18 0) (into ∷ []))

-- in any layout
abbrev pub image_in : Layout → State → State → Outcome
image_in L bits image' = carried bit_right (image L) bits image'

abbrev pub bits_in : Layout → State → State → Outcome
bits_in L image' bits = carried (image_right L) (back L) image' bits

-- in the layout that is named; 23 before all else
abbrev pub to_image_outcome : ℕ → ℕ → State → State → Outcome
to_image_outcome position spacing bits image' = in_layout position spacing (image' ∷ []) (λ L. image_in L bits image')

abbrev pub from_image_outcome : ℕ → ℕ → State → State → Outcome
from_image_outcome position spacing image' bits = in_layout position spacing (bits ∷ []) (λ L. bits_in L image' bits)

-- ---- states compared

-- two states agree in all public places
unfoldable pub SamePublic : State → State → Type 0
unfolding kind
SamePublic s t = (i : ℕ) → i < state_size → kind i ≡ Public → get_or s i 0 ≡ get_or t i 0

-- v is w in every place but r1 to r3
unfoldable pub ButScratch : State → State → Type 0
ButScratch v w = (length v ≡ length w) × ((i : ℕ) → i < length w → ((1 ≤ i) × (i ≤ 3) → ⊥) → get_or v i 0 ≡ get_or w i 0)
