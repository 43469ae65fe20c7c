-- What the code makes of the values of the bus (request 07). Nothing here is for a reader of the promise: proofs/BusLaws ties it to the walk's
-- definitions. Assumes nothing.
use Rattle.std.specs.Prelude.{Bool, true, cond, ◌&&◌, List, [], ◌∷◌, ℕ, get_or}
use Rattle.model.specs.declared.Line.{Line}
use Rattle.model.specs.Places.{has_address}
use Rattle.model.specs.Step.{distance}
use Rattle.sets.specs.Walk.{Sets}
use Rattle.sets.specs.Addresses.{reached, first_addressed}
use Rattle.choices.specs.Gathering.{all_at}

-- whether all values of the bus are at the distance d from each of these addresses
unfoldable pub all_met : ℕ → List ℕ → List ℕ → Bool
unfolding all_at
all_met d bus [] = true
all_met d bus (x ∷ xs) = all_at d x bus && all_met d bus xs

-- whether that is the distance of the first of each
abbrev pub met_by : List ℕ → List ℕ → Bool
met_by bus xs = all_met (distance (get_or bus 0 0) (get_or xs 0 0)) bus xs

-- whether the first address of a line is at one distance from the bus, whatever both are
unfoldable pub meets : Sets → List ℕ → Line → Bool
unfolding all_met has_address reached
meets S bus l = cond (has_address (first_addressed l)) (met_by bus (reached S (first_addressed l))) true
