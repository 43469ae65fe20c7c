-- Req 06, moving stored images: what a move makes of one, and what comes of a call. Assumes nothing.
use Rattle.std.specs.Prelude.{◌≡◌, true, [], ◌∷◌, ℕ, length}
use Rattle.model.specs.declared.Layout.{Layout}
use Rattle.model.specs.Limits.{state_size}
use Rattle.model.specs.Answers.{Outcome}
use Rattle.model.specs.Places.{State}
use Rattle.model.specs.Layouts.{in_layout}
use Rattle.model.specs.Images.{image, back, image_right, every, carried}

-- a stored image in a layout: 544 bytes that the way back takes, so r1 to r3 hold anything
pub record StoredImage (L : Layout) (v : State) : Type 0 where
  pub long : length v ≡ state_size
  pub right : every (image_right L) 0 v ≡ true

-- a move: the way back from the old layout, then the image in the new one
abbrev pub moved : Layout → Layout → State → State
moved old new v = image new (back old v)

-- from one lent state to the other, between any two layouts: 18 where a length is not 544, then 19 by the rule of the way back, judged in
-- the old one
abbrev pub moved_in : Layout → Layout → State → State → Outcome
moved_in old new from into = carried (image_right old) (moved old new) from into

-- between the layouts that are named; 23 where either is none of the six, before all else
abbrev pub move_outcome : ℕ → ℕ → ℕ → ℕ → State → State → Outcome
move_outcome old_position old_spacing new_position new_spacing from into =
    in_layout old_position old_spacing (into ∷ []) (λ old. in_layout new_position new_spacing (into ∷ []) (λ new. moved_in old new from into))
