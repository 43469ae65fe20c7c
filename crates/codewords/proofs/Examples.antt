-- The definition computed at small inputs. Assumes nothing.
use mathlib.Core.Path.{◌≡◌, refl}
use mathlib.Core.List.{[], ◌∷◌}
use lib.Count.{ones}
use lib.IntN.{pos, negsuc}
use lib.ListN.{replicate}
use Rattle.model.specs.Answers.{counted, refused, outcome}
use Rattle.codewords.specs.Codewords.{choose_outcome}

-- signals 3, 4, 5, 5, 6, 7 of 3, 5, 6, 9, 10, 12: 6 and 9 have one signal
pub two_of_six : choose_outcome 4 2 2 (pos 1 ∷ pos 2 ∷ pos 3 ∷ pos 4 ∷ []) ≡ outcome (counted 2) ((6 ∷ 9 ∷ replicate 14 0) ∷ [])
unfolding choose_outcome ones
two_of_six = refl

-- with the weights -3, -1, 3, 3 signals -4, 0, 0, 2, 2, 6 of 3, 5, 9, 6, 10, 12: of two runs of spread 0 the lower
pub lower_of_two : choose_outcome 4 2 2 (negsuc 2 ∷ negsuc 0 ∷ pos 3 ∷ pos 3 ∷ []) ≡ outcome (counted 2) ((5 ∷ 9 ∷ replicate 14 0) ∷ [])
unfolding choose_outcome ones
lower_of_two = refl

-- with the weights 5, -7, 9, -1000 the words 1, 2, 4, 8 in the order of their signals
pub by_their_signals : choose_outcome 4 1 4 (pos 5 ∷ negsuc 6 ∷ pos 9 ∷ negsuc 999 ∷ []) ≡ outcome (counted 4) ((8 ∷ 2 ∷ 1 ∷ 4 ∷ replicate 12 0) ∷ [])
unfolding choose_outcome ones
by_their_signals = refl

pub one_word : choose_outcome 4 4 2 (pos 1 ∷ pos 2 ∷ pos 3 ∷ pos 4 ∷ []) ≡ outcome (refused 29 0) (replicate 16 0 ∷ [])
unfolding choose_outcome ones
one_word = refl

-- 28 before 29
pub weight_too_large : choose_outcome 4 4 2 (pos 1 ∷ pos 2 ∷ pos 3 ∷ pos 1001 ∷ []) ≡ outcome (refused 28 0) (replicate 16 0 ∷ [])
unfolding choose_outcome ones
weight_too_large = refl
