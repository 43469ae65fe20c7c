-- The list of watches as a loop goes through it, and whether some watch is past the state.
-- Assumes nothing.
use Rattle.std.proofs.Common.{◌≡◌, ℕ, zero, suc, ◌+◌, ◌<◌, ◌≤◌, leb, List, [], ◌∷◌, map, length, get_or, set, refl, ap, ◌∙◌, le_of_suc-le-suc, not-suc-le-zero, arith}
use Rattle.std.specs.List.{list_any}
use Rattle.model.specs.Limits.{state_size}
use Rattle.watch.specs.declared.Watch.{Watch}
use Rattle.watch.specs.Watches.{unused, some_past}

-- what lies past the end
abbrev pub nowhere : Watch
nowhere = unused 0

one_more : (i : ℕ) → i + 1 ≡ suc i
one_more i = omega arith

module _ (f : Watch → Watch) where
  -- the first i watches changed
  abbrev pub upto : ℕ → List Watch → List Watch
  upto zero ws = ws
  upto (suc i) [] = []
  upto (suc i) (w ∷ ws) = f w ∷ upto i ws

  upto_next : (i : ℕ) (ws : List Watch) → i < length ws → set (upto i ws) i (f (get_or (upto i ws) i nowhere)) ≡ upto (suc i) ws
  upto_next i [] l = absurd (not-suc-le-zero l)
  upto_next zero (w ∷ ws) l = refl
  upto_next (suc i) (w ∷ ws) l = ap (λ (us : List Watch). f w ∷ us) (upto_next i ws (le_of_suc-le-suc l))

  upto_past : (i : ℕ) (ws : List Watch) → length ws ≤ i → upto i ws ≡ map f ws
  upto_past zero [] h = refl
  upto_past zero (w ∷ ws) h = absurd (not-suc-le-zero h)
  upto_past (suc i) [] h = refl
  upto_past (suc i) (w ∷ ws) h = ap (λ (us : List Watch). f w ∷ us) (upto_past i ws (le_of_suc-le-suc h))

  -- one turn, and the end
  module _ (i : ℕ) (ws us : List Watch) (e : us ≡ upto i ws) where
    pub wrote : (r : Watch) → i < length ws → r ≡ f (get_or us i nowhere) → set us i r ≡ upto (i + 1) ws
    wrote r h q = rw (q, e, one_more i) (upto_next i ws h)

    pub whole : length ws ≤ i → us ≡ map f ws
    whole h = e ∙ upto_past i ws h

-- some watch is past the state
pub any-past : (ws : List Watch) → list_any (λ w. leb state_size w.place) ws ≡ some_past ws
unfolding some_past
any-past [] = refl
any-past (w ∷ ws) = rw (any-past ws)
