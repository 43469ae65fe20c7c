-- What a step on sets answers and leaves, from what was gathered at its choices.
-- Assumes nothing.
use mathlib.Core.Path.{◌≡◌, refl, sym, ap, ◌∙◌}
use mathlib.Core.Bool.{Bool, true, false, not}
use mathlib.Core.List.{List, [], ◌∷◌}
use Prim.Native.Nat.{ℕ, suc, ◌≤◌, ◌<◌}
use native.Mathlib.Omega.{arith}
use borrow.Author.Tests.{lt-ltb, le-ltb}
use lib.ListN.{length, get_or, set, take}
use Rattle.model.specs.declared.Line.{Line}
use Rattle.model.specs.Places.{State, place}
use Rattle.model.specs.Step.{Row, result, next}
use Rattle.model.specs.Stored.{operand_of}
use Rattle.model.specs.declared.Condition.{Condition}
use Rattle.model.specs.declared.Condition.TheVariants.{SeveralValues, TooManyValues}
use Rattle.walk.specs.declared.Move.TheVariants.{To, Leaks, Refuses}
use Rattle.sets.specs.Walk.{Sets, max_values, set_width, listed, heads, involved, draw, choices, unsettled, written, buses, steady, onto}
use Rattle.sets.specs.Claims.{Full}
use Rattle.sets.specs.Addresses.{leads}
use Rattle.choices.specs.Bus.{meets}
use Rattle.choices.specs.Gathering.{Gathered, gathered, visited_all, Tells, Settled, line_by}
use Rattle.walk.specs.Moves.{moves}
use Rattle.sets.proofs.Members.{first_in, in_some}
use Rattle.sets.proofs.DrawnStates.{heads_drawn, in_written}
use Rattle.sets.proofs.Sound.{not_unsettled}
use Rattle.sets.proofs.SameBus.{buses_led, buses_some}
use Rattle.choices.proofs.Gathered.{full_some, tells}
use Rattle.choices.proofs.BusLaws.{steady_met}
use Rattle.choices.proofs.SetBytes.{listed-front, listed_at}
use Rattle.choices.proofs.Exploring.{heads-put}

-- ---- before and after its choices

-- past 21 nothing has been drawn yet
pub settled_none : (S : Sets) (l : Line) → Full S → unsettled S l ≡ false → Settled S l 0
settled_none S l F e = record { some_in = full_some S F; aim = ((not_unsettled S l).0 (rw e tt)).0; below = λ j h. absurd (omega arith) }

pub told_all : (S : Sets) (l : Line) (k : ℕ) (g : Gathered) (r : Row) → Full S → g ≡ visited_all l k (gathered [] false r) (draw S (involved l)) → Tells g (written S l) (not (steady S (0 ∷ []) l k))
unfolding choices
told_all S l k g r F e = rw e (tells S l k r (full_some S F))

-- ---- what it answers

pub no_to : (k : Condition) (n : ℕ) → Refuses k ≡ To n → ⊥
no_to k n e = let z : ◌≡◌ {A = ℕ} 0 1 = cc in omega arith

pub leaks_to : (n : ℕ) → Leaks ≡ To n → ⊥
leaks_to n e = let z : ◌≡◌ {A = ℕ} 0 1 = cc in omega arith

is_not : (a b : Bool) → a ≡ not b → a ≡ true → b ≡ false
is_not a true e q = sym q ∙ e
is_not a false e q = refl

is_so : (a b : Bool) → a ≡ not b → a ≡ false → b ≡ true
is_so a true e q = refl
is_so a false e q = sym q ∙ e

module _ (S : Sets) (bus : List ℕ) (l : Line) (k : ℕ) where
  pub moves_21 : unsettled S l ≡ true → Refuses SeveralValues ≡ moves S bus l k
  unfolding moves
  moves_21 e = rw e

  module _ (u : unsettled S l ≡ false) (g : Gathered) (h : Tells g (written S l) (not (steady S (0 ∷ []) l k))) where
    pub moves_22 : max_values < length g.results → Refuses TooManyValues ≡ moves S bus l k
    unfolding moves
    moves_22 m =
        let t : max_values < length (written S l) = rw (lt-ltb max_values (length g.results) m) at h in
        rw (u, lt-ltb max_values (length (written S l)) t)

    pub all_told : length g.results ≤ max_values → (g.results ≡ written S l) × (length (written S l) ≤ max_values) × (g.leak ≡ not (steady S (0 ∷ []) l k))
    all_told m = rw (le-ltb max_values (length g.results) m) at h

    -- with values on the bus
    module _ (F : Full S) (some-bus : 0 < length bus) (m : length g.results ≤ max_values) where
      leaking : steady S bus l k ≡ false → Leaks ≡ moves S bus l k
      unfolding moves
      leaking e = rw (u, le-ltb max_values (length (written S l)) (all_told m).1, e)

      pub moves_leak : g.leak ≡ true → Leaks ≡ moves S bus l k
      moves_leak e = leaking (steady_met S F bus some-bus l k ∙ rw (is_not g.leak (steady S (0 ∷ []) l k) (all_told m).2 e))

      module _ (e : g.leak ≡ false) where
        steady_by : steady S bus l k ≡ meets S bus l
        steady_by = steady_met S F bus some-bus l k ∙ rw (is_so g.leak (steady S (0 ∷ []) l k) (all_told m).2 e)

        pub moves-apart : meets S bus l ≡ false → Leaks ≡ moves S bus l k
        moves-apart q = leaking (steady_by ∙ q)

        pub moves_on : meets S bus l ≡ true → To (next l k (heads S)) ≡ moves S bus l k
        unfolding moves
        moves_on q = rw (u, le-ltb max_values (length (written S l)) (all_told m).1, steady_by, q)

-- the bus afterwards has some value too
pub leads_some : (S : Sets) (bus : List ℕ) (l : Line) → Full S → 0 < length bus → 0 < length (leads S bus l)
leads_some S bus l F h = in_some (get_or (buses S bus l) 0 0) (leads S bus l) ((buses_led S F bus l h).0 (get_or (buses S bus l) 0 0) (first_in (buses S bus l) (buses_some S F bus l h)))

-- ---- what it leaves, where the walk goes on: f lists the results, v is the first of them

module _ (S : Sets) (n : List ℕ) (s : State) (f : List ℕ) (at : ℕ) (F : Full S) (es : s ≡ heads S) (ea : at ≡ place (operand_of (get_or n 2 0)) s)
    (lf : length f ≡ suc set_width) (hf : get_or f 0 0 ≤ max_values) (ef : listed f ≡ written S (line_by n)) where
  abbrev l : Line
  l = line_by n

  some_written : 0 < length (listed f)
  some_written = rw ef (in_some (result l (heads S)) (written S l) (in_written S l (heads S) F (heads_drawn S F)))

  pub first-listed : get_or f 1 0 ≡ get_or (listed f) 0 0
  first-listed = sym (listed_at f set_width lf 0 some_written)

  pub went : (S' : Sets) → S' ≡ set S at (listed (take set_width f)) → S' ≡ onto S l
  unfolding onto
  went S' e = e ∙ ap (set S at) (listed-front f hf ∙ ef) ∙ ap (λ (i : ℕ). set S i (written S l)) (ea ∙ ap (place l.destination) es)

  pub went_heads : (S' : Sets) (s' : State) → S' ≡ set S at (listed (take set_width f)) → s' ≡ set s at (get_or f 1 0) → s' ≡ heads S'
  went_heads S' s' e d =
      d ∙ ap (set s at) (first-listed ∙ ap (λ (xs : List ℕ). get_or xs 0 0) (sym (listed-front f hf))) ∙ ap (λ (t : State). set t at (get_or (listed (take set_width f)) 0 0)) es
      ∙ sym (heads-put S at (listed (take set_width f))) ∙ ap heads (sym e)
