-- Bounds: for each place a list of values that its set stays within, and one for the bus. One step of the walk by what holds of all states and
-- all values of the bus within the bounds.
-- Assumes nothing.
use mathlib.Core.Path.{◌≡◌, sym, ◌∙◌}
use mathlib.Core.Bool.{Bool, true, false, not, cond}
use mathlib.Core.List.{List, [], ◌∷◌}
use mathlib.Core.Option.{none, some}
use mathlib.Core.Logic.{◌⊎◌, inl, inr}
use Prim.Native.Nat.{ℕ, zero, suc, ◌≤◌, ◌<◌}
use native.Mathlib.Decide.{ℕ_discrete}
use native.Mathlib.Omega.{arith}
use lib.Dec.{T, ltb}
use lib.ListN.{length, get_or, set, get_elem?, get_or-eq_default}
use lib.Seq.{get_or-set_same, get_or-set_other}
use Rattle.model.specs.declared.Mark.{Mark}
use Rattle.model.specs.declared.Operand.{Operand}
use Rattle.model.specs.declared.Line.{Line}
use Rattle.model.specs.Limits.{state_size}
use Rattle.model.specs.Places.{State, kind_of, place}
use Rattle.model.specs.Step.{Row, meaning, row, result, next, bus_after}
use Rattle.model.proofs.TestLaws.{below}
use Rattle.std.specs.Prelude.{Ok}
use Rattle.sets.specs.declared.Verdict.TheVariants.{Balanced, Spent}
use Rattle.sets.specs.Walk.{Sets, several, values, heads, base, branches, meanings, written, onto, buses, ended, walk}
use Rattle.sets.specs.Claims.{In, Drawn, Full}
use Rattle.sets.proofs.Members.{first_in, in_some, few, single, single_map, settled}
use Rattle.sets.proofs.DrawnStates.{heads_drawn, drawn_in, written_in, written_once, in_buses, buses_in}
use Rattle.sets.proofs.Sound.{One, onto-full, walk-zero, walk_none, Passed, Goes, walk_goes}

abbrev pub Bound : Type 0
Bound = ℕ → List ℕ

pub record Under (B : Bound) (S : Sets) : Type 0 where
  pub full : Full S
  pub within : (i : ℕ) → i < state_size → (x : ℕ) → In x (values S i) → In x (B i)

pub record Fits (B : Bound) (s : State) : Type 0 where
  pub long : length s ≡ state_size
  pub each : (i : ℕ) → i < state_size → In (get_or s i 0) (B i)

-- values of the bus, one at least, all within X
abbrev pub Carries : List ℕ → List ℕ → Type 0
Carries X bus = (0 < length bus) × ((b : ℕ) → In b bus → In b X)

-- the walk passes with every budget up to n, from all sets under the bound, the bus within X
abbrev pub UpTo : List Line → ℕ → ℕ → Bound → List ℕ → Type 0
UpTo p n k B X = (m t : ℕ) → m ≤ n → (S : Sets) → Under B S → (bus : List ℕ) → Carries X bus → Passed (walk p m k t S bus)

-- one value at most within the bound, or no place
abbrev pub Sole : Bound → ℕ → Type 0
Sole B i = (state_size ≤ i) ⊎ ((x y : ℕ) → In x (B i) → In y (B i) → x ≡ y)

pub sole_past : (B : Bound) (i : ℕ) → state_size ≤ i → Sole B i
sole_past B i h = inl h

pub sole_in : (B : Bound) (i : ℕ) → ((x y : ℕ) → In x (B i) → In y (B i) → x ≡ y) → Sole B i
sole_in B i h = inr h

-- what a line does in all states within the bound, the bus going from X to Y
pub record Does (B : Bound) (X : List ℕ) (l : Line) (k : ℕ) (q : ℕ) (Q : List ℕ) (ρ : Row) (Y : List ℕ) (j : ℕ) : Type 0 where
  pub aim : Sole B (base l.destination)
  pub args : T (branches l.opcode) → (s : State) → Fits B s
      → (Sole B (base l.first) × Sole B (place l.first s)) × (Sole B (base l.second) × Sole B (place l.second s))
  pub dest : (s : State) → Fits B s → place l.destination s ≡ q
  pub res : (s : State) → Fits B s → In (result l s) Q
  pub shown : (s : State) → Fits B s → (b : ℕ) → In b X → row l k s b ≡ ρ
  pub leads : (s : State) → Fits B s → (b : ℕ) → In b X → In (bus_after l s b) Y
  pub goes : (s : State) → Fits B s → next l k s ≡ j
  pub count : length Q ≤ 16

-- a bound after the values Q were written at q
pub record Turns (B : Bound) (q : ℕ) (Q : List ℕ) (C : Bound) : Type 0 where
  pub keep : (i : ℕ) → i < state_size → (i ≡ q → ⊥) → (x : ℕ) → In x (B i) → In x (C i)
  pub new : q < state_size → (x : ℕ) → In x Q → In x (C q)

-- ---- one step from sets under a bound

module _ {B : Bound} {S : Sets} (H : Under B S) where
  fits : (s : State) → Drawn S s → Fits B s
  fits s D = record { long = D.long; each = λ i g. H.within i g (get_or s i 0) (D.each i g) }

  heads_fit : Fits B (heads S)
  heads_fit = fits (heads S) (heads_drawn S H.full)

  past_one : (i : ℕ) → state_size ≤ i → One S i
  past_one i h = rw (get_or-eq_default S (0 ∷ []) {n = i} (omega (arith, H.full.long))) tt

  sole_one : (i : ℕ) → Sole B i → One S i
  sole_one i (inl h) = past_one i h
  sole_one i (inr f) =
      let v = get_or (heads S) i 0 in
      below i state_size (λ h. single (values S i) v (H.full.once i h) (λ x m. f x v (H.within i h x m) (heads_fit.each i h))) (past_one i)

  -- an argument that is read at such a place means one thing
  sole_meant : (m : Mark) (o : Operand) → Sole B (place o (heads S)) → T (not (several (meanings S m o)))
  unfolding meanings
  sole_meant m o h =
      let i = place o (heads S) in
      single_map (meaning m (kind_of o)) (values S i) (get_or (heads S) i 0)
      (λ x a. settled x (get_or (heads S) i 0) (values S i) (sole_one i h) a (drawn_in S H.full (heads S) (heads_drawn S H.full) i))

  module _ {X : List ℕ} {l : Line} {k q : ℕ} {Q : List ℕ} {ρ : Row} {Y : List ℕ} {j : ℕ} (D : Does B X l k q Q ρ Y j) where
    does_written : (x : ℕ) → In x (written S l) → In x Q
    does_written x m = let r = written_in S l x H.full m in rw r.2 (D.res r.0 (fits r.0 r.1))

    does_go : (bus : List ℕ) → Carries X bus → Goes S bus l k
    does_go bus C =
        record {
          settled = (
            sole_one (base l.destination) D.aim,
            λ t. let g = D.args t (heads S) heads_fit in (
              (sole_one (base l.first) g.0.0, sole_meant l.mark l.first g.0.1),
              (sole_one (base l.second) g.1.0, sole_meant l.mark l.second g.1.1),
            ),
          );
          few = omega (arith, few (written S l) Q (written_once S l) does_written, D.count);
          same_rows = λ s b E m. D.shown (heads S) heads_fit (get_or bus 0 0) (C.1 (get_or bus 0 0) (first_in bus C.0)) ∙ sym (D.shown s (fits s E) b (C.1 b m));
        }

    does_carry : (bus : List ℕ) → Carries X bus → Carries Y (buses S bus l)
    does_carry bus C = (
      in_some (bus_after l (heads S) (get_or bus 0 0)) (buses S bus l) (in_buses S bus l (heads S) (get_or bus 0 0) H.full (heads_drawn S H.full) (first_in bus C.0)),
      λ x m. let g = buses_in S bus l x H.full m in rw g.4 (D.leads g.0 (fits g.0 g.2) g.1 (C.1 g.1 g.3)),
    )

    does_onto : {C : Bound} → Turns B q Q C → Under C (onto S l)
    unfolding onto
    does_onto {C} R = record { full = onto-full S l H.full; within = λ i g x m. go i g x (rw (D.dest (heads S) heads_fit) at m) (ℕ_discrete i q) }
      where
        go : (i : ℕ) → i < state_size → (x : ℕ) → In x (values (set S q (written S l)) i) → Dec (i ≡ q) → In x (C i)
        go i g x m (no n) = R.keep i g n x (H.within i g x (rw (get_or-set_other S q i (written S l) (0 ∷ []) n) at m))
        go i g x m (yes e) =
            let at-q : In x (written S l) = rw (e, get_or-set_same S q (written S l) (0 ∷ []) (omega (arith, H.full.long))) at m in
            rw e (R.new (rw e at g) x (does_written x at-q))

passed-ended : (p : List Line) (k t : ℕ) → Passed (ended p k t)
unfolding ended
passed-ended p k t = go (ltb k (length p))
  where
    go : (b : Bool) → Passed (cond b (Ok (Spent k t)) (Ok (Balanced k t)))
    go true = tt
    go false = tt

pub up_zero : (p : List Line) (k : ℕ) (B : Bound) (X : List ℕ) → UpTo p zero k B X
up_zero p k B X zero t le S H bus C = rw (walk-zero p k t S bus) (passed-ended p k t)
up_zero p k B X (suc m) t le S H bus C = absurd (omega arith)

pub step_on : (p : List Line) (n k : ℕ) (B : Bound) (X : List ℕ) (C : Bound) (Y : List ℕ) (l : Line) (q : ℕ) (Q : List ℕ) (ρ : Row) (j : ℕ)
    → get_elem? p k ≡ some l → Does B X l k q Q ρ Y j → Turns B q Q C → UpTo p n j C Y → UpTo p (suc n) k B X
step_on p n k B X C Y l q Q ρ j e D R up zero t le S H bus c = up_zero p k B X zero t (omega arith) S H bus c
step_on p n k B X C Y l q Q ρ j e D R up (suc m) t le S H bus c =
    rw (walk_goes p m k t S bus l e H.full (does_go H D bus c), D.goes (heads S) (heads_fit H))
    (up m (suc t) (omega arith) (onto S l) (does_onto H D R) (buses S bus l) (does_carry H D bus c))

pub up_none : (p : List Line) (n k : ℕ) (B : Bound) (X : List ℕ) → get_elem? p k ≡ none → UpTo p n k B X
up_none p n k B X e m t le S H bus c = rw (walk_none p m k t S bus e) (passed-ended p k t)
