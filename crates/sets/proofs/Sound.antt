-- Soundness of the walk: a walk that passes foretells the rows and the end of every run from a drawn state.
-- Assumes nothing.
use mathlib.Core.Path.{◌≡◌, refl, ap, ◌∙◌, subst}
use mathlib.Core.Bool.{Bool, true, false, not, cond, ◌&&◌, ◌||◌}
use mathlib.Core.List.{List, [], ◌∷◌, map}
use mathlib.Core.Option.{Option, none, some}
use mathlib.Core.Logic.{◌↔◌}
use Prim.Native.Nat.{ℕ, zero, suc, ◌+◌, ◌≤◌, ◌<◌}
use native.Mathlib.Decide.{ℕ_discrete}
use native.Mathlib.Omega.{arith}
use borrow.Author.Tests.{le-ltb}
use lib.Dec.{T, ltb, nltb→le}
use lib.ListN.{length, get_or, set, get_elem?, length-set}
use lib.Seq.{get_or-set_same, get_or-set_other}
use Rattle.model.specs.declared.Mark.{Mark}
use Rattle.model.specs.declared.Opcode.{Opcode}
use Rattle.model.specs.declared.Opcode.TheVariants.{Nop, Jmp, Not, Mov, And, Orr, Xor, Lsl, Lsr, Add, Mul, Beq, Bne}
use Rattle.model.specs.declared.Operand.{Operand}
use Rattle.model.specs.declared.Line.{Line}
use Rattle.model.specs.Limits.{state_size}
use Rattle.model.specs.Places.{State, kind_of, place}
use Rattle.model.specs.Step.{Row, row, result, next, after, bus_after, meaning, argument, taken, target_line}
use Rattle.model.specs.Run.{ran, run_on}
use Rattle.model.proofs.Runs.{stopped, step_run, run-zero}
use Rattle.std.specs.Prelude.{Ok, Err}
use Rattle.model.specs.declared.Condition.TheVariants.{SeveralValues, TooManyValues}
use Rattle.sets.specs.declared.Verdict.TheVariants.{Balanced, Spent, Leak}
use Rattle.sets.specs.Walk.{Judged, refused_by, Sets, max_values, several, values, distinct, heads, base, branches, meanings, loose, unsettled, written, steady, onto, buses, ended, walk}
use Rattle.sets.specs.Claims.{In, Drawn, Full}
use Rattle.sets.proofs.Members.{in_some, in_distinct, in_map, settled}
use Rattle.sets.proofs.DrawnStates.{heads_drawn, drawn_in, full-set, place_by, argument_by, in_written, written_once, in_buses, by_steady, steady-row}

-- ---- 21 does not hold

-- a place has one value
abbrev pub One : Sets → ℕ → Type 0
One S i = T (not (several (values S i)))

-- an argument of a line of that mark and its base have one value each
abbrev pub Firm : Sets → Mark → Operand → Type 0
Firm S m o = One S (base o) × T (not (several (meanings S m o)))

-- so have the base of the destination, and the arguments of a branch
abbrev pub Settled : Sets → Line → Type 0
Settled S l = One S (base l.destination) × (T (branches l.opcode) → Firm S l.mark l.first × Firm S l.mark l.second)

nor : (a b : Bool) → T (not (a || b)) ↔ (T (not a) × T (not b))
nor true b = (λ h. absurd h, λ h. absurd h.0)
nor false b = (λ h. (tt, h), λ h. h.1)

nand : (a b : Bool) → T (not (a && b)) ↔ (T a → T (not b))
nand true b = (λ h t. h, λ f. f tt)
nand false b = (λ h t. absurd t, λ f. tt)

not_loose : (S : Sets) (m : Mark) (o : Operand) → T (not (loose S m o)) ↔ Firm S m o
unfolding loose
not_loose S m o = nor (several (values S (base o))) (several (meanings S m o))

pub not_unsettled : (S : Sets) (l : Line) → T (not (unsettled S l)) ↔ Settled S l
unfolding unsettled
not_unsettled S l =
    let a = loose S l.mark l.first in
    let b = loose S l.mark l.second in
    let parts = nor (several (values S (base l.destination))) (branches l.opcode && (a || b)) in
    let branch = nand (branches l.opcode) (a || b) in (
      λ h. ((parts.0 h).0, λ t. let w = (nor a b).0 (branch.0 (parts.0 h).1 t) in ((not_loose S l.mark l.first).0 w.0, (not_loose S l.mark l.second).0 w.1)),
      λ h. parts.1 (h.0, branch.1 (λ t. (nor a b).1 ((not_loose S l.mark l.first).1 (h.1 t).0, (not_loose S l.mark l.second).1 (h.1 t).1))),
    )

-- ---- so the line writes one place and goes to one line

taken_by : (op : Opcode) (x y x' y' : ℕ) → (T (branches op) → (x ≡ x') × (y ≡ y')) → taken op x y ≡ taken op x' y'
unfolding taken
taken_by Nop x y x' y' h = refl
taken_by Jmp x y x' y' h = refl
taken_by Not x y x' y' h = refl
taken_by Mov x y x' y' h = refl
taken_by And x y x' y' h = refl
taken_by Orr x y x' y' h = refl
taken_by Xor x y x' y' h = refl
taken_by Lsl x y x' y' h = refl
taken_by Lsr x y x' y' h = refl
taken_by Add x y x' y' h = refl
taken_by Mul x y x' y' h = refl
taken_by Beq x y x' y' h = rw ((h tt).0, (h tt).1)
taken_by Bne x y x' y' h = rw ((h tt).0, (h tt).1)

module _ (S : Sets) (F : Full S) (s : State) (D : Drawn S s) where
  one_value : (i : ℕ) → One S i → get_or s i 0 ≡ get_or (heads S) i 0
  one_value i h = settled (get_or s i 0) (get_or (heads S) i 0) (values S i) h (drawn_in S F s D i) (drawn_in S F (heads S) (heads_drawn S F) i)

  firm_argument : (m : Mark) (o : Operand) → Firm S m o → argument m o s ≡ argument m o (heads S)
  unfolding meanings
  firm_argument m o h =
      let q = place o (heads S) in
      let f = meaning m (kind_of o) in
      let meant : (x : ℕ) → In x (values S q) → In (f x) (distinct (map f (values S q))) = λ x g. in_distinct (f x) (map f (values S q)) (in_map f x (values S q) g) in
      argument_by m o s (heads S) (rw (place_by o s (heads S) (one_value (base o) h.0))
      (settled (f (get_or s q 0)) (f (get_or (heads S) q 0)) (distinct (map f (values S q))) h.1
      (meant (get_or s q 0) (drawn_in S F s D q)) (meant (get_or (heads S) q 0) (drawn_in S F (heads S) (heads_drawn S F) q))))

  settled_next : (l : Line) (k : ℕ) → Settled S l → next l k s ≡ next l k (heads S)
  unfolding next
  settled_next l k h =
      ap (λ (b : Bool). cond b (target_line l.target) (suc k))
      (taken_by l.opcode _ _ _ _ (λ t. (firm_argument l.mark l.first (h.1 t).0, firm_argument l.mark l.second (h.1 t).1)))

  settled_place : (l : Line) → Settled S l → place l.destination s ≡ place l.destination (heads S)
  settled_place l h = place_by l.destination s (heads S) (one_value (base l.destination) h.0)

-- ---- the sets after a step

pub onto-full : (S : Sets) (l : Line) → Full S → Full (onto S l)
unfolding onto
onto-full S l F =
    let some_in = in_some (result l (heads S)) (written S l) (in_written S l (heads S) F (heads_drawn S F)) in
    full-set S (place l.destination (heads S)) (written S l) F some_in (written_once S l)

onto_drawn : (S : Sets) (l : Line) (s : State) → Full S → Drawn S s → Settled S l → Drawn (onto S l) (after l s)
unfolding onto after
onto_drawn S l s F D h =
    rw (settled_place S F s D l h) (record { long = length-set s q (result l s) ∙ D.long; each = λ i g. go i g (ℕ_discrete i q) })
  where
    q : ℕ
    q = place l.destination (heads S)

    go : (i : ℕ) → i < state_size → Dec (i ≡ q) → In (get_or (set s q (result l s)) i 0) (values (set S q (written S l)) i)
    go i g (no n) = rw (get_or-set_other S q i (written S l) (0 ∷ []) n, get_or-set_other s q i (result l s) 0 n) (D.each i g)
    go i g (yes e) =
        rw (← e, get_or-set_same S i (written S l) (0 ∷ []) (omega (arith, F.long)), get_or-set_same s i (result l s) 0 (omega (arith, D.long)))
        (in_written S l s F D)

-- ---- the walk's clauses

pub walk-zero : (p : List Line) (k t : ℕ) (S : Sets) (bus : List ℕ) → walk p zero k t S bus ≡ ended p k t
unfolding walk
walk-zero p k t S bus = refl

pub walk_none : (p : List Line) (n k t : ℕ) (S : Sets) (bus : List ℕ) → get_elem? p k ≡ none → walk p n k t S bus ≡ ended p k t
unfolding walk
walk_none p zero k t S bus e = refl
walk_none p (suc n) k t S bus e = rw (e, walk)

-- the tests of a step, and what comes after where it passes all three
abbrev pub tested : Bool → Bool → Bool → ℕ → ℕ → Judged → Judged
tested unsettles many same k t later = cond unsettles (refused_by SeveralValues k) (cond many (refused_by TooManyValues k) (cond same later (Ok (Leak k t))))

pub walk_some : (p : List Line) (n k t : ℕ) (S : Sets) (bus : List ℕ) (l : Line) → get_elem? p k ≡ some l
    → walk p (suc n) k t S bus
    ≡ tested (unsettled S l) (ltb max_values (length (written S l))) (steady S bus l k) k t (walk p n (next l k (heads S)) (suc t) (onto S l) (buses S bus l))
unfolding walk
walk_some p n k t S bus l e = rw (e, walk)

-- ---- one step

-- balanced or spent
abbrev pub Passed : Judged → Type 0
Passed (Ok (Balanced k t)) = Unit {0}
Passed (Ok (Spent k t)) = Unit {0}
Passed (Ok (Leak k t)) = ⊥
Passed (Err r) = ⊥

tests_passed : (a b c : Bool) (k t : ℕ) (v : Judged) → Passed (tested a b c k t v) → T (not a) × T (not b) × T c
tests_passed true b c k t v h = absurd h
tests_passed false true c k t v h = absurd h
tests_passed false false true k t v h = (tt, tt, tt)
tests_passed false false false k t v h = absurd h

tests_past : (a b c : Bool) (k t : ℕ) (v : Judged) → T (not a) → T (not b) → T c → tested a b c k t v ≡ v
tests_past true b c k t v h g f = absurd h
tests_past false true c k t v h g f = absurd g
tests_past false false true k t v h g f = refl
tests_past false false false k t v h g f = absurd f

-- a line from which the walk goes on
pub record Goes (S : Sets) (bus : List ℕ) (l : Line) (k : ℕ) : Type 0 where
  pub settled : Settled S l
  pub few : length (written S l) ≤ max_values
  pub same_rows : (s : State) (b : ℕ) → Drawn S s → In b bus → row l k (heads S) (get_or bus 0 0) ≡ row l k s b

pub walk_goes : (p : List Line) (n k t : ℕ) (S : Sets) (bus : List ℕ) (l : Line) → get_elem? p k ≡ some l → Full S → Goes S bus l k
    → walk p (suc n) k t S bus ≡ walk p n (next l k (heads S)) (suc t) (onto S l) (buses S bus l)
walk_goes p n k t S bus l e F G =
    let many = ltb max_values (length (written S l)) in
    let later = walk p n (next l k (heads S)) (suc t) (onto S l) (buses S bus l) in
    walk_some p n k t S bus l e
    ∙ tests_past (unsettled S l) many (steady S bus l k) k t later
    ((not_unsettled S l).1 G.settled) (rw (le-ltb max_values (length (written S l)) G.few) tt)
    (by_steady T S bus l k F (λ all. tt) (λ s b D m other. other (G.same_rows s b D m)))

passed_goes : (p : List Line) (n k t : ℕ) (S : Sets) (bus : List ℕ) (l : Line) → get_elem? p k ≡ some l → Full S → Passed (walk p (suc n) k t S bus) → Goes S bus l k
passed_goes p n k t S bus l e F h =
    let many = ltb max_values (length (written S l)) in
    let later = walk p n (next l k (heads S)) (suc t) (onto S l) (buses S bus l) in
    let w = tests_passed (unsettled S l) many (steady S bus l k) k t later (rw (walk_some p n k t S bus l e) at h) in
    record { settled = (not_unsettled S l).0 w.0; few = nltb→le max_values (length (written S l)) w.1; same_rows = λ s b D m. steady-row S bus l k s b F D m w.2 }

-- ---- whole walks

-- all runs from drawn states, with each value on the bus, have the same rows and end at the same line, and the walk ends as they do
pub record Foretold (p : List Line) (n k t : ℕ) (S : Sets) (bus : List ℕ) : Type 0 where
  pub rows : List Row
  pub at : ℕ
  pub ends : walk p n k t S bus ≡ ended p at (t + length rows)
  pub same_rows : (s : State) (b : ℕ) → Drawn S s → In b bus → (run_on p n k s b).rows ≡ rows
  pub same_at : (s : State) (b : ℕ) → Drawn S s → In b bus → (run_on p n k s b).at ≡ at

foretold_end : (p : List Line) (n k t : ℕ) (S : Sets) (bus : List ℕ) → walk p n k t S bus ≡ ended p k t → ((s : State) (b : ℕ) → run_on p n k s b ≡ ran k s b []) → Foretold p n k t S bus
foretold_end p n k t S bus e h =
    record { rows = []; at = k; ends = e ∙ ap (ended p k) (omega arith); same_rows = λ s b D m. rw (h s b); same_at = λ s b D m. rw (h s b) }

pub walk_sound : (p : List Line) (n k t : ℕ) (S : Sets) (bus : List ℕ) → Full S → Passed (walk p n k t S bus) → Foretold p n k t S bus
walk_sound p zero k t S bus F h = foretold_end p zero k t S bus (walk-zero p k t S bus) (run-zero p k)
walk_sound p (suc n) k t S bus F h = go (λ k t S bus F h. walk_sound p n k t S bus F h) (get_elem? p k) refl
  where
    go : ((k t : ℕ) (S : Sets) (bus : List ℕ) → Full S → Passed (walk p n k t S bus) → Foretold p n k t S bus)
        → (o : Option Line) → get_elem? p k ≡ o → Foretold p (suc n) k t S bus
    go later none e = foretold_end p (suc n) k t S bus (walk_none p (suc n) k t S bus e) (λ s b. stopped p k s b e (suc n))
    go later (some l) e =
        let G = passed_goes p n k t S bus l e F h in
        let step = walk_goes p n k t S bus l e F G in
        let A = later (next l k (heads S)) (suc t) (onto S l) (buses S bus l) (onto-full S l F) (subst Passed step h) in
        let next-same : (s : State) → Drawn S s → next l k s ≡ next l k (heads S) = λ s D. settled_next S F s D l k G.settled in
        let drawn : (s : State) → Drawn S s → Drawn (onto S l) (after l s) = λ s D. onto_drawn S l s F D G.settled in
        record {
          rows = row l k (heads S) (get_or bus 0 0) ∷ A.rows;
          at = A.at;
          ends = step ∙ A.ends ∙ ap (ended p A.at) (omega arith);
          same_rows = λ s b D m. rw (step_run p k s b l e n, next-same s D, G.same_rows s b D m, A.same_rows (after l s) (bus_after l s b) (drawn s D) (in_buses S bus l s b F D m));
          same_at = λ s b D m. rw (step_run p k s b l e n, next-same s D, A.same_at (after l s) (bus_after l s b) (drawn s D) (in_buses S bus l s b F D m));
        }
