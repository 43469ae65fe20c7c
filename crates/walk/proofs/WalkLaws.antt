-- The loop over steps, one turn at a time: what is left gives the same verdict as the whole. And the refusals of the entry point.
-- Assumes nothing.
use mathlib.Core.Path.{◌≡◌, refl, sym, ap, ap₂, ◌∙◌}
use mathlib.Core.Bool.{Bool, true, false, cond}
use mathlib.Core.List.{List, [], ◌∷◌}
use Prim.Native.Nat.{ℕ, suc, ◌+◌, ◌-◌, ◌*◌, ◌<◌, ◌≤◌}
use native.Mathlib.Omega.{arith}
use borrow.Author.Tests.{lt-ltb, le-ltb, eq-eqb, ne_eqb}
use lib.Dec.{ltb, eqb}
use lib.ListN.{length}
use Rattle.std.specs.Prelude.{Result, Ok, Err}
use Rattle.model.specs.declared.Refusal.{Refusal}
use Rattle.model.specs.declared.Condition.TheVariants.{SeveralValues, TooManyValues, WrongLength}
use Rattle.model.specs.declared.Line.{Line}
use Rattle.model.specs.Limits.{state_size}
use Rattle.model.specs.Answers.{Report, report, refused, counted, and_then}
use Rattle.model.specs.Step.{next}
use Rattle.model.specs.Stored.{line_at, line_count, lines, program_check}
use Rattle.model.proofs.StoredLaws.{length-lines, get_line, no_line}
use Rattle.model.proofs.CheckAnswers.{refusal, refusal-told, refusal_stands}
use Rattle.sets.specs.declared.Verdict.TheVariants.{Balanced, Spent, Leak}
use Rattle.walk.specs.declared.Move.{Move}
use Rattle.walk.specs.declared.Move.TheVariants.{To, Leaks, Refuses}
use Rattle.sets.specs.Walk.{Sets, Judged, refused_by, max_values, set_width, sets_of, sized, heads, unsettled, written, steady, onto, buses, ended, walk, told, judged, verdict_report}
use Rattle.walk.specs.Moves.{moves, verdict_of}
use Rattle.sets.specs.Claims.{Full}
use Rattle.sets.specs.Addresses.{leads}
use Rattle.sets.proofs.Sound.{onto-full, walk_some, walk_none, walk-zero}
use Rattle.sets.proofs.SameBus.{buses_some, buses_led, walk_same}
use Rattle.walk.proofs.StepLaws.{leads_some}

-- ---- one step

by_move : (a b c : Bool) (n k t : ℕ) (v : Judged)
    → cond a (refused_by SeveralValues k) (cond b (refused_by TooManyValues k) (cond c v (Ok (Leak k t)))) ≡ verdict_of (cond a (Refuses SeveralValues) (cond b (Refuses TooManyValues) (cond c (To n) Leaks))) k t v
by_move true b c n k t v = refl
by_move false true c n k t v = refl
by_move false false true n k t v = refl
by_move false false false n k t v = refl

to_next : (a b c : Bool) (n j : ℕ) → To n ≡ cond a (Refuses SeveralValues) (cond b (Refuses TooManyValues) (cond c (To j) Leaks)) → n ≡ j
to_next true b c n j e = let z : ◌≡◌ {A = ℕ} 0 1 = cc in absurd (omega arith)
to_next false true c n j e = let z : ◌≡◌ {A = ℕ} 0 1 = cc in absurd (omega arith)
to_next false false true n j e = cc
to_next false false false n j e = let z : ◌≡◌ {A = ℕ} 0 1 = cc in absurd (omega arith)

pub begins : (p : List Line) (b : ℕ) (S : Sets) (bus : List ℕ) → walk p (b - 0) 0 0 S bus ≡ walk p b 0 0 S bus
begins p b S bus = let z : b - 0 ≡ b = omega arith in rw z

module _ (p : List ℕ) (k t b : ℕ) (S : Sets) (bus : List ℕ) where
  pub spends : k < line_count p → b ≤ t → Ok (Spent k t) ≡ walk (lines p) (b - t) k t S bus
  unfolding ended
  spends h g =
      let z : b - t ≡ 0 = omega arith in
      rw (z, walk-zero (lines p) k t S bus, length-lines p, lt-ltb k (line_count p) h)

  pub balances : line_count p ≤ k → Ok (Balanced k t) ≡ walk (lines p) (b - t) k t S bus
  unfolding ended
  balances h = rw (walk_none (lines p) (b - t) k t S bus (no_line p k h), length-lines p, le-ltb k (line_count p) h)

  module _ (h : k < line_count p) (g : t < b) where
    abbrev l : Line
    l = line_at p k

    -- what is left after the step
    abbrev later : Judged
    later = walk (lines p) (b - (t + 1)) (next l k (heads S)) (t + 1) (onto S l) (buses S bus l)

    one_step : walk (lines p) (b - t) k t S bus ≡ verdict_of (moves S bus l k) k t later
    unfolding moves
    one_step =
        let z : b - t ≡ suc (b - (t + 1)) = omega arith in
        let w : suc t ≡ t + 1 = omega arith in
        ap (λ (n : ℕ). walk (lines p) n k t S bus) z ∙ walk_some (lines p) (b - (t + 1)) k t S bus l (get_line p k h)
        ∙ by_move (unsettled S l) (ltb max_values (length (written S l))) (steady S bus l k) (next l k (heads S)) k t (walk (lines p) (b - (t + 1)) (next l k (heads S)) (suc t) (onto S l) (buses S bus l))
        ∙ ap (λ (n : ℕ). verdict_of (moves S bus l k) k t (walk (lines p) (b - (t + 1)) (next l k (heads S)) n (onto S l) (buses S bus l))) w

    pub ends : (m : Move) (v : Judged) → m ≡ moves S bus l k → verdict_of m k t later ≡ v → v ≡ walk (lines p) (b - t) k t S bus
    ends m v e q = sym (one_step ∙ ap (λ (x : Move). verdict_of x k t later) (sym e) ∙ q)

    goes : (m : Move) (n : ℕ) → m ≡ moves S bus l k → m ≡ To n → n ≡ next l k (heads S)
    unfolding moves
    goes m n e q = to_next (unsettled S l) (ltb max_values (length (written S l))) (steady S bus l k) n (next l k (heads S)) (sym q ∙ e)

    -- the bus is listed by the last address
    pub goes_on : (m : Move) (n : ℕ) (S' : Sets) (bus' : List ℕ) (o : Judged) → m ≡ moves S bus l k → m ≡ To n → S' ≡ onto S l → bus' ≡ leads S bus l → Full S → 0 < length bus
        → walk (lines p) (b - t) k t S bus ≡ o → walk (lines p) (b - (t + 1)) n (t + 1) S' bus' ≡ o
    goes_on m n S' bus' o e q s r F some-bus w =
        rw (goes m n e q, s, r)
        (walk_same (lines p) (b - (t + 1)) (next l k (heads S)) (t + 1) (onto S l) (leads S bus l) (buses S bus l) (onto-full S l F) (leads_some S bus l F some-bus) (buses_some S F bus l some-bus)
        (let led = buses_led S F bus l some-bus in (led.1, led.0))
        ∙ sym (one_step ∙ ap (λ (x : Move). verdict_of x k t later) (sym e ∙ q)) ∙ w)

-- ---- the entry point

module _ (p sets : List ℕ) (b : ℕ) where
  pub no_program : (a : Result ℕ (Refusal ℕ)) (f : Refusal ℕ) → a ≡ Err f → report a ≡ program_check p → refusal f ≡ verdict_report p sets b
  unfolding verdict_report
  no_program a f q e = refusal_stands f (refusal-told q e) (told (judged (lines p) sets b))

  -- the verdict by the two tests
  by_tests : Bool → Bool → Report
  by_tests x y = told (cond x (cond y (walk (lines p) b 0 0 (sets_of sets) (0 ∷ [])) (refused_by TooManyValues 0)) (refused_by WrongLength 0))

  module _ (n : ℕ) (e : program_check p ≡ counted n) where
    tested : by_tests (eqb (length sets) (set_width * state_size)) (sized state_size sets) ≡ verdict_report p sets b
    unfolding verdict_report judged by_tests
    tested = ap (λ (r : Report). and_then r (told (judged (lines p) sets b))) (sym e)

    by : (x y : Bool) → eqb (length sets) (set_width * state_size) ≡ x → sized state_size sets ≡ y → by_tests x y ≡ verdict_report p sets b
    by x y h g = ap₂ by_tests (sym h) (sym g) ∙ tested

    pub no_sets : (length sets ≡ set_width * state_size → ⊥) → refused 18 0 ≡ verdict_report p sets b
    unfolding by_tests
    no_sets h = by false (sized state_size sets) (ne_eqb (length sets) (set_width * state_size) h) refl

    pub no_sizes : length sets ≡ set_width * state_size → sized state_size sets ≡ false → refused 22 0 ≡ verdict_report p sets b
    unfolding by_tests
    no_sizes h g = by true false (eq-eqb (length sets) (set_width * state_size) h) g

    pub walks : (v : Judged) (S : Sets) → length sets ≡ set_width * state_size → sized state_size sets ≡ true → S ≡ sets_of sets → v ≡ walk (lines p) b 0 0 S (0 ∷ []) → told v ≡ verdict_report p sets b
    unfolding by_tests
    walks v S h g e q =
        ap told q ∙ ap (λ (R : Sets). told (walk (lines p) b 0 0 R (0 ∷ []))) e ∙ by true true (eq-eqb (length sets) (set_width * state_size) h) g
