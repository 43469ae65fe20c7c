-- The loop of a watched run leaves what `watch_outcome` says. First a watched run's outcome, by what is asked before it; then the laws of
-- `Going`, the loop's invariant: before the first step, from step to step, at the end.
-- Assumes nothing.
use Rattle.std.proofs.Common.{◌≡◌, ℕ, suc, ◌+◌, ◌-◌, ◌*◌, ◌^◌, ◌<◌, ◌≤◌, Bool, true, false, cond, ltb, List, [], ◌∷◌, ◌++◌, map, length, sym, refl, ap, ◌∙◌, subst, append_assoc, append-nil, arith, length-append}
use Rattle.model.specs.declared.Line.{Line}
use Rattle.std.specs.Prelude.{Result, Err}
use Rattle.model.specs.declared.Refusal.{Refusal}
use Rattle.model.specs.Limits.{row_width, max_lines}
use Rattle.model.specs.Answers.{Report, report, done, counted, refused, halted, spent, Outcome, outcome, unless_refused}
use Rattle.model.specs.Places.{State, place}
use Rattle.model.specs.Stored.{lines, line_at, line_count}
use Rattle.model.specs.Step.{after}
use Rattle.model.specs.Run.{Ran, run_on, run, answer, run_leaves, run_outcome}
use Rattle.model.proofs.StoredLaws.{program_checked, get_line, no_line}
use Rattle.model.proofs.OutcomeLaws.{never_done}
use Rattle.model.proofs.CheckAnswers.{CountOrRefusal, counts, refuses, either, then_answers, refusal, refusal-told, refusal_stands}
use Rattle.model.proofs.Runs.{step_run, stopped, run-zero}
use Rattle.machine.specs.declared.steps.Run.{Run}
use Rattle.machine.specs.declared.steps.Stepped.{Stepped}
use Rattle.machine.specs.Loop.{Machine, machine, step_by, step_of, halted_at, spent_at, run_from, admission as run_admission}
use Rattle.machine.proofs.Loops.{begins, halts, spends, goes_on}
use Rattle.machine.proofs.Outcomes.{admission_answers, admitted, by_admission, runs}
use Rattle.watch.specs.declared.Watch.{Watch}
use Rattle.watch.specs.Watches.{places_written, watched, unwatchable, both, watch_outcome}
use Rattle.watch.specs.Noting.{fresh, noted, admission}
use Rattle.watch.proofs.Writes.{all_noted, none_noted, none_written, one_written}

-- ---- what is asked before a watched run

module _ (p : List ℕ) (budget size room : ℕ) (wrong : Bool) where
  pub no_run : (a : Result ℕ (Refusal ℕ)) (f : Refusal ℕ) → a ≡ Err f → report a ≡ run_admission p budget size room → refusal f ≡ admission p budget size room wrong
  unfolding admission
  no_run a f q e = refusal_stands f (refusal-told q e) _

  pub no_watches : (n : ℕ) → run_admission p budget size room ≡ counted n → wrong ≡ true → refused 26 0 ≡ admission p budget size room wrong
  unfolding admission
  no_watches n e f = rw (e, f)

  pub passes : (n : ℕ) → run_admission p budget size room ≡ counted n → wrong ≡ false → counted n ≡ admission p budget size room wrong
  unfolding admission
  passes n e f = rw (e, f)

  answers : CountOrRefusal (admission p budget size room wrong)
  unfolding admission
  answers = then_answers (run_admission p budget size room) _ (either wrong _ _ (refuses 26 0 refl) (admission_answers p budget size room))

  record Passed (n : ℕ) : Type 0 where
    asked : run_admission p budget size room ≡ counted n
    right : wrong ≡ false

  passed : (n : ℕ) → counted n ≡ admission p budget size room wrong → Passed n
  unfolding admission
  passed n e = go (admission_answers p budget size room)
    where
      by_watches : (m : ℕ) → run_admission p budget size room ≡ counted m → (t : Bool) → wrong ≡ t → counted n ≡ cond t (refused 26 0) (counted m) → Passed n
      by_watches m q true f d = absurd (never_done (sym d))
      by_watches m q false f d = record { asked = q ∙ sym d; right = f }

      go : CountOrRefusal (run_admission p budget size room) → Passed n
      go (counts m q) = by_watches m q wrong refl (rw q at e)
      go (refuses k l q) = absurd (never_done (sym (rw q at e)))

-- ---- the outcome of a watched run

module _ (p : List ℕ) (start budget : ℕ) (s t : List ℕ) (ws : List Watch) where
  abbrev alone : Outcome
  alone = run_outcome p start budget s t

  pub run_refused : (k l : ℕ) → run_admission p budget (length s) (length t) ≡ refused k l → alone ≡ outcome (refused k l) (s ∷ t ∷ [])
  run_refused k l e = by_admission p start budget s t ∙ ap (λ (r : Report). unless_refused r (s ∷ t ∷ []) (run_leaves (lines p) (run (lines p) budget start s) t)) e

  pub run_done : (n : ℕ) → run_admission p budget (length s) (length t) ≡ counted n → (vs : List ℕ) × (alone.answer ≡ done vs)
  unfolding run_leaves answer
  run_done n e = go (ltb x.at (length (lines p))) (ap (λ (o : Outcome). o.answer) (by_admission p start budget s t ∙ ap (λ (r : Report). unless_refused r (s ∷ t ∷ []) (run_leaves (lines p) x t)) e))
    where
      x : Ran
      x = run (lines p) budget start s

      go : (u : Bool) → alone.answer ≡ cond u (spent x.at (length x.rows)) (halted x.at (length x.rows)) → (vs : List ℕ) × (alone.answer ≡ done vs)
      go true q = (_, q)
      go false q = (_, q)

  pub watch_refused : (k l : ℕ) → alone ≡ outcome (refused k l) (s ∷ t ∷ []) → both (outcome (refused k l) (s ∷ t ∷ [])) ws ≡ watch_outcome p start budget s t ws
  unfolding watch_outcome
  watch_refused k l e = rw e

  pub watch_none : (vs : List ℕ) → alone.answer ≡ done vs → unwatchable ws ≡ true → both (outcome (refused 26 0) (s ∷ t ∷ [])) ws ≡ watch_outcome p start budget s t ws
  unfolding watch_outcome
  watch_none vs e f = rw (e, f)

  pub watch-ran : (vs : List ℕ) → alone.answer ≡ done vs → unwatchable ws ≡ false
      → both alone (map (watched (places_written (lines p) budget start s) (run (lines p) budget start s).state) ws) ≡ watch_outcome p start budget s t ws
  unfolding watch_outcome
  watch-ran vs e f = rw (e, f)

  -- a refusal
  turned_down_by : (k l : ℕ) → refused k l ≡ admission p budget (length s) (length t) (unwatchable ws) → both (outcome (refused k l) (s ∷ t ∷ [])) ws ≡ watch_outcome p start budget s t ws
  unfolding admission
  turned_down_by k l e = go (admission_answers p budget (length s) (length t))
    where
      same : (k' l' : ℕ) → refused k l ≡ refused k' l' → both (outcome (refused k' l') (s ∷ t ∷ [])) ws ≡ watch_outcome p start budget s t ws → both (outcome (refused k l) (s ∷ t ∷ [])) ws ≡ watch_outcome p start budget s t ws
      same k' l' d g = ap (λ (r : Report). both (outcome r (s ∷ t ∷ [])) ws) d ∙ g

      by_watches : (m : ℕ) → run_admission p budget (length s) (length t) ≡ counted m → (u : Bool) → unwatchable ws ≡ u → refused k l ≡ cond u (refused 26 0) (counted m) → both (outcome (refused k l) (s ∷ t ∷ [])) ws ≡ watch_outcome p start budget s t ws
      by_watches m q true f d = let x = run_done m q in same 26 0 d (watch_none x.0 x.1 f)
      by_watches m q false f d = absurd (never_done d)

      go : CountOrRefusal (run_admission p budget (length s) (length t)) → both (outcome (refused k l) (s ∷ t ∷ [])) ws ≡ watch_outcome p start budget s t ws
      go (counts m q) = by_watches m q (unwatchable ws) refl (rw q at e)
      go (refuses k' l' q) = same k' l' (rw q at e) (watch_refused k' l' (run_refused k' l' q))

  pub turned_down : (a : Result ℕ (Refusal ℕ)) (f : Refusal ℕ) → a ≡ Err f → report a ≡ admission p budget (length s) (length t) (unwatchable ws) → both (outcome (refusal f) (s ∷ t ∷ [])) ws ≡ watch_outcome p start budget s t ws
  turned_down a f q e = turned_down_by _ _ (sym (refusal-told q e))

  -- the count that is admitted is that of the lines
  pub of_lines : (n : ℕ) → admission p budget (length s) (length t) (unwatchable ws) ≡ counted n → admission p budget (length s) (length t) (unwatchable ws) ≡ counted (line_count p)
  of_lines n e =
      let a = passed p budget (length s) (length t) (unwatchable ws) n (sym e) in
      let d = admitted p budget (length s) (length t) n a.asked in
      e ∙ ap (λ (m : ℕ). counted m) (program_checked p n d.program).count

-- ---- the loop

module _ (p : List ℕ) (start budget : ℕ) (s₀ t₀ : List ℕ) (ws₀ : List Watch) where
  abbrev Left : Outcome → List Watch → Type 0
  Left o ws = both o ws ≡ watch_outcome p start budget s₀ t₀ ws₀

  -- the run goes on: what is left of it gives the whole one's outcome, places and state, and the watches are up to date
  pub record Going (r : Run) (s tr : List ℕ) (ws : List Watch) : Type 0 where
    pub js : List ℕ
    pub few : line_count p ≤ max_lines
    pub tally : r.steps ≡ length js
    pub within : r.steps ≤ budget
    pub wide : row_width * budget ≤ length tr
    pub right : unwatchable ws₀ ≡ false
    pub rest : run_from p (line_count p) (budget - r.steps) (machine r s tr) ≡ run_outcome p start budget s₀ t₀
    pub places : js ++ places_written (lines p) (budget - r.steps) r.counter s ≡ places_written (lines p) budget start s₀
    pub final : (run_on (lines p) (budget - r.steps) r.counter s r.bus).state ≡ (run (lines p) budget start s₀).state
    pub seen : ws ≡ map (watched js s) ws₀

  -- before the first step
  pub begins_at : (ws : List Watch) → admission p budget (length s₀) (length t₀) (unwatchable ws₀) ≡ counted (line_count p) → ws ≡ map (fresh s₀) ws₀
      → Going (record { counter = start; steps = 0; bus = 0 }) s₀ t₀ ws
  begins_at ws e f =
      let n = line_count p in
      let a = passed p budget (length s₀) (length t₀) (unwatchable ws₀) n (sym e) in
      let d = admitted p budget (length s₀) (length t₀) n a.asked in
      let all_left : budget - 0 ≡ budget = omega arith in
      record {
        js = [];
        few = (program_checked p n d.program).few;
        tally = refl;
        within = omega arith;
        wide = d.trace;
        right = a.right;
        rest = begins p n budget (machine (record { counter = start; steps = 0; bus = 0 }) s₀ t₀) ∙ runs p start budget s₀ t₀ n a.asked;
        places = ap (λ (m : ℕ). places_written (lines p) m start s₀) all_left;
        final = ap (λ (m : ℕ). (run (lines p) m start s₀).state) all_left;
        seen = f ∙ none_noted s₀ ws₀;
      }

  module _ (r : Run) (s tr : List ℕ) (ws : List Watch) (i : Going r s tr ws) where
    abbrev m : Machine
    m = machine r s tr

    -- an end: nothing is left to write
    ends_by : (vs : List ℕ) → outcome (done vs) (s ∷ tr ∷ []) ≡ run_outcome p start budget s₀ t₀ → places_written (lines p) (budget - r.steps) r.counter s ≡ []
        → (run_on (lines p) (budget - r.steps) r.counter s r.bus).state ≡ s → Left (outcome (done vs) (s ∷ tr ∷ [])) ws
    ends_by vs e none_left stays =
        let js-all = sym (append-nil i.js) ∙ ap (λ (u : List ℕ). i.js ++ u) (sym none_left) ∙ i.places in
        let last : s ≡ (run (lines p) budget start s₀).state = sym stays ∙ i.final in
        ap (λ (o : Outcome). both o ws) e
        ∙ ap (λ (us : List Watch). both (run_outcome p start budget s₀ t₀) us) (i.seen ∙ ap (λ (u : List ℕ). map (watched u s) ws₀) js-all ∙ ap (λ (u : State). map (watched (places_written (lines p) budget start s₀) u) ws₀) last)
        ∙ watch-ran p start budget s₀ t₀ ws₀ vs (sym (ap (λ (o : Outcome). o.answer) e)) i.right

    pub ends_halted : line_count p ≤ r.counter → Left (halted_at m) ws
    ends_halted h =
        ends_by (0 ∷ r.counter ∷ r.steps ∷ []) (sym (halts p (line_count p) (budget - r.steps) m h) ∙ i.rest)
        (none_written (lines p) (budget - r.steps) r.counter s (no_line p r.counter h))
        (ap (λ (x : Ran). x.state) (stopped (lines p) r.counter s r.bus (no_line p r.counter h) (budget - r.steps)))

    pub ends_spent : r.counter < line_count p → budget ≤ r.steps → Left (spent_at m) ws
    unfolding places_written
    ends_spent h k =
        let z : budget - r.steps ≡ 0 = omega (arith, k) in
        ends_by (1 ∷ r.counter ∷ r.steps ∷ []) (sym (spends p (line_count p) budget m h k) ∙ i.rest) (rw z)
        (rw z (ap (λ (x : Ran). x.state) (run-zero (lines p) r.counter s r.bus)))

    -- a step
    abbrev l : Line
    l = line_at p r.counter

    abbrev Next : Machine → Type 0
    Next m' = length m'.trace ≡ length tr → Going m'.run m'.state m'.trace (map (noted m'.state (place l.destination s) m'.run.steps) ws)

    step_next : budget < 2 ^ 16 → r.counter < line_count p → r.steps < budget → Next (step_of p m)
    unfolding step_by
    step_next small h k wide' =
        let z : budget - r.steps ≡ suc (budget - (r.steps + 1)) = omega (arith, k) in
        record {
          js = i.js ++ place l.destination s ∷ [];
          few = i.few;
          tally = omega (arith, i.tally, length-append i.js (place l.destination s ∷ []));
          within = omega (arith, k);
          wide = omega (arith, wide', i.wide);
          right = i.right;
          rest = goes_on p (line_count p) budget m (step_of p m) _ h k refl i.rest;
          places = append_assoc i.js (place l.destination s ∷ []) _ ∙ ap (λ (u : List ℕ). i.js ++ u) (sym (one_written (lines p) _ r.counter s l (get_line p r.counter h))) ∙ ap (λ (n : ℕ). i.js ++ places_written (lines p) n r.counter s) (sym z) ∙ i.places;
          final = ap (λ (x : Ran). x.state) (sym (step_run (lines p) r.counter s r.bus l (get_line p r.counter h) _)) ∙ ap (λ (n : ℕ). (run_on (lines p) n r.counter s r.bus).state) (sym z) ∙ i.final;
          seen = ap (λ (us : List Watch). map (noted (after l s) (place l.destination s) (r.steps + 1)) us) i.seen ∙ all_noted i.js l s (r.steps + 1) ws₀ (omega (arith, i.tally)) (omega (arith, k, small));
        }

    pub goes_to : (x : Stepped) (s' tr' : List ℕ) (ws' : List Watch) → budget < 2 ^ 16 → r.counter < line_count p → r.steps < budget → machine x.run s' tr' ≡ step_of p m
        → x.place ≡ place l.destination s → length tr' ≡ length tr → ws' ≡ map (noted s' x.place x.run.steps) ws → Going x.run s' tr' ws'
    goes_to x s' tr' ws' small h k e q wide' f =
        let next : Next (machine x.run s' tr') = subst Next (sym e) (step_next small h k) in
        subst (λ (us : List Watch). Going x.run s' tr' us) (sym (f ∙ ap (λ (j : ℕ). map (noted s' j x.run.steps) ws) q)) (next wide')
