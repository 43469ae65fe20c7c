-- The claims of request 09 about outcomes, by what a watched run's outcome is where the run is refused, where 26 holds, and where neither is so.
-- Assumes nothing.
use Rattle.std.proofs.Common.{◌≡◌, ℕ, suc, Bool, true, false, List, [], ◌∷◌, map, length, sym, refl, ap, ◌∙◌}
use Rattle.model.specs.Answers.{Report, done, refused, Outcome, outcome}
use Rattle.model.specs.Places.{State}
use Rattle.model.specs.Stored.{lines}
use Rattle.model.specs.Run.{run, run_outcome}
use Rattle.model.proofs.OutcomeLaws.{never_done}
use Rattle.model.proofs.CheckAnswers.{CountOrRefusal, counts, refuses}
use Rattle.machine.specs.Loop.{admission}
use Rattle.machine.proofs.Outcomes.{admission_answers}
use Rattle.watch.specs.declared.Watch.{Watch}
use Rattle.watch.specs.Watches.{places_written, watched, unused, some_past, unwatchable, Watched, both, watch_outcome}
use Rattle.watch.specs.Claims.{SameRun, SameCalls, Untouched, places_of, PlacesAlone}
use Rattle.watch.proofs.WatchLaws.{run_refused, run_done, watch_refused, watch_none, watch-ran}

module _ (p : List ℕ) (start budget : ℕ) (s : State) (t : List ℕ) (ws : List Watch) where
  abbrev alone : Outcome
  alone = run_outcome p start budget s t

  abbrev left : Watched
  left = watch_outcome p start budget s t ws

  -- a run is refused, or it is done
  data Ending : Type 0 where
    refuses_as : (k l : ℕ) → alone ≡ outcome (refused k l) (s ∷ t ∷ []) → Ending
    done_with : (vs : List ℕ) → alone.answer ≡ done vs → Ending

  ending : Ending
  ending = go (admission_answers p budget (length s) (length t))
    where
      go : CountOrRefusal (admission p budget (length s) (length t)) → Ending
      go (counts n e) = let x = run_done p start budget s t ws n e in done_with x.0 x.1
      go (refuses k l e) = refuses_as k l (run_refused p start budget s t ws k l e)

  same : unwatchable ws ≡ false → left.run ≡ alone
  same f = go ending
    where
      go : Ending → left.run ≡ alone
      go (refuses_as k l e) = ap (λ (x : Watched). x.run) (sym (watch_refused p start budget s t ws k l e)) ∙ sym e
      go (done_with vs e) = ap (λ (x : Watched). x.run) (sym (watch-ran p start budget s t ws vs e f))

  untouched_by : (k l : ℕ) → left.run.answer ≡ refused k l → left ≡ both (outcome (refused k l) (s ∷ t ∷ [])) ws
  untouched_by k l q = go ending
    where
      with_number : (i j : ℕ) → both (outcome (refused i j) (s ∷ t ∷ [])) ws ≡ left → left ≡ both (outcome (refused k l) (s ∷ t ∷ [])) ws
      with_number i j e = sym e ∙ ap (λ (r : Report). both (outcome r (s ∷ t ∷ [])) ws) (ap (λ (x : Watched). x.run.answer) e ∙ q)

      by_watches : (vs : List ℕ) → alone.answer ≡ done vs → (u : Bool) → unwatchable ws ≡ u → left ≡ both (outcome (refused k l) (s ∷ t ∷ [])) ws
      by_watches vs e true f = with_number 26 0 (watch_none p start budget s t ws vs e f)
      by_watches vs e false f = absurd (never_done (sym q ∙ ap (λ (o : Outcome). o.answer) (same f) ∙ e))

      go : Ending → left ≡ both (outcome (refused k l) (s ∷ t ∷ [])) ws
      go (refuses_as i j e) = with_number i j (watch_refused p start budget s t ws i j e)
      go (done_with vs e) = by_watches vs e (unwatchable ws) refl

  -- a watched run that is not refused: the run is done, and 26 does not hold
  pub record Ran (vs : List ℕ) : Type 0 where
    pub done : alone.answer ≡ done vs
    pub right : unwatchable ws ≡ false

  ran_by : (vs : List ℕ) → left.run.answer ≡ done vs → Ran vs
  ran_by vs q = go ending
    where
      by_watches : (us : List ℕ) → alone.answer ≡ done us → (u : Bool) → unwatchable ws ≡ u → Ran vs
      by_watches us e true f = absurd (never_done (ap (λ (x : Watched). x.run.answer) (watch_none p start budget s t ws us e f) ∙ q))
      by_watches us e false f = record { done = ap (λ (o : Outcome). o.answer) (sym (same f)) ∙ q; right = f }

      go : Ending → Ran vs
      go (refuses_as k l e) = absurd (never_done (ap (λ (x : Watched). x.run.answer) (watch_refused p start budget s t ws k l e) ∙ q))
      go (done_with us e) = by_watches us e (unwatchable ws) refl

-- ---- what the places alone settle

abbrev anew : List ℕ → List Watch
anew places = map unused places

length-anew : (ws : List Watch) → length ws ≡ length (anew (places_of ws))
length-anew [] = refl
length-anew (w ∷ ws) = ap suc (length-anew ws)

past-anew : (ws : List Watch) → some_past ws ≡ some_past (anew (places_of ws))
unfolding some_past
past-anew [] = refl
past-anew (w ∷ ws) = rw (past-anew ws)

unwatchable-anew : (ws : List Watch) → unwatchable ws ≡ unwatchable (anew (places_of ws))
unfolding unwatchable
unwatchable-anew ws = rw (sym (length-anew ws), sym (past-anew ws))

watched-anew : (js : List ℕ) (s : State) (ws : List Watch) → map (watched js s) ws ≡ map (watched js s) (anew (places_of ws))
watched-anew js s [] = refl
watched-anew js s (w ∷ ws) = rw (watched-anew js s ws)

-- ---- the claims

pub same_run : SameRun
same_run p start budget s t ws f = same p start budget s t ws f

pub untouched : Untouched
untouched p start budget s t ws k l q = untouched_by p start budget s t ws k l q

pub places_alone : PlacesAlone
places_alone p start budget s t ws us vs e q =
    let r = ran_by p start budget s t ws vs q in
    let js = places_written (lines p) budget start s in
    let s' = (run (lines p) budget start s).state in
    sym (watch-ran p start budget s t ws vs r.done r.right)
    ∙ ap (λ (x : List Watch). both (run_outcome p start budget s t) x) (watched-anew js s' ws ∙ ap (λ (x : List ℕ). map (watched js s') (anew x)) e ∙ sym (watched-anew js s' us))
    ∙ watch-ran p start budget s t us vs r.done (unwatchable-anew us ∙ ap (λ (x : List ℕ). unwatchable (anew x)) (sym e) ∙ sym (unwatchable-anew ws) ∙ r.right)

-- the two calls: the same stores lent, so the same outcome
pub same_calls : (p : List ℕ) (start budget : ℕ) (s t s' t' places : List ℕ) (x y : Outcome) (seen : List Watch) → both x seen ≡ watch_outcome p start budget s t (map unused places)
    → y ≡ run_outcome p start budget s' t' → SameCalls places (s ∷ t ∷ []) (s' ∷ t' ∷ []) x y
same_calls p start budget s t s' t' places x y seen ex ey f e =
    let es : s ≡ s' = cc in
    let et : t ≡ t' = cc in
    ap (λ (w : Watched). w.run) ex ∙ same p start budget s t (map unused places) f ∙ ap (λ (u : List ℕ). run_outcome p start budget u t) es ∙ ap (λ (u : List ℕ). run_outcome p start budget s' u) et ∙ sym ey
