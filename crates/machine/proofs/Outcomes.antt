-- What is asked before a run, each way that it is refused, and the outcome of a whole run by it: a refusal, or the loop over steps.
-- Assumes nothing.
use Rattle.std.proofs.Common.{◌≡◌, ℕ, ◌*◌, ◌<◌, ◌≤◌, Bool, true, false, cond, eqb, ltb, List, [], ◌∷◌, length, sym, refl, ◌∙◌, ltb-false, le-ltb, lt-ltb, eq-eqb, ne_eqb, eqb-true}
use Rattle.model.specs.Limits.{state_size, row_width}
use Rattle.std.specs.Prelude.{Result, Err}
use Rattle.model.specs.declared.Refusal.{Refusal}
use Rattle.model.specs.Answers.{Report, report, counted, refused, Outcome, outcome, and_then, unless_refused}
use Rattle.model.specs.Stored.{lines, line_count, program_check}
use Rattle.model.specs.Run.{run, run_leaves, run_outcome}
use Rattle.model.proofs.OutcomeLaws.{never_done, run_outcome_lem}
use Rattle.model.proofs.CheckAnswers.{CountOrRefusal, counts, refuses, either, then_answers, program_answers, refusal, refusal-told, refusal_stands, refusal_leaves}
use Rattle.machine.specs.Loop.{machine, admission, run_from}
use Rattle.machine.proofs.Traces.{run_leaves_lem}

-- ---- what is asked before a run

module _ (p : List ℕ) (budget size room : ℕ) where
  pub no_program : (a : Result ℕ (Refusal ℕ)) (f : Refusal ℕ) → a ≡ Err f → report a ≡ program_check p → refusal f ≡ admission p budget size room
  unfolding admission
  no_program a f q e = refusal_stands f (refusal-told q e) _

  module _ (n : ℕ) (e : program_check p ≡ counted n) where
    pub no_state : (size ≡ state_size → ⊥) → refused 18 0 ≡ admission p budget size room
    unfolding admission
    no_state h = rw (e, ne_eqb size state_size h)

    pub no_room : size ≡ state_size → room < row_width * budget → refused 20 0 ≡ admission p budget size room
    unfolding admission
    no_room h k = rw (e, eq-eqb size state_size h, lt-ltb _ _ k)

    pub admits : size ≡ state_size → row_width * budget ≤ room → counted n ≡ admission p budget size room
    unfolding admission
    admits h k = rw (e, eq-eqb size state_size h, le-ltb _ _ k)

  -- a count or a refusal
  pub admission_answers : CountOrRefusal (admission p budget size room)
  unfolding admission
  admission_answers = then_answers (program_check p) _ (either (eqb size state_size) _ _ (either (ltb room (row_width * budget)) _ _ (refuses 20 0 refl) (program_answers p)) (refuses 18 0 refl))

  -- what a count says
  pub record Admitted (n : ℕ) : Type 0 where
    pub program : program_check p ≡ counted n
    pub state : size ≡ state_size
    pub trace : row_width * budget ≤ room

  pub admitted : (n : ℕ) → admission p budget size room ≡ counted n → Admitted n
  unfolding admission
  admitted n = go (program_answers p)
    where
      by_room : (u : Bool) → ltb room (row_width * budget) ≡ u → cond u (refused 20 0) (program_check p) ≡ counted n → size ≡ state_size → Admitted n
      by_room true f e h = absurd (never_done e)
      by_room false f e h = record { program = e; state = h; trace = ltb-false _ _ f }

      by_state : (u : Bool) → eqb size state_size ≡ u → cond u (cond (ltb room (row_width * budget)) (refused 20 0) (program_check p)) (refused 18 0) ≡ counted n → Admitted n
      by_state true f e = by_room (ltb room (row_width * budget)) refl e (eqb-true _ _ f)
      by_state false f e = absurd (never_done e)

      passes : (r x : Report) (m : ℕ) → r ≡ counted m → and_then r x ≡ x
      passes r x m e = rw e

      go : CountOrRefusal (program_check p) → admission p budget size room ≡ counted n → Admitted n
      go (counts m q) e = by_state (eqb size state_size) refl (sym (passes (program_check p) _ m q) ∙ e)
      go (refuses k l q) e = absurd (never_done (rw q at e))

-- ---- the outcome of a run

module _ (p : List ℕ) (start budget : ℕ) (s t : List ℕ) where
  -- a refusal, or what the run leaves
  pub by_admission : run_outcome p start budget s t ≡ unless_refused (admission p budget (length s) (length t)) (s ∷ t ∷ []) (run_leaves (lines p) (run (lines p) budget start s) t)
  unfolding run_outcome admission
  by_admission = go (program_answers p)
    where
      tests : (u v : Bool) (n : ℕ) (ss : List (List ℕ)) (x : Outcome)
          → cond u (cond v (outcome (refused 20 0) ss) x) (outcome (refused 18 0) ss) ≡ unless_refused (cond u (cond v (refused 20 0) (counted n)) (refused 18 0)) ss x
      tests true true n ss x = refl
      tests true false n ss x = refl
      tests false v n ss x = refl

      go : CountOrRefusal (program_check p) → run_outcome p start budget s t ≡ unless_refused (admission p budget (length s) (length t)) (s ∷ t ∷ []) (run_leaves (lines p) (run (lines p) budget start s) t)
      go (counts n e) = rw e (tests (eqb (length s) state_size) (ltb (length t) (row_width * budget)) n _ _)
      go (refuses k l e) = rw e

  pub turned_down : (a : Result ℕ (Refusal ℕ)) (f : Refusal ℕ) → a ≡ Err f → report a ≡ admission p budget (length s) (length t) → outcome (refusal f) (s ∷ t ∷ []) ≡ run_outcome p start budget s t
  turned_down a f q e = refusal_leaves f (refusal-told q e) (s ∷ t ∷ []) _ ∙ sym by_admission

  pub runs : (n : ℕ) → admission p budget (length s) (length t) ≡ counted n → run_from p (line_count p) budget (machine (record { counter = start; steps = 0; bus = 0 }) s t) ≡ run_outcome p start budget s t
  runs n e =
      let a = admitted p budget (length s) (length t) n e in
      run_leaves_lem p start budget s t a.trace ∙ sym (run_outcome_lem p start budget n s t a.program a.state a.trace)
