-- Request 01 from the claims over the definitions to the calls: a report that is clear was refused by no check, so each run leaves what the
-- definition's run leaves. Assumes nothing.
use mathlib.Core.Path.{◌≡◌, sym, ap, ap₂, ◌∙◌, subst}
use mathlib.Core.List.{List, [], ◌∷◌, flat_map}
use Prim.Native.Nat.{ℕ, ◌*◌, ◌≤◌}
use lib.ListN.{length}
use Rattle.model.specs.Layouts.{layout_of}
use Rattle.model.specs.Answers.{Report, done, report, counted, Outcome, outcome, at_front, and_then}
use Rattle.model.specs.Limits.{line_width}
use Rattle.model.specs.Expansion.{expand_outcome}
use Rattle.std.specs.Prelude.{Result, Ok}
use Rattle.model.specs.declared.Refusal.{Refusal}
use Rattle.model.specs.Places.{State}
use Rattle.model.specs.Stored.{lines, program_check}
use Rattle.model.specs.Run.{run, run_outcome}
use Rattle.model.proofs.OutcomeLaws.{run_outcome_lem}
use Rattle.model.proofs.CheckAnswers.{CountOrRefusal, counts, refuses, program_answers}
use Rattle.sets.specs.Walk.{told, judged, verdict_report}
use Rattle.sets.specs.Claims.{Clear, Images}
use Rattle.sets.proofs.Reports.{sound}
use Rattle.sets.proofs.Expansions.{no_false_alarm}
use Rattle.balance.specs.VerdictClaims.{DrawnTwins, AsJudged, SoundCalls, ClearExpansion}
use Rattle.balance.specs.EntryClaims.{Expanded, listing}
use Rattle.balance.proofs.EntryRuns.{listed, ending, answer_is, leaves_is}

-- a clear report is of a program that no check refused
clear_counts : (r v : Report) → CountOrRefusal r → Clear (and_then r v) → (n : ℕ) × (r ≡ counted n)
clear_counts r v (counts n e) h = (n, e)
clear_counts r v (refuses k l e) h = absurd (subst (λ (z : Report). Clear (and_then z v)) e h)

checked : (q sets : List ℕ) (b : ℕ) → Clear (verdict_report q sets b) → (n : ℕ) × (program_check q ≡ counted n)
unfolding verdict_report
checked q sets b h = clear_counts (program_check q) (told (judged (lines q) sets b)) (program_answers q) h

pub sound_calls : SoundCalls
sound_calls q sets b s t x y D h =
    let A = sound q sets b h s t D.one D.other in
    let n = checked q sets b h in
    let p = lines q in
    let one = run p b 0 s in
    let other = run p b 0 t in
    let call : run_outcome q 0 b s x ≡ outcome (done (ending p one ∷ one.at ∷ length one.rows ∷ [])) (one.state ∷ at_front (flat_map (λ r. r) one.rows) x ∷ []) =
    run_outcome_lem q 0 b n.0 s x n.1 D.one.long D.room ∙ leaves_is p one x in
    record {
      same = record {
        values = ending p one ∷ one.at ∷ length one.rows ∷ [];
        rows = flat_map (λ r. r) one.rows;
        state_one = one.state;
        state_other = other.state;
        one_call = call;
        other_call =
            run_outcome_lem q 0 b n.0 t y n.1 D.other.long D.other_room ∙ leaves_is p other y
            ∙ ap₂ (λ (a : Report) (r : List ℕ). outcome a (other.state ∷ at_front r y ∷ [])) (sym (answer_is p other) ∙ A.other ∙ sym A.one ∙ answer_is p one)
            (ap (flat_map (λ r. r)) (sym A.traces));
      };
      told = ap (λ (o : Outcome). o.answer) call ∙ sym (answer_is p one) ∙ A.one;
    }

pub clear_expansion : ClearExpansion
clear_expansion position spacing p e n E sets b I =
    let N = listed position spacing p e n E in
    subst (λ (q : List ℕ). Clear (verdict_report q sets b)) (sym N.is) (no_false_alarm (layout_of position spacing) N.known (lines p) N.accepted sets b I)

-- ---- the claims as `judged_runs` and `judged_expansion` promise them: of calls whose promises are given

pub judged_claim : (q sets : List ℕ) (b : ℕ) (s t : State) (x y : List ℕ) (r : Report) (one other : Outcome) → r ≡ verdict_report q sets b
    → one ≡ run_outcome q 0 b s x → other ≡ run_outcome q 0 b t y → DrawnTwins sets b s t x y → Clear r → AsJudged r x y one other
judged_claim q sets b s t x y r one other e f g D h = rw (e, f, g) (sound_calls q sets b s t x y D (rw e at h))

module _ (position spacing : ℕ) (p out new : List ℕ) (a : Result ℕ (Refusal ℕ)) (e : outcome (report a) (new ∷ []) ≡ expand_outcome position spacing p out) where
  -- `expand` wrote n lines
  module _ (n : ℕ) (c : a ≡ Ok n) where
    pub counted_call : outcome (counted n) (new ∷ []) ≡ expand_outcome position spacing p out
    counted_call = ap (λ (z : Result ℕ (Refusal ℕ)). outcome (report z) (new ∷ [])) (sym c) ∙ e

    expanded : Expanded position spacing p new n
    expanded = record { lent = out; call = sym counted_call }

    pub listing_fits : line_width * n ≤ length new
    listing_fits = (listed position spacing p new n expanded).fits

    pub clear_on : (sets : List ℕ) (b : ℕ) (r : Report) → r ≡ verdict_report (listing new n) sets b → Images (layout_of position spacing) sets → Clear r
    clear_on sets b r w I = rw w (clear_expansion position spacing p new n expanded sets b I)
