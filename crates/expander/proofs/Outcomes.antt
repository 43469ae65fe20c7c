-- What the expander answers, and what the lent store holds afterwards.
-- Assumes nothing.
use mathlib.Core.Path.{◌≡◌, sym, ◌∙◌}
use mathlib.Core.List.{List, [], ◌∷◌, flat_map}
use Prim.Native.Nat.{ℕ, ◌+◌, ◌*◌, ◌≤◌, ◌<◌}
use native.Mathlib.Omega.{arith}
use borrow.Author.Tests.{lt-ltb, le-ltb}
use lib.ListN.{length, get_or}
use Rattle.model.specs.declared.Layout.{Layout}
use Rattle.model.specs.Layouts.{Known}
use Rattle.std.specs.Prelude.{Result, Ok, Err}
use Rattle.model.specs.declared.Refusal.{Refusal}
use Rattle.model.specs.Answers.{report, outcome, counted, refused}
use Rattle.model.specs.Stored.{codes, line_count, lines}
use Rattle.model.specs.Expansion.{expansion_in, start, joined, expand, written}
use Rattle.model.specs.Limits.{max_accepted, longest}
use Rattle.model.specs.Marks.{mark_check, Accepted}
use Rattle.model.proofs.StoredLaws.{length-lines, codes-length}
use Rattle.model.proofs.Acceptance.{accepted_right}
use Rattle.model.proofs.ExpansionLaws.{expand-length, expansion_most, expansion_correct, mark_accepted}
use Rattle.model.proofs.CheckAnswers.{refusal, count-told, refusal-told, refusal_leaves}
use Rattle.expander.specs.Starts.{looked_up, Starts, LookedUp}
use Rattle.pieces.specs.Writes.{put}
use Rattle.pieces.proofs.StoreWrites.{stored-correct}
use Rattle.expander.proofs.StartTable.{looked_up_lem, starts_last}

-- ---- the expansion of an accepted program

pub accepted_few : (p : List ℕ) → Accepted (lines p) → line_count p ≤ max_accepted
accepted_few p A = omega (arith, (accepted_right (lines p) A).few, length-lines p)

module _ (L : Layout) (K : Known L) (p starts out : List ℕ) (A : Accepted (lines p)) (S : Starts L starts (lines p)) where
  -- the last start, which is the length of the expansion
  total_is : get_or starts (line_count p) 0 ≡ length (expand L (lines p))
  total_is = starts_last L starts p (accepted_few p A) S

  pub total_start : get_or starts (line_count p) 0 ≡ start L (lines p) (line_count p)
  total_start = total_is ∙ expand-length L (lines p) (line_count p) (sym (length-lines p))

  pub total_few : get_or starts (line_count p) 0 ≤ longest * max_accepted
  total_few = omega (arith, total_is, expansion_most L K (lines p) A)

  pub no_room : line_count out < get_or starts (line_count p) 0 → outcome (refused 17 0) (out ∷ []) ≡ written (expand L (lines p)) out
  unfolding written
  no_room h = rw (lt-ltb (line_count out) (length (expand L (lines p))) (omega (arith, total_is)))

  pub all_written : (o : List ℕ) → get_or starts (line_count p) 0 ≤ line_count out → o ≡ put out 0 (joined L (looked_up starts) (lines p))
      → outcome (counted (get_or starts (line_count p) 0)) (o ∷ []) ≡ written (expand L (lines p)) out
  unfolding written put LookedUp
  all_written o h e =
      let q : 6 * (0 + length (expand L (lines p))) ≡ length (flat_map codes (expand L (lines p))) = omega (arith, codes-length (expand L (lines p))) in
      rw (
        e,
        looked_up_lem L starts (lines p) A S,
        stored-correct (expand L (lines p)) (expansion_correct L K (lines p) A),
        q,
        le-ltb (line_count out) (length (expand L (lines p))) (omega (arith, total_is)),
        total_is,
      )

-- ---- the expansion of any stored program

module _ (L : Layout) (p out : List ℕ) where
  pub expand_stops : (a : Result ℕ (Refusal ℕ)) (f : Refusal ℕ) → a ≡ Err f → report a ≡ mark_check p → outcome (refusal f) (out ∷ []) ≡ expansion_in L p out
  unfolding expansion_in
  expand_stops a f q e = refusal_leaves f (refusal-told q e) (out ∷ []) _

  pub expand_goes_on : (o : List ℕ) (a r : Result ℕ (Refusal ℕ)) (n : ℕ) → report a ≡ mark_check p → a ≡ Ok n → outcome (report r) (o ∷ []) ≡ written (expand L (lines p)) out
      → outcome (report r) (o ∷ []) ≡ expansion_in L p out
  unfolding expansion_in written
  expand_goes_on o a r n e q w = rw (count-told q e) w

pub accepted_by : (p : List ℕ) (a : Result ℕ (Refusal ℕ)) (n : ℕ) → report a ≡ mark_check p → a ≡ Ok n → Accepted (lines p)
accepted_by p a n e q = mark_accepted p n (count-told q e)
