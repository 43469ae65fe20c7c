-- Taking in, the answer: the lines that are stored are those of the definitions, a correct program, so that what is written is its text. Assumes
-- nothing.
use Prim.Native.Nat.{ℕ, ◌*◌, ◌≤◌}
use mathlib.Core.Path.{◌≡◌, sym, ap, ◌∙◌}
use mathlib.Core.List.{List, [], ◌∷◌, flat_map}
use native.Mathlib.Omega.{arith}
use lib.ListN.{length, take, drop}
use lib.Seq.{sets, take_at}
use Rattle.model.specs.Limits.{line_width, max_accepted}
use Rattle.model.specs.Answers.{report, Report, counted, outcome, at_front}
use Rattle.model.specs.Stored.{codes, program_check}
use Rattle.model.specs.Text.{text_of, fitted, write_outcome}
use Rattle.model.proofs.StoredLaws.{codes-length, whole_check}
use Rattle.model.proofs.CheckAnswers.{refusal, refusal-told, refusal_leaves}
use Rattle.model.proofs.Overwrites.{sets_front}
use Rattle.std.specs.Prelude.{Result, Err}
use Rattle.model.specs.declared.Refusal.{Refusal}
use Rattle.published.specs.Published.{text_lines, none_seen, seen_from, take_in_check, taken_in, take_in_outcome}
use Rattle.published.specs.Passes.{kept_lines}
use Rattle.published.proofs.TakenLines.{Program}
use Rattle.published.proofs.RoundTrip.{taken-lines, few-taken, all_correct}

pub take_refused : (text out : List ℕ) (r : Result ℕ (Refusal ℕ)) (f : Refusal ℕ) → r ≡ Err f → report r ≡ take_in_check text → outcome (refusal f) (out ∷ []) ≡ take_in_outcome text out
unfolding take_in_outcome
take_refused text out r f q e = refusal_leaves f (refusal-told q e) (out ∷ []) _

module _ (text old new : List ℕ) (n : ℕ) (e : take_in_check text ≡ counted n) (room : length old ≡ line_width * max_accepted) (s : new ≡ sets old 0 (kept_lines (seen_from none_seen (text_lines text)) (text_lines text))) where
  few : n ≤ max_accepted
  few = few-taken text n e

  program : Program (seen_from none_seen (text_lines text)) 0 n (text_lines text)
  program = taken-lines text n e

  count : length program.lines_are ≡ n
  count = omega (arith, program.count)

  long : length (flat_map codes program.lines_are) ≡ line_width * n
  long = codes-length program.lines_are ∙ ap (λ (k : ℕ). line_width * k) count

  stored : new ≡ at_front (flat_map codes program.lines_are) old
  stored = s ∙ ap (sets old 0) program.kept ∙ sets_front old (flat_map codes program.lines_are) (omega (arith, long, few, room))

  front : take (line_width * n) new ≡ flat_map codes program.lines_are
  front = ap (take (line_width * n)) stored ∙ take_at (flat_map codes program.lines_are) (drop (length (flat_map codes program.lines_are)) old) (line_width * n) long

  checked : program_check (take (line_width * n) new) ≡ counted n
  checked = ap program_check front ∙ whole_check program.lines_are (all_correct _ program.lines_are program.right) (omega (arith, count, few)) ∙ ap counted count

  same_text : text_of (take (line_width * n) new) ≡ taken_in text
  unfolding taken_in
  same_text = ap text_of (front ∙ sym program.is)

  taken-written : (out : List ℕ) → write_outcome (take (line_width * n) new) out ≡ fitted (taken_in text) out
  unfolding write_outcome
  taken-written out = rw (checked, same_text)

  pub take_done : (out after : List ℕ) (x : Report) → outcome x (after ∷ []) ≡ write_outcome (take (line_width * n) new) out → outcome x (after ∷ []) ≡ take_in_outcome text out
  unfolding take_in_outcome fitted
  take_done out after x w = w ∙ taken-written out ∙ sym (rw e)
