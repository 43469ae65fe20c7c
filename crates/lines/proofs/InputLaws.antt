-- A text that is read into a store with room for every line: what is answered, and that the numbers of its lines stand at the front.
-- Assumes nothing.
use Prim.Native.Nat.{ℕ, ◌*◌, ◌/◌, ◌≤◌}
use mathlib.Core.Path.{◌≡◌, refl, sym, ap, ◌∙◌}
use mathlib.Core.List.{List, [], ◌∷◌}
use native.Mathlib.Omega.{arith}
use lib.ListN.{length, take, drop, length-append}
use lib.Seq.{take_at}
use Rattle.std.specs.Prelude.{Result, Ok, Err}
use Rattle.model.specs.declared.Refusal.{Refusal}
use Rattle.model.specs.Limits.{line_width, max_lines}
use Rattle.model.specs.Answers.{Report, report, counted, Outcome, outcome, at_front}
use Rattle.model.specs.Text.{Reading, reading, read_outcome}
use Rattle.model.proofs.StoredLaws.{codes-length}
use Rattle.model.proofs.RoundTrip.{read_outcome_lem, reads-back}
use Rattle.model.proofs.OutcomeLaws.{first_store}
use Rattle.model.proofs.CheckAnswers.{refusal, count-told, refusal-told}
use Rattle.lines.specs.Reading.{read_input}

pub read_input_lem : (input : List ℕ) → read_input input ≡ reading max_lines 0 max_lines input
unfolding read_input
read_input_lem input = refl

module _ (input store new : List ℕ) (a : Result ℕ (Refusal ℕ)) (same : reading max_lines 0 (length store / line_width) input ≡ read_input input) (e : outcome (report a) (new ∷ []) ≡ read_outcome input store) where
  outcome_is : outcome (report a) (new ∷ []) ≡ outcome (read_input input).answer (at_front (read_input input).stored store ∷ [])
  outcome_is = e ∙ read_outcome_lem input store ∙ ap (λ (r : Reading). outcome r.answer (at_front r.stored store ∷ [])) same

  pub answer_is : report a ≡ (read_input input).answer
  answer_is = ap (λ (o : Outcome). o.answer) outcome_is

  store_is : new ≡ at_front (read_input input).stored store
  store_is = ap first_store outcome_is

  pub refusal_read : (f : Refusal ℕ) → a ≡ Err f → (read_input input).answer ≡ refusal f
  refusal_read f q = refusal-told q answer_is

  module _ (n : ℕ) (counted-n : a ≡ Ok n) where
    pub count_is : (read_input input).answer ≡ counted n
    count_is = count-told counted-n answer_is

    stored-length : length (read_input input).stored ≡ line_width * n
    stored-length =
        let q : read_input input ≡ record { answer = counted n; stored = (read_input input).stored } = ap (λ (r : Report). record { answer = r; stored = (read_input input).stored }) count_is in
        let r = reads-back max_lines 0 max_lines input n (read_input input).stored (omega arith) (sym (read_input_lem input) ∙ q) in
        ap length r.stored_is ∙ codes-length r.lines_are ∙ omega (arith, r.count)

    pub stored_fits : line_width * n ≤ length new
    stored_fits = omega (arith, ap length store_is, stored-length, length-append (read_input input).stored (drop (length (read_input input).stored) store))

    pub stored-part : take (line_width * n) new ≡ (read_input input).stored
    stored-part = ap (take (line_width * n)) store_is ∙ take_at (read_input input).stored (drop (length (read_input input).stored) store) (line_width * n) stored-length
