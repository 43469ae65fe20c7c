-- How long the line of a verdict is at most, so that a store of that length is never refused with 17. Assumes nothing.
use Prim.Native.Nat.{ℕ, ◌≤◌}
use mathlib.Core.Path.{◌≡◌, sym}
use mathlib.Core.Bool.{Bool, true, false, cond}
use mathlib.Core.List.{List, [], ◌∷◌}
use native.Mathlib.Omega.{arith}
use lib.Dec.{ltb, eqb}
use lib.ListN.{length, get_or}
use Rattle.model.specs.Answers.{Report, done, refused, counted, outcome, at_front}
use Rattle.model.specs.Text.{fitted}
use Rattle.model.specs.Programs.{or_refusal}
use Rattle.sets.specs.Walk.{verdict_report}
use Rattle.lines.specs.Reading.{read_input}
use Rattle.lines.proofs.LeftLaws.{all_fits}
use Rattle.lines.proofs.LineTexts.{numbers_most, refusal_most}
use Rattle.verdicts.specs.Verdicts.{verdict_size, verdict_budget, verdict_bytes, image_sets, balanced_text, spent_text, leak_text, verdict_text, verdict_prints}
use Rattle.verdicts.proofs.VerdictTexts.{verdict_prints_lem}

balanced_most : (n : ℕ) → length (balanced_text n) ≤ verdict_bytes
unfolding balanced_text
balanced_most n = omega (arith, numbers_most n [])

spent_most : (n : ℕ) → length (spent_text n) ≤ verdict_bytes
unfolding spent_text
spent_most n = omega (arith, numbers_most n [])

leak_most : (n : ℕ) → length (leak_text n) ≤ verdict_bytes
unfolding leak_text
leak_most n = omega (arith, numbers_most n [])

verdict_line_most : (r : Report) → length (verdict_text r) ≤ verdict_bytes
unfolding verdict_text
verdict_line_most (refused k l) = refusal_most k l
verdict_line_most (done values) = go (eqb (get_or values 0 0) 0) (eqb (get_or values 0 0) 1) (get_or values 2 0) (get_or values 1 0)
  where
    go : (x y : Bool) (n m : ℕ) → length (cond x (balanced_text n) (cond y (spent_text n) (leak_text m))) ≤ verdict_bytes
    go true y n m = balanced_most n
    go false true n m = spent_most n
    go false false n m = leak_most m

pub verdict_most_bytes : (input : List ℕ) → length (verdict_prints input) ≤ verdict_bytes
verdict_most_bytes input = rw (verdict_prints_lem input) (by (ltb verdict_size (length input)) (read_input input).answer (verdict_report (read_input input).stored image_sets verdict_budget))
  where
    by : (long : Bool) (r v : Report) → length (cond long (or_refusal (refused 8 0) []) (or_refusal r (verdict_text v))) ≤ verdict_bytes
    by true r v = refusal_most 8 0
    by false (refused k l) v = refusal_most k l
    by false (done vs) v = verdict_line_most v

-- so the program's store always has room
pub verdict_prints_all : (input out : List ℕ) → verdict_bytes ≤ length out → fitted (verdict_prints input) out ≡ outcome (counted (length (verdict_prints input))) (at_front (verdict_prints input) out ∷ [])
verdict_prints_all input out h = sym (all_fits (verdict_prints input) out (omega (arith, verdict_most_bytes input)))
