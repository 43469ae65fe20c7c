-- What the third program prints: the line of each verdict, from the input's bytes to that line, and that the expansion of an accepted
-- program raises no alarm. Assumes nothing.
use Prim.Native.Nat.{ℕ, zero, suc, ◌*◌, ◌/◌, ◌≤◌, ◌<◌}
use mathlib.Core.Path.{◌≡◌, refl, sym, ap, ◌∙◌, subst}
use mathlib.Core.Bool.{cond}
use mathlib.Core.List.{List, [], ◌∷◌, flat_map}
use native.Mathlib.Omega.{arith}
use borrow.Author.Tests.{lt-ltb, le-ltb}
use lib.Dec.{ltb, eqb}
use lib.ListN.{length, get_or, take}
use Rattle.std.specs.Prelude.{Result, Ok, Err}
use Rattle.model.specs.declared.Refusal.{Refusal}
use Rattle.model.specs.declared.Line.{Line}
use Rattle.model.specs.Layouts.{neighbours}
use Rattle.model.proofs.Finite.{near}
use Rattle.model.specs.Limits.{line_width, max_lines}
use Rattle.model.specs.Answers.{Report, done, report, refused, outcome}
use Rattle.model.specs.Stored.{codes}
use Rattle.model.specs.Text.{Reading, reading, read_outcome, spell_line}
use Rattle.model.specs.Marks.{Accepted}
use Rattle.model.specs.Expansion.{expand}
use Rattle.model.specs.Programs.{or_refusal}
use Rattle.model.proofs.RoundTrip.{reads_lines}
use Rattle.model.proofs.ExpansionLaws.{expansion_most, expansion_correct}
use Rattle.model.proofs.CheckAnswers.{refusal}
use Rattle.sets.specs.declared.Verdict.TheVariants.{Balanced, Spent, Leak}
use Rattle.sets.specs.Walk.{told, verdict_report}
use Rattle.sets.specs.Claims.{Clear}
use Rattle.sets.proofs.Expansions.{no_false_alarm}
use Rattle.lines.specs.Printing.{rows_from, rows_text, lines_text}
use Rattle.lines.specs.Reading.{read_input}
use Rattle.verdicts.specs.Verdicts.{verdict_size, verdict_budget, image_sets, balanced_text, spent_text, leak_text, verdict_text, verdict_prints, NoAlarm, balanced, spent}
use Rattle.lines.proofs.InputLaws.{read_input_lem, refusal_read, count_is, stored_fits, stored-part}
use Rattle.verdicts.proofs.VerdictSets.{image_sets_lem}

-- ---- the line of each verdict

pub balanced_line : (counter steps : ℕ) → lines_text [] (98 ∷ 97 ∷ 108 ∷ 97 ∷ 110 ∷ 99 ∷ 101 ∷ 100 ∷ 44 ∷ []) (steps ∷ []) ≡ verdict_text (told (Ok (Balanced counter steps)))
unfolding lines_text rows_text rows_from flat_map verdict_text balanced_text
balanced_line counter steps = refl

pub spent_line : (counter steps : ℕ) → lines_text [] (115 ∷ 112 ∷ 101 ∷ 110 ∷ 116 ∷ 44 ∷ []) (steps ∷ []) ≡ verdict_text (told (Ok (Spent counter steps)))
unfolding lines_text rows_text rows_from flat_map verdict_text spent_text
spent_line counter steps = refl

pub leak_line : (line steps : ℕ) → lines_text [] (108 ∷ 101 ∷ 97 ∷ 107 ∷ 44 ∷ []) (line ∷ []) ≡ verdict_text (told (Ok (Leak line steps)))
unfolding lines_text rows_text rows_from flat_map verdict_text leak_text
leak_line line steps = refl

pub refused_line : (f : Refusal ℕ) → or_refusal (refusal f) [] ≡ verdict_text (told (Err f))
unfolding verdict_text
refused_line f = refl

-- ---- from the input to the line

pub verdict_prints_lem : (input : List ℕ) → verdict_prints input
    ≡ cond (ltb verdict_size (length input)) (or_refusal (refused 8 0) []) (or_refusal (read_input input).answer (verdict_text (verdict_report (read_input input).stored image_sets verdict_budget)))
unfolding verdict_prints read_input
verdict_prints_lem input = refl

pub long_prints : (input : List ℕ) → verdict_size < length input → or_refusal (refused 8 0) [] ≡ verdict_prints input
long_prints input h = sym (verdict_prints_lem input ∙ rw (lt-ltb verdict_size (length input) h))

short_prints : (input : List ℕ) → length input ≤ verdict_size
    → verdict_prints input ≡ or_refusal (read_input input).answer (verdict_text (verdict_report (read_input input).stored image_sets verdict_budget))
short_prints input h = verdict_prints_lem input ∙ rw (le-ltb verdict_size (length input) h)

module _ (input store new : List ℕ) (a : Result ℕ (Refusal ℕ)) (small : length input ≤ verdict_size) (room : length store ≡ line_width * max_lines) (e : outcome (report a) (new ∷ []) ≡ read_outcome input store) where
  reading_is : reading max_lines 0 (length store / line_width) input ≡ read_input input
  reading_is = let z : length store / line_width ≡ max_lines = omega arith in ap (λ (k : ℕ). reading max_lines 0 k input) z ∙ sym (read_input_lem input)

  pub unread_prints : (f : Refusal ℕ) → a ≡ Err f → or_refusal (report a) [] ≡ verdict_prints input
  unread_prints f q =
      let t : List ℕ = verdict_text (verdict_report (read_input input).stored image_sets verdict_budget) in
      ap (λ (r : Report). or_refusal r []) (ap report q)
      ∙ ap (λ (r : Report). or_refusal r t) (sym (refusal_read input store new a reading_is e f q)) ∙ sym (short_prints input small)

  module _ (n : ℕ) (counted-n : a ≡ Ok n) where
    pub lines_fit : line_width * n ≤ length new
    lines_fit = stored_fits input store new a reading_is e n counted-n

    pub read_prints : verdict_text (verdict_report (take (line_width * n) new) image_sets verdict_budget) ≡ verdict_prints input
    read_prints =
        let p : List ℕ = (read_input input).stored in
        let t : List ℕ = verdict_text (verdict_report p image_sets verdict_budget) in
        ap (λ (l : List ℕ). verdict_text (verdict_report l image_sets verdict_budget)) (stored-part input store new a reading_is e n counted-n)
        ∙ ap (λ (r : Report). or_refusal r t) (sym (count_is input store new a reading_is e n counted-n)) ∙ sym (short_prints input small)

-- ---- no alarm on an expansion

clear_text : (r : Report) → Clear r → NoAlarm (verdict_text r)
unfolding verdict_text
clear_text (refused number line) h = absurd h
clear_text (done values) h = go (get_or values 0 0) h
  where
    go : (k : ℕ) → k < 2 → NoAlarm (cond (eqb k 0) (balanced_text (get_or values 2 0)) (cond (eqb k 1) (spent_text (get_or values 2 0)) (leak_text (get_or values 1 0))))
    go zero g = balanced (get_or values 2 0) refl
    go (suc zero) g = spent (get_or values 2 0) refl
    go (suc (suc k)) g = absurd (omega arith)

-- the text of an accepted program's expansion, as the first program prints it
pub never_alarms : (p : List Line) → Accepted p → length (flat_map spell_line (expand neighbours p)) ≤ verdict_size → NoAlarm (verdict_prints (flat_map spell_line (expand neighbours p)))
never_alarms p A h =
    let ls : List Line = expand neighbours p in
    let input : List ℕ = flat_map spell_line ls in
    let most = expansion_most neighbours near p A in
    let r = read_input_lem input ∙ reads_lines ls (expansion_correct neighbours near p A) max_lines 0 max_lines (omega (arith, most)) (omega (arith, most)) in
    let q : verdict_prints input ≡ verdict_text (verdict_report (flat_map codes ls) image_sets verdict_budget) =
    short_prints input h ∙ ap (λ (x : Reading). or_refusal x.answer (verdict_text (verdict_report x.stored image_sets verdict_budget))) r in
    subst NoAlarm (sym q) (clear_text (verdict_report (flat_map codes ls) image_sets verdict_budget) (no_false_alarm neighbours near p A image_sets verdict_budget image_sets_lem))
