-- From the input's bytes to the expansion: what `text::read` and `expander::expand` leave is what the programs' definitions say, and
-- neither of the two stores is ever too small. Assumes nothing.
use Prim.Native.Nat.{ℕ, ◌*◌, ◌/◌, ◌≤◌, ◌<◌}
use mathlib.Core.Path.{◌≡◌, refl, sym, ap, ◌∙◌}
use mathlib.Core.Bool.{Bool, true, false, cond}
use mathlib.Core.List.{List, [], ◌∷◌, flat_map}
use native.Mathlib.Omega.{arith}
use borrow.Author.Tests.{lt-ltb, le-ltb}
use lib.Dec.{ltb}
use lib.ListN.{length, take, drop, length-append}
use lib.Seq.{take_at}
use Rattle.model.specs.Layouts.{neighbours}
use Rattle.model.proofs.Finite.{near}
use Rattle.std.specs.Prelude.{Result, Ok, Err}
use Rattle.model.specs.declared.Refusal.{Refusal}
use Rattle.model.specs.declared.Line.{Line}
use Rattle.model.specs.Limits.{line_width, longest, max_accepted, max_lines}
use Rattle.model.specs.Answers.{Report, done, report, counted, refused, Outcome, outcome, and_then, unless_refused, at_front}
use Rattle.model.specs.Stored.{codes, line_count, lines, program_check}
use Rattle.model.specs.Text.{reading, spell_line, read_outcome, text_of, write_outcome, fitted}
use Rattle.model.specs.Marks.{mark_check, Accepted}
use Rattle.model.specs.Expansion.{expand, expansion_in, expand_outcome, written}
use Rattle.model.specs.Programs.{input_size, or_refusal, printed, expand_prints}
use Rattle.model.proofs.StoredLaws.{counted_count, never_counted, codes-length}
use Rattle.model.proofs.ExpansionLaws.{expansion_most, expansion_check, expansion_lines, mark_accepted}
use Rattle.model.proofs.OutcomeLaws.{first_store}
use Rattle.model.proofs.CheckAnswers.{CountOrRefusal, counts, refuses, mark_answers, accepted_source, refusal, count-told, refusal-told}
use Rattle.model.specs.Text.{fitted}
use Rattle.lines.specs.Reading.{read_input}
use Rattle.lines.proofs.InputLaws.{read_input_lem, answer_is, stored_fits, stored-part}
use Rattle.programs.specs.Loading.{most_numbers, expansion_of, load_answer, load_outcome}
use Rattle.programs.proofs.ReadRoom.{room_enough}

-- ---- the definitions' clauses, with what they cite shut

expansion_of_lem : (input : List ℕ) → expansion_of input ≡ expand neighbours (lines (read_input input).stored)
unfolding expansion_of
expansion_of_lem input = refl

load-answer : (input : List ℕ) → load_answer input
    ≡ cond (ltb input_size (length input)) (refused 8 0) (and_then (read_input input).answer (and_then (mark_check (read_input input).stored) (counted (length (expansion_of input)))))
unfolding load_answer
load-answer input = refl

load_outcome_lem : (input store : List ℕ)
    → load_outcome input store ≡ unless_refused (load_answer input) (store ∷ []) (outcome (load_answer input) (at_front (flat_map codes (expansion_of input)) store ∷ []))
unfolding load_outcome
load_outcome_lem input store = refl

expand_outcome_lem : (p out : List ℕ) → expand_outcome 0 0 p out
    ≡ unless_refused (mark_check p) (out ∷ []) (cond (ltb (line_count out) (length (expand neighbours (lines p)))) (outcome (refused 17 0) (out ∷ [])) (outcome (counted (length (expand neighbours (lines p)))) (at_front (flat_map codes (expand neighbours (lines p))) out ∷ [])))
unfolding expansion_in written
expand_outcome_lem p out = refl

pub printed_is : (text : List Line → List ℕ) (input : List ℕ) → printed text input
    ≡ cond (ltb input_size (length input)) (or_refusal (refused 8 0) []) (or_refusal (read_input input).answer (or_refusal (mark_check (read_input input).stored) (text (lines (read_input input).stored))))
unfolding printed read_input
printed_is text input = refl

-- ---- what loading answers

pub load_refused : (input store : List ℕ) (k l : ℕ) → load_answer input ≡ refused k l → outcome (refused k l) (store ∷ []) ≡ load_outcome input store
load_refused input store k l e = sym (load_outcome_lem input store ∙ rw e)

pub too_long : (input store : List ℕ) → input_size < length input → outcome (refused 8 0) (store ∷ []) ≡ load_outcome input store
too_long input store h =
    let e : load_answer input ≡ refused 8 0 = load-answer input ∙ rw (lt-ltb input_size (length input) h) in
    load_refused input store 8 0 e

-- ---- an input that is read

-- by the two programs, whose stores have room for a line for each byte
module _ (input store new : List ℕ) (a : Result ℕ (Refusal ℕ)) (small : length input ≤ input_size) (room : length store ≡ line_width * input_size) (e : outcome (report a) (new ∷ []) ≡ read_outcome input store) where
  reading_is : reading max_lines 0 (length store / line_width) input ≡ read_input input
  reading_is = room_enough max_lines 0 (length store / line_width) max_lines input (omega arith) (omega arith) ∙ sym (read_input_lem input)

  then_load : load_answer input ≡ and_then (report a) (and_then (mark_check (read_input input).stored) (counted (length (expansion_of input))))
  then_load = load-answer input ∙ rw (le-ltb input_size (length input) small, ← answer_is input store new a reading_is e)

  pub read_refused : (listing : List ℕ) (f : Refusal ℕ) → a ≡ Err f → outcome (refusal f) (listing ∷ []) ≡ load_outcome input listing
  read_refused listing f q = load_refused input listing _ _ (then_load ∙ rw q)

  module _ (n : ℕ) (counted-n : a ≡ Ok n) where
    pub read_fits : line_width * n ≤ length new
    read_fits = stored_fits input store new a reading_is e n counted-n

    read_part_lem : take (line_width * n) new ≡ (read_input input).stored
    read_part_lem = stored-part input store new a reading_is e n counted-n

    goes_on : load_answer input ≡ and_then (mark_check (read_input input).stored) (counted (length (expansion_of input)))
    goes_on = then_load ∙ rw counted-n

    expand_loads : (listing : List ℕ) → most_numbers ≤ length listing → CountOrRefusal (mark_check (read_input input).stored) → expand_outcome 0 0 (read_input input).stored listing ≡ load_outcome input listing
    expand_loads listing g (refuses k l c) =
        let q : load_answer input ≡ refused k l = goes_on ∙ rw c in
        expand_outcome_lem (read_input input).stored listing ∙ rw c (sym (load_outcome_lem input listing ∙ rw q))
    expand_loads listing g (counts m c) =
        let p : List ℕ = (read_input input).stored in
        let x : expansion_of input ≡ expand neighbours (lines p) = expansion_of_lem input in
        let q : load_answer input ≡ counted (length (expand neighbours (lines p))) = goes_on ∙ rw (c, x) in
        let few : length (expand neighbours (lines p)) ≤ longest * max_accepted = expansion_most neighbours near (lines p) (mark_accepted p m c) in
        let fits : ltb (line_count listing) (length (expand neighbours (lines p))) ≡ false = le-ltb (line_count listing) (length (expand neighbours (lines p))) (omega arith) in
        expand_outcome_lem p listing ∙ rw (c, fits) (sym (load_outcome_lem input listing ∙ rw (q, x)))

    pub read_expands : (listing : List ℕ) → most_numbers ≤ length listing → expand_outcome 0 0 (take (line_width * n) new) listing ≡ load_outcome input listing
    read_expands listing g = rw read_part_lem (expand_loads listing g (mark_answers (read_input input).stored))

-- ---- what was loaded, and what is printed of it

-- a program that was expanded: its lines at the front of the store, and it is what is printed
pub record Loaded (input new : List ℕ) (n : ℕ) : Type 0 where
  pub fits : line_width * n ≤ length new
  pub part : take (line_width * n) new ≡ flat_map codes (expand neighbours (lines (read_input input).stored))
  pub accepted : Accepted (lines (read_input input).stored)
  pub prints : (text : List Line → List ℕ) → printed text input ≡ text (lines (read_input input).stored)

-- each check on the way passed
record Passed (long : Bool) (r m : Report) (k n : ℕ) : Type 0 where
  short : long ≡ false
  values : List ℕ
  read : r ≡ done values
  marks : List ℕ
  marked : m ≡ done marks
  count : k ≡ n

passed : (long : Bool) (r m : Report) (k n : ℕ) → cond long (refused 8 0) (and_then r (and_then m (counted k))) ≡ counted n → Passed long r m k n
passed true r m k n e = absurd (never_counted e)
passed false (refused j l) m k n e = absurd (never_counted e)
passed false (done vs) (refused j l) k n e = absurd (never_counted e)
passed false (done vs) (done ms) k n e = record { short = refl; values = vs; read = refl; marks = ms; marked = refl; count = counted_count e }

module _ (input store new : List ℕ) (a : Result ℕ (Refusal ℕ)) (e : outcome (report a) (new ∷ []) ≡ load_outcome input store) where
  left-answer : (r : Report) (x : List ℕ) → (unless_refused r (store ∷ []) (outcome r (x ∷ []))).answer ≡ r
  left-answer (done vs) x = refl
  left-answer (refused k l) x = refl

  loaded_answer : report a ≡ load_answer input
  loaded_answer = ap (λ (o : Outcome). o.answer) (e ∙ load_outcome_lem input store) ∙ left-answer (load_answer input) _

  -- a refusal is printed, whatever the text would be
  pub refusal_printed : (f : Refusal ℕ) → a ≡ Err f → (text : List Line → List ℕ) → or_refusal (report a) [] ≡ printed text input
  refusal_printed f q text =
      ap (λ (r : Report). or_refusal r []) (ap report q)
      ∙ refused_prints (ltb input_size (length input)) (read_input input).answer (mark_check (read_input input).stored) (length (expansion_of input)) _ _ (text (lines (read_input input).stored)) (sym (load-answer input) ∙ refusal-told q loaded_answer)
      ∙ sym (printed_is text input)
    where
      refused_prints : (long : Bool) (r m : Report) (k j l : ℕ) (t : List ℕ) → cond long (refused 8 0) (and_then r (and_then m (counted k))) ≡ refused j l
          → or_refusal (refused j l) [] ≡ cond long (or_refusal (refused 8 0) []) (or_refusal r (or_refusal m t))
      refused_prints true r m k j l t q = ap (λ (x : Report). or_refusal x []) (sym q)
      refused_prints false (refused i o) m k j l t q = ap (λ (x : Report). or_refusal x []) (sym q)
      refused_prints false (done vs) (refused i o) k j l t q = ap (λ (x : Report). or_refusal x []) (sym q)
      refused_prints false (done vs) (done ms) k j l t q = absurd (never_counted (sym q))

  pub loaded : (n : ℕ) → a ≡ Ok n → Loaded input new n
  loaded n c =
      let p : List ℕ = (read_input input).stored in
      let q : load_answer input ≡ counted n = count-told c loaded_answer in
      let w = passed (ltb input_size (length input)) (read_input input).answer (mark_check p) (length (expansion_of input)) n (sym (load-answer input) ∙ q) in
      let x : expansion_of input ≡ expand neighbours (lines p) = expansion_of_lem input in
      let o : load_outcome input store ≡ outcome (counted n) (at_front (flat_map codes (expand neighbours (lines p))) store ∷ []) = load_outcome_lem input store ∙ rw (q, x) in
      let s : new ≡ at_front (flat_map codes (expand neighbours (lines p))) store = ap first_store (e ∙ o) in
      let k : length (flat_map codes (expand neighbours (lines p))) ≡ line_width * n = codes-length (expand neighbours (lines p)) ∙ ap (λ (i : ℕ). line_width * i) (ap length (sym x) ∙ w.count) in
      record {
        fits = omega (arith, ap length s, k, length-append (flat_map codes (expand neighbours (lines p))) (drop (length (flat_map codes (expand neighbours (lines p)))) store));
        part = ap (take (line_width * n)) s ∙ take_at (flat_map codes (expand neighbours (lines p))) (drop (length (flat_map codes (expand neighbours (lines p)))) store) (line_width * n) k;
        accepted = accepted_source p w.marks w.marked;
        prints = λ text. printed_is text input ∙ rw (w.short, w.read, w.marked);
      }

-- ---- the expansion as text

pub expand_prints_lem : (input : List ℕ) → expand_prints input ≡ printed (λ p. flat_map spell_line (expand neighbours p)) input
unfolding expand_prints
expand_prints_lem input = refl

write_outcome_lem : (p out : List ℕ) → write_outcome p out
    ≡ unless_refused (program_check p) (out ∷ []) (cond (ltb (length out) (length (text_of p))) (outcome (refused 17 0) (out ∷ [])) (outcome (counted (length (text_of p))) (at_front (text_of p) out ∷ [])))
unfolding write_outcome fitted
write_outcome_lem p out = refl

text_of_lem : (p : List ℕ) → text_of p ≡ flat_map spell_line (lines p)
unfolding text_of
text_of_lem p = refl

checked_writes : (p out : List ℕ) (n : ℕ) → program_check p ≡ counted n → write_outcome p out ≡ fitted (flat_map spell_line (lines p)) out
unfolding fitted
checked_writes p out n e = write_outcome_lem p out ∙ rw (e, text_of_lem p)

module _ (input new : List ℕ) (n : ℕ) (l : Loaded input new n) where
  pub part_check : program_check (take (line_width * n) new) ≡ counted (line_count (take (line_width * n) new))
  part_check =
      let p : List Line = lines (read_input input).stored in
      let k : length (expand neighbours p) ≡ line_count (flat_map codes (expand neighbours p)) = omega (arith, codes-length (expand neighbours p)) in
      rw l.part (expansion_check neighbours near p l.accepted ∙ ap counted k)

  pub part-lines : lines (take (line_width * n) new) ≡ expand neighbours (lines (read_input input).stored)
  part-lines = ap lines l.part ∙ expansion_lines neighbours near (lines (read_input input).stored) l.accepted

  pub expansion_written : (out : List ℕ) → write_outcome (take (line_width * n) new) out ≡ fitted (expand_prints input) out
  expansion_written out =
      checked_writes (take (line_width * n) new) out (line_count (take (line_width * n) new)) part_check
      ∙ ap (λ (t : List ℕ). fitted t out) (ap (flat_map spell_line) part-lines ∙ sym (l.prints (λ p. flat_map spell_line (expand neighbours p))) ∙ sym (expand_prints_lem input))

pub refusal_of_expansion : (input store new out : List ℕ) (a : Result ℕ (Refusal ℕ)) (f : Refusal ℕ) → outcome (report a) (new ∷ []) ≡ load_outcome input store → a ≡ Err f → fitted (or_refusal (report a) []) out ≡ fitted (expand_prints input) out
refusal_of_expansion input store new out a f e q =
    ap (λ (t : List ℕ). fitted t out) (refusal_printed input store new a e f q (λ p. flat_map spell_line (expand neighbours p)) ∙ sym (expand_prints_lem input))
