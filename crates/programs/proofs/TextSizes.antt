-- How long the programs' texts are at most, so that a store of that length is never refused with 17. Assumes nothing.
use Prim.Native.Nat.{ℕ, zero, suc, ◌+◌, ◌*◌, ◌≤◌}
use mathlib.Core.Path.{◌≡◌, refl, sym, ap}
use mathlib.Core.Bool.{Bool, true, false, cond}
use mathlib.Core.List.{List, [], ◌∷◌, ◌++◌, flat_map}
use mathlib.Core.Option.{Option, none, some}
use native.Mathlib.Omega.{arith}
use lib.Dec.{ltb}
use lib.ListN.{length, get_elem?, length-append}
use Rattle.model.specs.Layouts.{neighbours}
use Rattle.model.proofs.Finite.{near}
use Rattle.model.specs.declared.Line.{Line}
use Rattle.model.specs.Limits.{row_width}
use Rattle.model.specs.Answers.{Report, done, refused, counted, outcome, at_front}
use Rattle.model.specs.Places.{State}
use Rattle.model.specs.Stored.{lines}
use Rattle.model.specs.Text.{spell_line}
use Rattle.model.specs.Step.{Row, next, after, bus_after}
use Rattle.model.specs.Run.{Ran, run_on, run}
use Rattle.model.specs.Marks.{mark_check, Accepted}
use Rattle.model.specs.Expansion.{expand}
use Rattle.model.specs.Programs.{input_size, trace_budget, or_refusal, printed, numbers_text, ending_text, trace_text, expand_prints, trace_prints}
use Rattle.model.proofs.ExpansionLaws.{expansion_most, expansion_correct}
use Rattle.model.proofs.Runs.{run-zero, stopped, step_run}
use Rattle.model.proofs.CheckAnswers.{accepted_source}
use Rattle.model.specs.Text.{fitted}
use Rattle.programs.specs.Sizes.{expansion_bytes, row_bytes, trace_bytes}
use Rattle.lines.specs.Reading.{read_input}
use Rattle.printing.proofs.SizeLaws.{spelled_most}
use Rattle.lines.proofs.LeftLaws.{all_fits}
use Rattle.lines.proofs.LineTexts.{numbers_most, refusal_most}
use Rattle.programs.proofs.LoadLaws.{printed_is, expand_prints_lem}
use Rattle.programs.proofs.RunLaws.{WholeRows, run_whole, ending_is, end_word, trace_text_lem, line_run, trace_prints_lem}

-- ---- what is printed

module _ (text : List Line → List ℕ) (most : ℕ) (enough : 20 ≤ most) (bound : (p : List Line) → Accepted p → length (text p) ≤ most) (input : List ℕ) where
  refusal_within : (k l : ℕ) → length (or_refusal (refused k l) []) ≤ most
  refusal_within k l = omega (arith, refusal_most k l)

  printed_most : length (printed text input) ≤ most
  printed_most = rw (printed_is text input) (by (ltb input_size (length input)) (read_input input).answer (mark_check (read_input input).stored) refl)
    where
      by : (long : Bool) (r m : Report) → mark_check (read_input input).stored ≡ m
          → length (cond long (or_refusal (refused 8 0) []) (or_refusal r (or_refusal m (text (lines (read_input input).stored))))) ≤ most
      by true r m e = refusal_within 8 0
      by false (refused k l) m e = refusal_within k l
      by false (done vs) (refused k l) e = refusal_within k l
      by false (done vs) (done ms) e = bound (lines (read_input input).stored) (accepted_source (read_input input).stored ms e)

-- ---- the expansion

pub expansion_most_bytes : (input : List ℕ) → length (expand_prints input) ≤ expansion_bytes
expansion_most_bytes input =
    rw (expand_prints_lem input)
    (printed_most (λ p. flat_map spell_line (expand neighbours p)) expansion_bytes (omega arith)
    (λ p A. omega (arith, spelled_most (expand neighbours p) (expansion_correct neighbours near p A), expansion_most neighbours near p A)) input)

-- ---- the trace

rows_few : (p : List Line) (n k : ℕ) (s : State) (b : ℕ) → length (run_on p n k s b).rows ≤ n
rows_few p zero k s b = rw (run-zero p k s b) (omega arith)
rows_few p (suc n) k s b = by (λ k s b. rows_few p n k s b) (get_elem? p k) refl
  where
    by : ((k : ℕ) (s : State) (b : ℕ) → length (run_on p n k s b).rows ≤ n) → (o : Option Line) → get_elem? p k ≡ o → length (run_on p (suc n) k s b).rows ≤ suc n
    by ih none e = rw (stopped p k s b e (suc n)) (omega arith)
    by ih (some l) e = rw (step_run p k s b l e n) (omega (arith, ih (next l k s) (after l s) (bus_after l s b)))

row_most : (r : Row) → length r ≡ row_width → length (numbers_text r) ≤ row_bytes
row_most [] h = absurd (omega arith)
row_most (n ∷ ns) h = omega (arith, numbers_most n ns)

rows_most : (rs : List Row) → WholeRows rs → length (flat_map numbers_text rs) ≤ row_bytes * length rs
unfolding flat_map
rows_most [] h = omega arith
rows_most (r ∷ rs) h = omega (arith, length-append (numbers_text r) (flat_map numbers_text rs), row_most r h.0, rows_most rs h.1)

ending_most : (p : List Line) (x : Ran) → length (ending_text p x) ≤ 13
ending_most p x = rw (ending_is p x) (by (ltb x.at (length p)))
  where
    by : (t : Bool) → length (end_word t ++ numbers_text (length x.rows ∷ [])) ≤ 13
    by true = omega (arith, numbers_most (length x.rows) [])
    by false = omega (arith, numbers_most (length x.rows) [])

trace_most : (p : List Line) (n k : ℕ) (s : State) → length (trace_text p (run p n k s)) ≤ row_bytes * n + 13
trace_most p n k s =
    let x : Ran = run p n k s in
    omega (
      arith,
      ap length (trace_text_lem p x),
      length-append (flat_map numbers_text x.rows) (ending_text p x),
      rows_most x.rows (run_whole p n k s 0),
      rows_few p n k s 0,
      ending_most p x,
    )

pub trace_most_bytes : (input : List ℕ) → length (trace_prints input) ≤ trace_bytes
trace_most_bytes input =
    rw (trace_prints_lem input) (printed_most (λ p. line_run (expand neighbours p)) trace_bytes (omega arith) (λ p A. trace_most (expand neighbours p) trace_budget 0 _) input)

-- ---- so the programs' stores always have room

pub expansion_prints_all : (input out : List ℕ) → expansion_bytes ≤ length out → fitted (expand_prints input) out ≡ outcome (counted (length (expand_prints input))) (at_front (expand_prints input) out ∷ [])
expansion_prints_all input out h = sym (all_fits (expand_prints input) out (omega (arith, expansion_most_bytes input)))

pub trace_prints_all : (input out : List ℕ) → trace_bytes ≤ length out → fitted (trace_prints input) out ≡ outcome (counted (length (trace_prints input))) (at_front (trace_prints input) out ∷ [])
trace_prints_all input out h = sym (all_fits (trace_prints input) out (omega (arith, trace_most_bytes input)))
