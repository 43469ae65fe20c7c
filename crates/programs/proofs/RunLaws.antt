-- The text of a run: its rows stand in the trace store one after the other, and its ending is the answer's. Assumes nothing.
use Prim.Native.Nat.{ℕ, zero, suc, ◌*◌, ◌/◌, ◌≤◌}
use mathlib.Core.Path.{◌≡◌, refl, sym, ap, ap₂, ◌∙◌}
use mathlib.Core.Bool.{Bool, true, false, cond}
use mathlib.Core.List.{List, [], ◌∷◌, ◌++◌, flat_map}
use mathlib.Core.Option.{Option, none, some}
use native.Mathlib.Omega.{arith}
use lib.Dec.{ltb}
use lib.ListN.{length, take, drop, get_elem?, length-append, length-replicate}
use lib.Seq.{take_at, drop_at}
use Rattle.model.specs.Layouts.{neighbours}
use Rattle.std.specs.Prelude.{Result, Err}
use Rattle.model.specs.declared.Refusal.{Refusal}
use Rattle.model.specs.declared.Line.{Line}
use Rattle.model.specs.Limits.{line_width, state_size, row_width}
use Rattle.model.specs.Answers.{Report, done, report, counted, refused, halted, spent, Outcome, outcome, at_front}
use Rattle.model.specs.Places.{State}
use Rattle.model.specs.Step.{Row, next, after, bus_after}
use Rattle.model.specs.Stored.{line_count, lines, program_check}
use Rattle.model.specs.Run.{Ran, run_on, run, answer, run_leaves, run_outcome}
use Rattle.model.specs.Images.{image, to_image_outcome}
use Rattle.model.specs.Expansion.{expand}
use Rattle.model.specs.Programs.{trace_budget, or_refusal, printed, numbers_text, ending_text, trace_text, trace_prints}
use Rattle.model.proofs.OutcomeLaws.{second_store, run_outcome_lem}
use Rattle.model.proofs.PlaceLaws.{image-length}
use Rattle.model.proofs.ZeroImage.{zeros, zero-image}
use Rattle.model.proofs.Runs.{run-zero, stopped, step_run, row-length, flat}
use Rattle.lines.specs.Printing.{rows_from, rows_text, lines_text}
use Rattle.model.specs.Text.{fitted}
use Rattle.programs.specs.Loading.{load_outcome}
use Rattle.programs.specs.Running.{run_text, ended_text}
use Rattle.programs.proofs.LoadLaws.{Loaded, part-lines, refusal_printed}

-- ---- rows of a row's width

abbrev pub WholeRows : List Row → Type 0
WholeRows [] = Unit {0}
WholeRows (r ∷ rs) = (length r ≡ row_width) × WholeRows rs

pub run_whole : (p : List Line) (n k : ℕ) (s : State) (b : ℕ) → WholeRows (run_on p n k s b).rows
run_whole p zero k s b = rw (run-zero p k s b) tt
run_whole p (suc n) k s b = by (λ k s b. run_whole p n k s b) (get_elem? p k) refl
  where
    by : ((k : ℕ) (s : State) (b : ℕ) → WholeRows (run_on p n k s b).rows) → (o : Option Line) → get_elem? p k ≡ o → WholeRows (run_on p (suc n) k s b).rows
    by ih none e = rw (stopped p k s b e (suc n)) tt
    by ih (some l) e = rw (step_run p k s b l e n) (row-length l k s b, ih (next l k s) (after l s) (bus_after l s b))

flat-length : (rs : List Row) → WholeRows rs → length (flat rs) ≡ row_width * length rs
unfolding flat_map
flat-length [] h = refl
flat-length (r ∷ rs) h = omega (arith, length-append r (flat rs), flat-length rs h.1, h.0)

flat_rows : (rs : List Row) → WholeRows rs → rows_from (length rs) (flat rs) ≡ rs
unfolding flat_map rows_from
flat_rows [] h = refl
flat_rows (r ∷ rs) h = rw (take_at r (flat rs) row_width h.0, drop_at r (flat rs) row_width h.0, flat_rows rs h.1)

flat_text : (rs : List Row) → WholeRows rs → rows_text (length (flat rs) / row_width) (flat rs) ≡ flat_map numbers_text rs
unfolding rows_text
flat_text rs h =
    let e : length (flat rs) / row_width ≡ length rs = omega (arith, flat-length rs h) in
    rw e (ap (flat_map numbers_text) (flat_rows rs h))

-- ---- the ending

-- k steps were done, and the last line is a word and their number
pub record Ending (p : List Line) (x : Ran) (word : List ℕ) (k : ℕ) : Type 0 where
  pub steps : k ≡ length x.rows
  pub line : ending_text p x ≡ word ++ numbers_text (k ∷ [])

-- `spent,` where the run stands below the line count, else `halted,`, and the numbers of the two in an answer
abbrev pub end_word : Bool → List ℕ
end_word true = 115 ∷ 112 ∷ 101 ∷ 110 ∷ 116 ∷ 44 ∷ []
end_word false = 104 ∷ 97 ∷ 108 ∷ 116 ∷ 101 ∷ 100 ∷ 44 ∷ []

abbrev pub end_number : Bool → ℕ
end_number true = 1
end_number false = 0

same_end : (b t : Bool) → end_number b ≡ end_number t → b ≡ t
same_end true true e = refl
same_end true false e = absurd (omega arith)
same_end false true e = absurd (omega arith)
same_end false false e = refl

module _ (p : List Line) (x : Ran) where
  answer_is : answer p x ≡ done (end_number (ltb x.at (length p)) ∷ x.at ∷ length x.rows ∷ [])
  unfolding answer
  answer_is = by (ltb x.at (length p))
    where
      by : (t : Bool) → cond t (spent x.at (length x.rows)) (halted x.at (length x.rows)) ≡ done (end_number t ∷ x.at ∷ length x.rows ∷ [])
      by true = refl
      by false = refl

  pub ending_is : ending_text p x ≡ end_word (ltb x.at (length p)) ++ numbers_text (length x.rows ∷ [])
  unfolding ending_text
  ending_is = by (ltb x.at (length p)) (length x.rows ∷ [])
    where
      by : (t : Bool) (n : List ℕ) → cond t (end_word true ++ numbers_text n) (end_word false ++ numbers_text n) ≡ end_word t ++ numbers_text n
      by true n = refl
      by false n = refl

  pub ending : (b : Bool) (c k : ℕ) → done (end_number b ∷ c ∷ k ∷ []) ≡ answer p x → Ending p x (end_word b) k
  ending b c k e =
      let t : Bool = ltb x.at (length p) in
      let q : done (end_number b ∷ c ∷ k ∷ []) ≡ done (end_number t ∷ x.at ∷ length x.rows ∷ []) = e ∙ answer_is in
      let s : k ≡ length x.rows = cc q in
      let w : end_number b ≡ end_number t = cc q in
      record { steps = s; line = ending_is ∙ ap₂ (λ (u : Bool) (n : ℕ). end_word u ++ numbers_text (n ∷ [])) (sym (same_end b t w)) (sym s) }

  never_refused : (k l : ℕ) → refused k l ≡ answer p x → ⊥
  never_refused k l e = let q : refused k l ≡ done (end_number (ltb x.at (length p)) ∷ x.at ∷ length x.rows ∷ []) = e ∙ answer_is in let z : ◌≡◌ {A = ℕ} 0 1 = cc q in omega arith

-- ---- a run that is not refused

run_leaves_lem : (p : List Line) (x : Ran) (t : List ℕ) → run_leaves p x t ≡ outcome (answer p x) (x.state ∷ at_front (flat x.rows) t ∷ [])
unfolding run_leaves
run_leaves_lem p x t = refl

pub trace_text_lem : (p : List Line) (x : Ran) → trace_text p x ≡ flat_map numbers_text x.rows ++ ending_text p x
unfolding trace_text
trace_text_lem p x = refl

lines_text_lem : (rows word last : List ℕ) → lines_text rows word last ≡ rows_text (length rows / row_width) rows ++ (word ++ numbers_text last)
unfolding lines_text
lines_text_lem rows word last = refl

ended_text_lem : (trace word : List ℕ) (k : ℕ) → ended_text trace word k ≡ lines_text (take (row_width * k) trace) word (k ∷ [])
unfolding ended_text
ended_text_lem trace word k = refl

-- the text of the lines' run
abbrev pub line_run : List Line → List ℕ
line_run p = trace_text p (run p trace_budget 0 (image neighbours zeros))

run_text_lem : (p : List ℕ) → run_text p ≡ line_run (lines p)
unfolding run_text
run_text_lem p = refl

module _ (p state state' t new : List ℕ) (a r : Report) (ok : program_check p ≡ counted (line_count p)) (made : outcome r (state ∷ []) ≡ to_image_outcome 0 0 zeros zeros) (room : length t ≡ row_width * trace_budget) (e : outcome (a) (state' ∷ new ∷ []) ≡ run_outcome p 0 trace_budget state t) where
  abbrev ran : Ran
  ran = run (lines p) trace_budget 0 (image neighbours zeros)

  leaves : outcome (a) (state' ∷ new ∷ []) ≡ outcome (answer (lines p) ran) (ran.state ∷ at_front (flat ran.rows) t ∷ [])
  leaves =
      let s : state ≡ image neighbours zeros = zero-image state r made in
      let h : length (image neighbours zeros) ≡ state_size = image-length neighbours zeros ∙ length-replicate {A = ℕ} state_size 0 in
      e ∙ ap (λ (v : State). run_outcome p 0 trace_budget v t) s ∙ run_outcome_lem p 0 trace_budget (line_count p) (image neighbours zeros) t ok h (omega arith) ∙ run_leaves_lem (lines p) ran t

  pub answered : a ≡ answer (lines p) ran
  answered = ap (λ (o : Outcome). o.answer) leaves

  trace_is : new ≡ at_front (flat ran.rows) t
  trace_is = ap second_store leaves

  module _ (word : List ℕ) (k : ℕ) (d : Ending (lines p) ran word k) where
    numbers : length (flat ran.rows) ≡ row_width * k
    numbers = flat-length ran.rows (run_whole (lines p) trace_budget 0 (image neighbours zeros) 0) ∙ ap (λ (n : ℕ). row_width * n) (sym d.steps)

    pub steps_fit : row_width * k ≤ length new
    steps_fit = omega (arith, ap length trace_is, numbers, length-append (flat ran.rows) (drop (length (flat ran.rows)) t))

    pub ended_is : ended_text new word k ≡ run_text p
    ended_is =
        let f : take (row_width * k) new ≡ flat ran.rows = ap (take (row_width * k)) trace_is ∙ take_at (flat ran.rows) (drop (length (flat ran.rows)) t) (row_width * k) numbers in
        ended_text_lem new word k ∙ ap (λ (l : List ℕ). lines_text l word (k ∷ [])) f ∙ lines_text_lem (flat ran.rows) word (k ∷ [])
        ∙ ap₂ (λ (x y : List ℕ). x ++ y) (flat_text ran.rows (run_whole (lines p) trace_budget 0 (image neighbours zeros) 0)) (sym d.line)
        ∙ sym (trace_text_lem (lines p) ran) ∙ sym (run_text_lem p)

  pub never_refuses : (k l : ℕ) → a ≡ refused k l → ⊥
  never_refuses k l q = never_refused (lines p) ran k l (sym q ∙ answered)

-- ---- what the second program prints

pub trace_prints_lem : (input : List ℕ) → trace_prints input ≡ printed (λ p. line_run (expand neighbours p)) input
unfolding trace_prints
trace_prints_lem input = refl

pub loaded_run : (input new : List ℕ) (n : ℕ) → Loaded input new n → run_text (take (line_width * n) new) ≡ trace_prints input
loaded_run input new n l =
    run_text_lem (take (line_width * n) new) ∙ ap line_run (part-lines input new n l) ∙ sym (l.prints (λ p. line_run (expand neighbours p))) ∙ sym (trace_prints_lem input)

pub refusal_of_trace : (input store new out : List ℕ) (a : Result ℕ (Refusal ℕ)) (f : Refusal ℕ) → outcome (report a) (new ∷ []) ≡ load_outcome input store → a ≡ Err f → fitted (or_refusal (report a) []) out ≡ fitted (trace_prints input) out
refusal_of_trace input store new out a f e q =
    ap (λ (t : List ℕ). fitted t out) (refusal_printed input store new a e f q (λ p. line_run (expand neighbours p)) ∙ sym (trace_prints_lem input))
