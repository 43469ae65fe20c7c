-- The loop over steps is the model's run: its counter, state and tally, and its rows at the front of the trace store.
-- Assumes nothing.
use Rattle.std.proofs.Common.{◌≡◌, ℕ, zero, suc, ◌+◌, ◌*◌, ◌≤◌, Bool, true, false, cond, ltb, List, [], ◌∷◌, ◌++◌, length, take, drop, sym, refl, ap, ◌∙◌, append_assoc, zero-add, arith, length-append, length-drop, take-append-drop, length-take-le, drop-drop, take_at, ltb-false, ltb-true}
use mathlib.Core.List.{flat_map}
use lib.Seq.{drop-append-add}
use Rattle.model.specs.Limits.{row_width}
use Rattle.model.specs.Answers.{halted, spent, Outcome, outcome}
use Rattle.model.specs.Stored.{line_at, line_count, lines}
use Rattle.model.specs.Step.{Row, row}
use Rattle.model.specs.Run.{Ran, ran, push, run_on, run, answer, run_leaves}
use Rattle.model.proofs.StoredLaws.{length-lines, get_line, no_line}
use Rattle.model.proofs.Runs.{row-length, flat, step_run, stopped}
use Rattle.machine.specs.Loop.{Machine, machine, put_row, step_by, step_of, halted_at, spent_at, run_from}

-- ---- a row in the store

module _ (t : List ℕ) (j : ℕ) (r : Row) (e : length r ≡ row_width) (h : row_width * j + row_width ≤ length t) where
  front : length (take (row_width * j) t ++ r) ≡ row_width * (j + 1)
  front = omega (arith, length-append (take (row_width * j) t) r, length-take-le (row_width * j) t (omega arith))

  put-take : take (row_width * (j + 1)) (put_row t j r) ≡ take (row_width * j) t ++ r
  put-take = take_at (take (row_width * j) t ++ r) (drop (row_width * j + row_width) t) (row_width * (j + 1)) front

  put-drop : (k : ℕ) → drop (row_width * (j + 1) + k) (put_row t j r) ≡ drop (row_width * (j + 1) + k) t
  put-drop k =
      let b : row_width * j + row_width + k ≡ row_width * (j + 1) + k = omega arith in
      ap (λ (i : ℕ). drop (i + k) (put_row t j r)) (sym front)
      ∙ drop-append-add (take (row_width * j) t ++ r) (drop (row_width * j + row_width) t) k
      ∙ drop-drop k (row_width * j + row_width) t
      ∙ ap (λ (i : ℕ). drop i t) b

  put-length : length (put_row t j r) ≡ length t
  put-length = omega (arith, front, length-append (take (row_width * j) t ++ r) (drop (row_width * j + row_width) t), length-drop (row_width * j + row_width) t)

-- ---- what a run from a machine leaves, of which steps were done already

abbrev left : Machine → ℕ → Ran → Outcome
left m n x =
    outcome (cond (ltb x.at n) (spent x.at (m.run.steps + length x.rows)) (halted x.at (m.run.steps + length x.rows)))
    (x.state ∷ (take (row_width * m.run.steps) m.trace ++ (flat x.rows ++ drop (row_width * m.run.steps + length (flat x.rows)) m.trace)) ∷ [])

-- no step more
none_left : (n : ℕ) (m : Machine) → left m n (ran m.run.counter m.state m.run.bus []) ≡ cond (ltb m.run.counter n) (spent_at m) (halted_at m)
unfolding flat_map
none_left n m = go (ltb m.run.counter n)
  where
    z : m.run.steps + 0 ≡ m.run.steps
    z = omega arith

    w : row_width * m.run.steps + 0 ≡ row_width * m.run.steps
    w = omega arith

    go : (b : Bool) → outcome (cond b (spent m.run.counter (m.run.steps + 0)) (halted m.run.counter (m.run.steps + 0)))
        (m.state ∷ (take (row_width * m.run.steps) m.trace ++ drop (row_width * m.run.steps + 0) m.trace) ∷ []) ≡ cond b (spent_at m) (halted_at m)
    go true = rw (z, w, take-append-drop (row_width * m.run.steps) m.trace)
    go false = rw (z, w, take-append-drop (row_width * m.run.steps) m.trace)

-- one step more
one_left : (p : List ℕ) (n : ℕ) (m : Machine) (x : Ran) → row_width * m.run.steps + row_width ≤ length m.trace
    → left (step_of p m) n x ≡ left m n (push (row (line_at p m.run.counter) m.run.counter m.state m.run.bus) x)
unfolding step_by flat_map
one_left p n m x h =
    let j = m.run.steps in
    let t = m.trace in
    let r = row (line_at p m.run.counter) m.run.counter m.state m.run.bus in
    let e = row-length (line_at p m.run.counter) m.run.counter m.state m.run.bus in
    let f = flat x.rows in
    let z : j + 1 + length x.rows ≡ j + suc (length x.rows) = omega arith in
    let d : row_width * (j + 1) + length f ≡ row_width * j + length (r ++ f) = omega (arith, e, length-append r f) in
    rw (z, put-take t j r e h, put-drop t j r e h (length f), d, append_assoc (take (row_width * j) t) r (f ++ drop (row_width * j + length (r ++ f)) t), append_assoc r f (drop (row_width * j + length (r ++ f)) t))

room : (p : List ℕ) (b : ℕ) (m : Machine) → row_width * (m.run.steps + suc b) ≤ length m.trace → row_width * ((step_of p m).run.steps + b) ≤ length (step_of p m).trace
unfolding step_by
room p b m h =
    omega (
      arith,
      put-length m.trace m.run.steps (row (line_at p m.run.counter) m.run.counter m.state m.run.bus)
          (row-length (line_at p m.run.counter) m.run.counter m.state m.run.bus) (omega arith),
    )

run-left : (p : List ℕ) (b : ℕ) (m : Machine) → row_width * (m.run.steps + b) ≤ length m.trace
    → run_from p (line_count p) b m ≡ left m (line_count p) (run_on (lines p) b m.run.counter m.state m.run.bus)
unfolding run_from run_on step_by
run-left p zero m h = sym (none_left (line_count p) m)
run-left p (suc b) m h = go (ltb m.run.counter (line_count p)) refl (run-left p b (step_of p m) (room p b m h))
  where
    go : (t : Bool) → ltb m.run.counter (line_count p) ≡ t
        → run_from p (line_count p) b (step_of p m) ≡ left (step_of p m) (line_count p) (run_on (lines p) b (step_of p m).run.counter (step_of p m).state (step_of p m).run.bus)
        → cond t (run_from p (line_count p) b (step_of p m)) (halted_at m) ≡ left m (line_count p) (run_on (lines p) (suc b) m.run.counter m.state m.run.bus)
    go true e i =
        i ∙ one_left p (line_count p) m (run_on (lines p) b (step_of p m).run.counter (step_of p m).state (step_of p m).run.bus) (omega arith)
        ∙ ap (λ (x : Ran). left m (line_count p) x) (sym (step_run (lines p) m.run.counter m.state m.run.bus _ (get_line p m.run.counter (ltb-true _ _ e)) b))
    go false e i =
        sym (ap (λ (x : Ran). left m (line_count p) x) (stopped (lines p) m.run.counter m.state m.run.bus (no_line p m.run.counter (ltb-false _ _ e)) (suc b))
        ∙ none_left (line_count p) m ∙ ap (λ (t : Bool). cond t (spent_at m) (halted_at m)) e)

-- a run from no step done
pub run_leaves_lem : (p : List ℕ) (c b : ℕ) (s t : List ℕ) → row_width * b ≤ length t
    → run_from p (line_count p) b (machine (record { counter = c; steps = 0; bus = 0 }) s t) ≡ run_leaves (lines p) (run (lines p) b c s) t
unfolding run_leaves answer
run_leaves_lem p c b s t h =
    let x = run (lines p) b c s in
    run-left p b (machine (record { counter = c; steps = 0; bus = 0 }) s t) (omega arith)
    ∙ rw (length-lines p, zero-add (length x.rows), zero-add (length (flat x.rows)))
