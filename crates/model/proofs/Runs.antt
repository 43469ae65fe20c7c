-- Runs joined and cut: a run is its first steps and then the run from where they end, so a smaller budget gives a prefix. By induction
-- over the budget. Assumes nothing.
use mathlib.Core.Path.{◌≡◌, refl, sym, ap, ap₂, ◌∙◌}
use mathlib.Core.List.{List, [], ◌∷◌, ◌++◌, flat_map}
use mathlib.Core.Option.{Option, none, some}
use Prim.Native.Nat.{ℕ, zero, suc, ◌+◌, ◌<◌}
use native.Mathlib.Nat.{zero-add, suc-add, le_of_suc-le-suc, not-suc-le-zero}
use native.Mathlib.Omega.{arith}
use lib.ListN.{length, get_or, take, drop, get_elem?}
use Rattle.model.specs.declared.Line.{Line}
use Rattle.model.specs.Limits.{row_width}
use Rattle.model.specs.Places.{State}
use Rattle.model.specs.Step.{Row, row, distances, next, after, bus_after}
use Rattle.model.specs.Run.{Ran, ran, push, run_on}

pub stopped : (p : List Line) (k : ℕ) (s : State) (b : ℕ) → get_elem? p k ≡ none → (n : ℕ) → run_on p n k s b ≡ ran k s b []
unfolding run_on
stopped p k s b e zero = refl
stopped p k s b e (suc n) = rw (e, run_on)

pub step_run : (p : List Line) (k : ℕ) (s : State) (b : ℕ) (l : Line) → get_elem? p k ≡ some l → (n : ℕ)
    → run_on p (suc n) k s b ≡ push (row l k s b) (run_on p n (next l k s) (after l s) (bus_after l s b))
unfolding run_on
step_run p k s b l e n = rw (e, run_on)

pub run-zero : (p : List Line) (k : ℕ) (s : State) (b : ℕ) → run_on p zero k s b ≡ ran k s b []
unfolding run_on
run-zero p k s b = refl

pub row-length : (l : Line) (k : ℕ) (s : State) (b : ℕ) → length (row l k s b) ≡ row_width
unfolding row distances
row-length l k s b = refl

-- the rows of a trace, one after another
abbrev pub flat : List Row → List ℕ
flat = flat_map (λ (r : Row). r)

-- a run, and what a second one adds from where it stands
abbrev pub join_runs : Ran → Ran → Ran
join_runs x y = ran y.at y.state y.bus (x.rows ++ y.rows)

abbrev pub onward : List Line → ℕ → Ran → Ran
onward p m x = join_runs x (run_on p m x.at x.state x.bus)

pub run_add : (p : List Line) (n m k : ℕ) (s : State) (b : ℕ) → run_on p (n + m) k s b ≡ onward p m (run_on p n k s b)
run_add p zero m k s b = rw (zero-add m, run-zero p k s b)
run_add p (suc n) m k s b = go (λ k s b. run_add p n m k s b) (get_elem? p k) refl
  where
    go : ((k : ℕ) (s : State) (b : ℕ) → run_on p (n + m) k s b ≡ onward p m (run_on p n k s b))
        → (o : Option Line) → get_elem? p k ≡ o → run_on p (suc n + m) k s b ≡ onward p m (run_on p (suc n) k s b)
    go ih none e = rw (stopped p k s b e (suc n + m), stopped p k s b e (suc n), stopped p k s b e m)
    go ih (some l) e = rw (suc-add n m, step_run p k s b l e (n + m), step_run p k s b l e n, ih (next l k s) (after l s) (bus_after l s b))

-- what a run does does not turn on the bus, nor how many rows it has
pub record BusApart (x y : Ran) : Type 0 where
  pub at : x.at ≡ y.at
  pub state : x.state ≡ y.state
  pub count : length x.rows ≡ length y.rows

pub bus_apart : (p : List Line) (n k : ℕ) (s : State) (b c : ℕ) → BusApart (run_on p n k s b) (run_on p n k s c)
bus_apart p zero k s b c = rw (run-zero p k s b, run-zero p k s c) (record { at = refl; state = refl; count = refl })
bus_apart p (suc n) k s b c = go (λ k s b c. bus_apart p n k s b c) (get_elem? p k) refl
  where
    go : ((k : ℕ) (s : State) (b c : ℕ) → BusApart (run_on p n k s b) (run_on p n k s c))
        → (o : Option Line) → get_elem? p k ≡ o → BusApart (run_on p (suc n) k s b) (run_on p (suc n) k s c)
    go ih none e = rw (stopped p k s b e (suc n), stopped p k s c e (suc n)) (record { at = refl; state = refl; count = refl })
    go ih (some l) e =
        let I = ih (next l k s) (after l s) (bus_after l s b) (bus_after l s c) in
        rw (step_run p k s b l e n, step_run p k s c l e n) (record { at = I.at; state = I.state; count = ap suc I.count })

-- a run with a smaller budget is the prefix of a longer one
pub rows_cut : (p : List Line) (n m k : ℕ) (s : State) (b : ℕ) → (run_on p n k s b).rows ≡ take n (run_on p (n + m) k s b).rows
rows_cut p zero m k s b = rw (run-zero p k s b)
rows_cut p (suc n) m k s b = go (λ k s b. rows_cut p n m k s b) (get_elem? p k) refl
  where
    go : ((k : ℕ) (s : State) (b : ℕ) → (run_on p n k s b).rows ≡ take n (run_on p (n + m) k s b).rows)
        → (o : Option Line) → get_elem? p k ≡ o → (run_on p (suc n) k s b).rows ≡ take (suc n) (run_on p (suc n + m) k s b).rows
    go ih none e = rw (stopped p k s b e (suc n + m), stopped p k s b e (suc n))
    go ih (some l) e =
        rw (suc-add n m, step_run p k s b l e (n + m), step_run p k s b l e n) (ap (λ (r : List Row). row l k s b ∷ r) (ih (next l k s) (after l s) (bus_after l s b)))

-- where a run stands: at the line of the next row, or, where there is none, where the longer run stands
abbrev pub head_line : List Row → ℕ → ℕ
head_line [] k = k
head_line (r ∷ rs) k = get_or r 0 0

head_run : (p : List Line) (m k : ℕ) (s : State) (b : ℕ) → k ≡ head_line (run_on p m k s b).rows (run_on p m k s b).at
unfolding row
head_run p zero k s b = rw (run-zero p k s b)
head_run p (suc m) k s b = go (get_elem? p k) refl
  where
    go : (o : Option Line) → get_elem? p k ≡ o → k ≡ head_line (run_on p (suc m) k s b).rows (run_on p (suc m) k s b).at
    go none e = rw (stopped p k s b e (suc m))
    go (some l) e = rw (step_run p k s b l e m)

pub at_cut : (p : List Line) (n m k : ℕ) (s : State) (b : ℕ) → (run_on p n k s b).at ≡ head_line (drop n (run_on p (n + m) k s b).rows) (run_on p (n + m) k s b).at
at_cut p zero m k s b = rw (zero-add m, run-zero p k s b) (head_run p m k s b)
at_cut p (suc n) m k s b = go (λ k s b. at_cut p n m k s b) (get_elem? p k) refl
  where
    go : ((k : ℕ) (s : State) (b : ℕ) → (run_on p n k s b).at ≡ head_line (drop n (run_on p (n + m) k s b).rows) (run_on p (n + m) k s b).at)
        → (o : Option Line) → get_elem? p k ≡ o
        → (run_on p (suc n) k s b).at ≡ head_line (drop (suc n) (run_on p (suc n + m) k s b).rows) (run_on p (suc n + m) k s b).at
    go ih none e = rw (stopped p k s b e (suc n + m), stopped p k s b e (suc n))
    go ih (some l) e = rw (suc-add n m, step_run p k s b l e (n + m), step_run p k s b l e n) (ih (next l k s) (after l s) (bus_after l s b))

-- what of a run is seen: its rows and where it stands
abbrev pub Seen : Ran → Ran → Type 0
Seen x y = (x.rows ≡ y.rows) × (x.at ≡ y.at)

-- what two longer runs show alike, the shorter ones show alike
pub cut : (p : List Line) (n m k : ℕ) (s t : State) (b : ℕ) → Seen (run_on p (n + m) k s b) (run_on p (n + m) k t b) → Seen (run_on p n k s b) (run_on p n k t b)
cut p n m k s t b h = (
  rows_cut p n m k s b ∙ ap (take n) h.0 ∙ sym (rows_cut p n m k t b),
  at_cut p n m k s b ∙ ap₂ (λ (r : List Row) (a : ℕ). head_line (drop n r) a) h.0 h.1 ∙ sym (at_cut p n m k t b),
)

-- past the end of the program nothing is added
run_past : (p : List Line) (n m k : ℕ) (s : State) (b : ℕ) → get_elem? p (run_on p n k s b).at ≡ none
    → run_on p (n + m) k s b ≡ join_runs (run_on p n k s b) (ran (run_on p n k s b).at (run_on p n k s b).state (run_on p n k s b).bus [])
run_past p n m k s b e =
    run_add p n m k s b ∙ ap (join_runs (run_on p n k s b)) (stopped p (run_on p n k s b).at (run_on p n k s b).state (run_on p n k s b).bus e m)

pub seen-past : (p : List Line) (n m k : ℕ) (s t : State) (b : ℕ) → Seen (run_on p n k s b) (run_on p n k t b) → get_elem? p (run_on p n k s b).at ≡ none
    → Seen (run_on p (n + m) k s b) (run_on p (n + m) k t b)
seen-past p n m k s t b h e =
    let e' : get_elem? p (run_on p n k t b).at ≡ none = ap (get_elem? p) (sym h.1) ∙ e in (
      ap (λ (x : Ran). x.rows) (run_past p n m k s b e) ∙ ap (λ (r : List Row). r ++ []) h.0 ∙ sym (ap (λ (x : Ran). x.rows) (run_past p n m k t b e')),
      ap (λ (x : Ran). x.at) (run_past p n m k s b e) ∙ h.1 ∙ sym (ap (λ (x : Ran). x.at) (run_past p n m k t b e')),
    )

fetch_none : (p : List Line) (k : ℕ) → get_elem? p k ≡ none → k < length p → ⊥
fetch_none [] k e h = not-suc-le-zero h
fetch_none (l ∷ p) zero e h = let z : ◌≡◌ {A = ℕ} 0 1 = cc in omega arith
fetch_none (l ∷ p) (suc k) e h = fetch_none p k e (le_of_suc-le-suc h)

-- spent, the counter below the line count, means that exactly the budget's number of steps was done
pub spent_all : (p : List Line) (n k : ℕ) (s : State) (b : ℕ) → (run_on p n k s b).at < length p → length (run_on p n k s b).rows ≡ n
spent_all p zero k s b h = rw (run-zero p k s b)
spent_all p (suc n) k s b h = go (λ k s b h. spent_all p n k s b h) (get_elem? p k) refl
  where
    go : ((k : ℕ) (s : State) (b : ℕ) → (run_on p n k s b).at < length p → length (run_on p n k s b).rows ≡ n) → (o : Option Line) → get_elem? p k ≡ o
        → length (run_on p (suc n) k s b).rows ≡ suc n
    go ih none e = absurd (fetch_none p k e (rw (stopped p k s b e (suc n)) at h))
    go ih (some l) e = rw (step_run p k s b l e n) (ap suc (ih (next l k s) (after l s) (bus_after l s b) (rw (step_run p k s b l e n) at h)))
