-- The places that a run writes, and what a watch holds of them: one write more, and the state after the last one.
-- Assumes nothing.
use Rattle.std.proofs.Common.{◌≡◌, ℕ, zero, suc, ◌+◌, ◌%◌, ◌^◌, ◌<◌, ◌≤◌, Bool, true, false, cond, eqb, ltb, List, [], ◌∷◌, ◌++◌, map, length, get_or, set, sym, refl, ap, ◌∙◌, mod-eq_of_lt, arith, get_or-set_other, ltb-false, lt-ltb}
use mathlib.Core.Option.{Option, none, some}
use lib.ListN.{get_elem?}
use borrow.Author.Tests.{eqb-false}
use Rattle.model.specs.declared.Line.{Line}
use Rattle.model.specs.Places.{State, place}
use Rattle.model.specs.Step.{result, next, after, bus_after}
use Rattle.model.specs.Run.{Ran, run_on}
use Rattle.model.proofs.Runs.{step_run, stopped, run-zero}
use Rattle.watch.specs.declared.Watch.{Watch}
use Rattle.watch.specs.Watches.{places_written, writes_to, last_step, watch, watched}
use Rattle.watch.specs.Claims.{OneEach, LastWrite}
use Rattle.watch.specs.Noting.{fresh, noted}

-- ---- one write more

writes_le : (i : ℕ) (js : List ℕ) → writes_to i js ≤ length js
unfolding writes_to
writes_le i [] = omega arith
writes_le i (j ∷ js) = go (eqb i j) (writes_le i js)
  where
    go : (t : Bool) → writes_to i js ≤ length js → cond t (suc (writes_to i js)) (writes_to i js) ≤ suc (length js)
    go true h = omega (arith, h)
    go false h = omega (arith, h)

writes_more : (i j : ℕ) (js : List ℕ) → writes_to i (js ++ j ∷ []) ≡ cond (eqb i j) (suc (writes_to i js)) (writes_to i js)
unfolding writes_to
writes_more i j [] = refl
writes_more i j (k ∷ js) = rw (writes_more i j js) (go (eqb i k) (eqb i j))
  where
    go : (t u : Bool) → cond t (suc (cond u (suc (writes_to i js)) (writes_to i js))) (cond u (suc (writes_to i js)) (writes_to i js))
        ≡ cond u (suc (cond t (suc (writes_to i js)) (writes_to i js))) (cond t (suc (writes_to i js)) (writes_to i js))
    go true true = refl
    go true false = refl
    go false true = refl
    go false false = refl

last_more : (i j : ℕ) (js : List ℕ) → last_step i (js ++ j ∷ []) ≡ cond (eqb i j) (suc (length js)) (last_step i js)
unfolding last_step
last_more i j [] = refl
last_more i j (k ∷ js) = rw (last_more i j js) (go (eqb i j))
  where
    go : (u : Bool) → cond (ltb 0 (cond u (suc (length js)) (last_step i js))) (suc (cond u (suc (length js)) (last_step i js))) (cond (eqb i k) 1 0)
        ≡ cond u (suc (suc (length js))) (cond (ltb 0 (last_step i js)) (suc (last_step i js)) (cond (eqb i k) 1 0))
    go true = rw (lt-ltb 0 (suc (length js)) (omega arith))
    go false = refl

-- a watch that was up to date is so again once the next write is noted
one_noted : (js : List ℕ) (s : State) (q x k : ℕ) (w : Watch) → k ≡ length js + 1 → k < 2 ^ 16 → noted (set s q x) q k (watched js s w) ≡ watched (js ++ q ∷ []) (set s q x) w
one_noted js s q x k w ek hk =
    rw (writes_more w.place q js, last_more w.place q js) (go (eqb w.place q) refl)
  where
    i : ℕ
    i = w.place

    m : (writes_to i js + 1) % 2 ^ 16 ≡ suc (writes_to i js)
    m = mod-eq_of_lt (omega (arith, writes_le i js, ek, hk)) ∙ omega arith

    l : k ≡ suc (length js)
    l = omega (arith, ek)

    go : (t : Bool) → eqb i q ≡ t
        → cond t (watch i (get_or (set s q x) i 0) ((writes_to i js + 1) % 2 ^ 16) k) (watch i (get_or s i 0) (writes_to i js) (last_step i js))
        ≡ watch i (get_or (set s q x) i 0) (cond t (suc (writes_to i js)) (writes_to i js)) (cond t (suc (length js)) (last_step i js))
    go true e = rw (m, l)
    go false e = rw (get_or-set_other s q i x 0 (eqb-false i q e))

fused : (f g h : Watch → Watch) → ((w : Watch) → f (g w) ≡ h w) → (ws : List Watch) → map f (map g ws) ≡ map h ws
fused f g h e [] = refl
fused f g h e (w ∷ ws) = rw (e w, fused f g h e ws)

pub set_after : (l : Line) (s : State) → after l s ≡ set s (place l.destination s) (result l s)
unfolding after
set_after l s = refl

pub all_noted : (js : List ℕ) (l : Line) (s : State) (k : ℕ) (ws : List Watch) → k ≡ length js + 1 → k < 2 ^ 16
    → map (noted (after l s) (place l.destination s) k) (map (watched js s) ws) ≡ map (watched (js ++ place l.destination s ∷ []) (after l s)) ws
all_noted js l s k ws ek hk =
    rw (set_after l s) (fused _ (watched js s) (watched (js ++ place l.destination s ∷ []) (set s (place l.destination s) (result l s))) (λ w. one_noted js s (place l.destination s) (result l s) k w ek hk) ws)

-- before the first step
pub none_noted : (s : State) (ws : List Watch) → map (fresh s) ws ≡ map (watched [] s) ws
unfolding writes_to last_step
none_noted s [] = refl
none_noted s (w ∷ ws) = rw (none_noted s ws)

-- ---- the places that are left

pub none_written : (p : List Line) (n k : ℕ) (s : State) → get_elem? p k ≡ none → places_written p n k s ≡ []
unfolding places_written
none_written p zero k s e = refl
none_written p (suc n) k s e = rw (e, places_written)

pub one_written : (p : List Line) (n k : ℕ) (s : State) (l : Line) → get_elem? p k ≡ some l → places_written p (suc n) k s ≡ place l.destination s ∷ places_written p n (next l k s) (after l s)
unfolding places_written
one_written p n k s l e = rw (e, places_written)

-- ---- one place for each step

module _ (p : List Line) where
  one_each_on : (n k : ℕ) (s : State) (b : ℕ) → length (places_written p n k s) ≡ length (run_on p n k s b).rows
  unfolding places_written
  one_each_on zero k s b = ap (λ (x : Ran). length x.rows) (sym (run-zero p k s b))
  one_each_on (suc n) k s b = by_line (get_elem? p k) refl (λ l. one_each_on n (next l k s) (after l s) (bus_after l s b))
    where
      by_line : (o : Option Line) → get_elem? p k ≡ o → ((l : Line) → length (places_written p n (next l k s) (after l s)) ≡ length (run_on p n (next l k s) (after l s) (bus_after l s b)).rows)
          → length (places_written p (suc n) k s) ≡ length (run_on p (suc n) k s b).rows
      by_line none e rest = ap (λ (js : List ℕ). length js) (none_written p (suc n) k s e) ∙ sym (ap (λ (x : Ran). length x.rows) (stopped p k s b e (suc n)))
      by_line (some l) e rest = ap (λ (js : List ℕ). length js) (one_written p n k s l e) ∙ ap suc (rest l) ∙ sym (ap (λ (x : Ran). length x.rows) (step_run p k s b l e n))

pub one_each : OneEach
one_each p n k s = one_each_on p n k s 0

-- ---- a place's last value is the one that its last write left

module _ (p : List Line) (i : ℕ) where
  -- the value at i after n steps
  abbrev value_after : ℕ → ℕ → State → ℕ → ℕ
  value_after n k s b = get_or (run_on p n k s b).state i 0

  one_step : (k : ℕ) (s : State) (b : ℕ) (l : Line) → get_elem? p k ≡ some l → (n : ℕ) → value_after (suc n) k s b ≡ value_after n (next l k s) (after l s) (bus_after l s b)
  one_step k s b l e n = ap (λ (x : Ran). get_or x.state i 0) (step_run p k s b l e n)

  no_steps : (k : ℕ) (s : State) (b : ℕ) → value_after 0 k s b ≡ get_or s i 0
  no_steps k s b = ap (λ (x : Ran). get_or x.state i 0) (run-zero p k s b)

  -- one step more, where the rest is known
  module _ (n k : ℕ) (s : State) (b : ℕ)
      (rest : (l : Line) → value_after (last_step i (places_written p n (next l k s) (after l s))) (next l k s) (after l s) (bus_after l s b) ≡ value_after n (next l k s) (after l s) (bus_after l s b)) where
    by_place : (l : Line) → get_elem? p k ≡ some l → (t : Bool) → eqb i (place l.destination s) ≡ t → value_after (cond t 1 0) k s b ≡ get_or (after l s) i 0
    by_place l e true f = one_step k s b l e 0 ∙ no_steps (next l k s) (after l s) (bus_after l s b)
    by_place l e false f = no_steps k s b ∙ sym (ap (λ (u : State). get_or u i 0) (set_after l s) ∙ get_or-set_other s (place l.destination s) i (result l s) 0 (eqb-false i _ f))

    by_later : (l : Line) → get_elem? p k ≡ some l → (m : ℕ) → m ≡ last_step i (places_written p n (next l k s) (after l s)) → (t : Bool) → ltb 0 m ≡ t
        → value_after (cond t (suc m) (cond (eqb i (place l.destination s)) 1 0)) k s b ≡ value_after (suc n) k s b
    by_later l e m q false f =
        let z : 0 ≡ m = omega (arith, ltb-false 0 m f) in
        by_place l e (eqb i (place l.destination s)) refl ∙ sym (no_steps (next l k s) (after l s) (bus_after l s b))
        ∙ ap (λ (j : ℕ). value_after j (next l k s) (after l s) (bus_after l s b)) (z ∙ q) ∙ rest l ∙ sym (one_step k s b l e n)
    by_later l e m q true f =
        one_step k s b l e m ∙ ap (λ (j : ℕ). value_after j (next l k s) (after l s) (bus_after l s b)) q ∙ rest l ∙ sym (one_step k s b l e n)

    by_line : (o : Option Line) → get_elem? p k ≡ o → value_after (last_step i (places_written p (suc n) k s)) k s b ≡ value_after (suc n) k s b
    unfolding last_step
    by_line none e =
        ap (λ (js : List ℕ). value_after (last_step i js) k s b) (none_written p (suc n) k s e) ∙ no_steps k s b
        ∙ sym (ap (λ (x : Ran). get_or x.state i 0) (stopped p k s b e (suc n)))
    by_line (some l) e =
        ap (λ (js : List ℕ). value_after (last_step i js) k s b) (one_written p n k s l e)
        ∙ by_later l e (last_step i (places_written p n (next l k s) (after l s))) refl (ltb 0 (last_step i (places_written p n (next l k s) (after l s)))) refl

  last_value : (n k : ℕ) (s : State) (b : ℕ) → value_after (last_step i (places_written p n k s)) k s b ≡ value_after n k s b
  unfolding places_written last_step
  last_value zero k s b = refl
  last_value (suc n) k s b = by_line n k s b (λ l. last_value n (next l k s) (after l s) (bus_after l s b)) (get_elem? p k) refl

pub last_write : LastWrite
last_write p n k i s = last_value p i n k s 0
