-- What an outcome that is no refusal says: an image that was made, an expansion that was written. Each test on the way passed, since the
-- other branch is a refusal. And what a run leaves where each test passes, and what an entry point hands on. Assumes nothing.
use mathlib.Core.Path.{◌≡◌, refl, sym, ap, ◌∙◌}
use mathlib.Core.Bool.{Bool, true, false, cond}
use mathlib.Core.List.{List, [], ◌∷◌, flat_map}
use Prim.Native.Nat.{ℕ, ◌*◌, ◌≤◌}
use native.Mathlib.Omega.{arith}
use borrow.Author.Tests.{le-ltb, ltb-false, eq-eqb, eqb-true}
use lib.Dec.{ltb, eqb}
use lib.ListN.{length, get_or}
use Rattle.model.specs.Limits.{state_size, row_width}
use Rattle.model.specs.Answers.{Report, done, refused, counted, Outcome, outcome, unless_refused, at_front}
use Rattle.model.specs.Places.{State}
use Rattle.model.specs.Stored.{lines, line_count, codes, program_check}
use Rattle.model.specs.Run.{run, run_leaves, run_outcome}
use Rattle.model.specs.declared.Layout.{Layout}
use Rattle.model.specs.Layouts.{layout_of, is_six, Known, named, in_layout}
use Rattle.model.specs.Images.{BitState, image, every, bit_right, carried, image_in}
use Rattle.model.specs.Expansion.{expand, expansion_in, written}
use Rattle.model.specs.Marks.{mark_check}
use Rattle.model.proofs.TestLaws.{holds}
use Rattle.model.proofs.StoredLaws.{counted_count}
use Rattle.model.proofs.BackLaws.{bits-right}

-- ---- the layout that an entry point names

pub inside : (p n : ℕ) (stores : List (List ℕ)) (call : Layout → Outcome) → is_six p n ≡ true → in_layout p n stores call ≡ call (layout_of p n)
inside p n stores call e = rw e

module _ (p n : ℕ) (L : Layout) (six : is_six p n ≡ true) (e : L ≡ layout_of p n) where
  pub named_known : Known L
  named_known = rw e (named p n (holds six))

  pub in_layout_lem : (stores : List (List ℕ)) (call : Layout → Outcome) (x : Outcome) → x ≡ call L → x ≡ in_layout p n stores call
  in_layout_lem stores call x w = w ∙ ap call e ∙ sym (inside p n stores call six)

pub outside : (p n : ℕ) (stores : List (List ℕ)) (call : Layout → Outcome) → is_six p n ≡ false → outcome (refused 23 0) stores ≡ in_layout p n stores call
outside p n stores call e = rw e

-- ---- one step back

pub never_done : {k l : ℕ} {vs : List ℕ} → refused k l ≡ done vs → ⊥
never_done e = let z : ◌≡◌ {A = ℕ} 0 1 = cc in omega arith

pub record Passed (t : Bool) (b : Bool) (x y : Outcome) : Type 0 where
  pub test : t ≡ b
  pub then : x ≡ y

passed_if : (t : Bool) (x : Outcome) (k l : ℕ) (ss : List (List ℕ)) {vs : List ℕ} {us : List (List ℕ)}
    → cond t x (outcome (refused k l) ss) ≡ outcome (done vs) us → Passed t true x (outcome (done vs) us)
passed_if true x k l ss e = record { test = refl; then = e }
passed_if false x k l ss e = absurd (never_done (ap (λ (o : Outcome). o.answer) e))

passed_unless : (t : Bool) (x : Outcome) (k l : ℕ) (ss : List (List ℕ)) {vs : List ℕ} {us : List (List ℕ)}
    → cond t (outcome (refused k l) ss) x ≡ outcome (done vs) us → Passed t false x (outcome (done vs) us)
passed_unless true x k l ss e = absurd (never_done (ap (λ (o : Outcome). o.answer) e))
passed_unless false x k l ss e = record { test = refl; then = e }

-- no refusal: the layout was one of the six
pub record Within (p n : ℕ) (call : Layout → Outcome) (y : Outcome) : Type 0 where
  pub six : is_six p n ≡ true
  pub known : Known (layout_of p n)
  pub then : call (layout_of p n) ≡ y

pub within : (p n : ℕ) (stores : List (List ℕ)) (call : Layout → Outcome) {vs : List ℕ} {us : List (List ℕ)}
    → in_layout p n stores call ≡ outcome (done vs) us → Within p n call (outcome (done vs) us)
within p n stores call e =
    let w = passed_if (is_six p n) (call (layout_of p n)) 23 0 stores e in
    record { six = w.test; known = named p n (holds w.test); then = w.then }

pub record Went (r : Report) (x y : Outcome) : Type 0 where
  pub values : List ℕ
  pub check : r ≡ done values
  pub then : x ≡ y

went : (r : Report) (x : Outcome) (ss : List (List ℕ)) {vs : List ℕ} {us : List (List ℕ)}
    → unless_refused r ss x ≡ outcome (done vs) us → Went r x (outcome (done vs) us)
went (done ws) x ss e = record { values = ws; check = refl; then = e }
went (refused k l) x ss e = absurd (never_done (ap (λ (o : Outcome). o.answer) e))

-- the store, and the two stores, of an outcome
abbrev pub first_store : Outcome → List ℕ
first_store o = get_or o.stores 0 []

abbrev pub second_store : Outcome → List ℕ
second_store o = get_or o.stores 1 []

-- ---- images

pub record Carried (right : ℕ → ℕ → Bool) (over : State → State) (from into result : State) : Type 0 where
  pub long : length from ≡ state_size
  pub passes : every right 0 from ≡ true
  pub made : result ≡ over from

pub carried-made : (right : ℕ → ℕ → Bool) (over : State → State) (from into result : State) (vs : List ℕ)
    → carried right over from into ≡ outcome (done vs) (result ∷ []) → Carried right over from into result
unfolding carried
carried-made right over from into result vs e =
    let w1 = passed_if (eqb (length from) state_size) _ 18 0 (into ∷ []) e in
    let w2 = passed_if (eqb (length into) state_size) _ 18 0 (into ∷ []) w1.then in
    let w3 = passed_if (every right 0 from) _ 19 0 (into ∷ []) w2.then in
    record { long = eqb-true _ _ w1.test; passes = w3.test; made = sym (ap first_store w3.then) }

-- and where each test passes, that is what comes
pub carried_goes : (right : ℕ → ℕ → Bool) (over : State → State) (from into : State) → length from ≡ state_size → length into ≡ state_size → every right 0 from ≡ true
    → carried right over from into ≡ outcome (counted state_size) (over from ∷ [])
unfolding carried
carried_goes right over from into g h e = rw (eq-eqb (length from) state_size g, eq-eqb (length into) state_size h, e)

-- what `to_image` made is the image of a bit state
pub image-made : (L : Layout) (bits into v : State) (vs : List ℕ) → image_in L bits into ≡ outcome (done vs) (v ∷ []) → BitState bits × (v ≡ image L bits)
image-made L bits into v vs e =
    let c = carried-made bit_right (image L) bits into v vs e in
    (bits-right bits c.long c.passes, c.made)

-- ---- runs

-- a run that no check refuses
pub run_outcome_lem : (p : List ℕ) (k b n : ℕ) (s t : List ℕ) → program_check p ≡ counted n → length s ≡ state_size → row_width * b ≤ length t
    → run_outcome p k b s t ≡ run_leaves (lines p) (run (lines p) b k s) t
unfolding run_outcome
run_outcome_lem p k b n s t e h g = rw (e, eq-eqb (length s) state_size h, le-ltb (length t) (row_width * b) g)

-- ---- expansions

pub record Written (L : Layout) (p out : List ℕ) (n : ℕ) (e : List ℕ) : Type 0 where
  pub values : List ℕ
  pub checked : mark_check p ≡ done values
  pub room : length (expand L (lines p)) ≤ line_count out
  pub count : n ≡ length (expand L (lines p))
  pub listing : e ≡ at_front (flat_map codes (expand L (lines p))) out

pub expansion_written : (L : Layout) (p out : List ℕ) (n : ℕ) (e : List ℕ) → expansion_in L p out ≡ outcome (counted n) (e ∷ []) → Written L p out n e
unfolding expansion_in written
expansion_written L p out n e h =
    let w = went (mark_check p) _ (out ∷ []) h in
    let w1 = passed_unless (ltb (line_count out) (length (expand L (lines p)))) _ 17 0 (out ∷ []) w.then in
    record {
      values = w.values;
      checked = w.check;
      room = ltb-false _ _ w1.test;
      count = sym (counted_count (ap (λ (o : Outcome). o.answer) w1.then));
      listing = sym (ap first_store w1.then);
    }
