-- Printing a text piece by piece: what is left to print, after the bytes so far, always gives the whole text. Then a text in a lent
-- store. Assumes nothing.
use Prim.Native.Nat.{ℕ, ◌+◌, ◌≤◌, ◌<◌}
use mathlib.Core.Path.{◌≡◌, refl, sym, ap, ap₂, ◌∙◌}
use mathlib.Core.Bool.{Bool, true, false, cond}
use mathlib.Core.List.{List, [], ◌∷◌, ◌++◌}
use native.Mathlib.Omega.{arith}
use native.Mathlib.Nat.{zero-add}
use borrow.Author.Tests.{lt-ltb, le-ltb}
use lib.Dec.{ltb}
use lib.ListN.{length, drop, length-append}
use lib.Seq.{sets, length-sets}
use Rattle.std.specs.Prelude.{Result, Ok}
use Rattle.model.specs.declared.Refusal.{Refusal}
use Rattle.model.specs.Answers.{report, counted, refused, Outcome, outcome, at_front}
use Rattle.model.proofs.StoredLaws.{counted_count, never_counted}
use Rattle.model.proofs.RoundTrip.{no_text}
use Rattle.model.proofs.OutcomeLaws.{first_store}
use Rattle.printing.specs.Writing.{Wrote}
use Rattle.model.proofs.Overwrites.{sets_front}
use Rattle.printing.proofs.WroteLaws.{wrote_sets}
use Rattle.model.specs.Text.{fitted}

-- what is written, and then more
wrote_length : {o p : List ℕ} {a b : ℕ} {x : List ℕ} {m : ℕ} → Wrote o p a b x m → (y : List ℕ) → b + length y ≡ a + length (x ++ y)
wrote_length {x = x} w y = omega (arith, w.after, length-append x y)

-- nothing is written to an empty part
wrote_none : (o p : List ℕ) (b : ℕ) (x : List ℕ) (m : ℕ) → Wrote o p 0 b x m → length o ≡ 0 → p ≡ []
wrote_none o p b x m w e = sym (no_text p (ap length w.bytes ∙ length-sets o 0 x ∙ e))

-- of a text at a place of a store, the rest at the next place
pub record Left (old new : List ℕ) (at next : ℕ) (whole rest : List ℕ) : Type 0 where
  pub long : length new ≡ length old
  pub bytes : sets new next rest ≡ sets old at whole
  pub after : next + length rest ≡ at + length whole

pub left_all : (old : List ℕ) (at : ℕ) (whole : List ℕ) → Left old old at at whole whole
left_all old at whole = record { long = refl; bytes = refl; after = refl }

module _ {old mid : List ℕ} {at next : ℕ} {whole rest : List ℕ} (l : Left old mid at next whole rest) where
  pub left-next : {new : List ℕ} {further : ℕ} {x more : List ℕ} {m : ℕ} → rest ≡ x ++ more → Wrote mid new next further x m → length new ≡ length mid → Left old new at further whole more
  left-next {new} {further} {x} {more} {m} e w long =
      record {
        long = long ∙ l.long;
        bytes = wrote_sets w more ∙ ap (sets mid next) (sym e) ∙ l.bytes;
        after = wrote_length w more ∙ ap (λ (t : List ℕ). next + length t) (sym e) ∙ l.after;
      }

  pub left_none : (m : ℕ) → rest ≡ [] → next ≤ at + m → Wrote old mid at next whole m
  left_none m e h =
      record {
        bytes = ap (sets mid next) (sym e) ∙ l.bytes;
        after = omega (arith, ap length e, l.after);
        near = h;
      }

-- ---- a text at the front of a store, or 17

module _ (text out : List ℕ) where
  pub no_room : length out < length text → outcome (refused 17 0) (out ∷ []) ≡ fitted text out
  unfolding fitted
  no_room h = rw (lt-ltb (length out) (length text) h)

  pub all_fits : length text ≤ length out → outcome (counted (length text)) (at_front text out ∷ []) ≡ fitted text out
  unfolding fitted
  all_fits h = rw (le-ltb (length out) (length text) h)

  -- a text that was written from the front of a store with room for it
  pub written_fits : {new : List ℕ} {next m : ℕ} → Wrote out new 0 next text m → next ≤ length out → outcome (counted next) (new ∷ []) ≡ fitted text out
  written_fits {new} {next} {m} w h =
      let count : next ≡ length text = w.after ∙ zero-add (length text) in
      let fits : length text ≤ length out = omega arith in
      ap₂ (λ (k : ℕ) (t : List ℕ). outcome (counted k) (t ∷ [])) count (w.bytes ∙ sets_front out text fits) ∙ all_fits fits

pub nothing_fits : (out : List ℕ) → outcome (counted 0) (out ∷ []) ≡ fitted [] out
nothing_fits out = all_fits [] out (omega arith)

-- printed into an empty part before the store, and then into the store
module _ (text out : List ℕ) {none : List ℕ} {size m : ℕ} (w : Wrote [] none 0 size text m) where
  nothing : none ≡ []
  nothing = wrote_none [] none size text m w refl

  pub measured_no_room : length (none ++ out) < size → outcome (refused 17 0) ((none ++ out) ∷ []) ≡ fitted text out
  measured_no_room h =
      let e : none ++ out ≡ out = ap (λ (l : List ℕ). l ++ out) nothing in
      rw e (no_room text out (omega (arith, ap length e, w.after)))

  pub measured_fits : {new : List ℕ} {next : ℕ} → size ≤ length (none ++ out) → Wrote (none ++ out) new 0 next text m → outcome (counted next) (new ∷ []) ≡ fitted text out
  measured_fits {new} {next} h v =
      let e : none ++ out ≡ out = ap (λ (l : List ℕ). l ++ out) nothing in
      let u : Wrote out new 0 next text m = rw e at v in
      written_fits text out u (omega (arith, ap length e, w.after, v.after))

-- ---- what a caller learns of a count

either_within : (t : Bool) (text out new : List ℕ) (n : ℕ) → ltb (length out) (length text) ≡ t
    → outcome (counted n) (new ∷ []) ≡ cond t (outcome (refused 17 0) (out ∷ [])) (outcome (counted (length text)) (at_front text out ∷ [])) → n ≤ length new
either_within true text out new n h e = absurd (never_counted (sym (ap (λ (o : Outcome). o.answer) e)))
either_within false text out new n h e =
    omega (arith, counted_count (ap (λ (o : Outcome). o.answer) e), ap (λ (o : Outcome). length (first_store o)) e, length-append text (drop (length text) out))

-- the bytes of a text that fitted are in the store
pub count_within : (text out new : List ℕ) (a : Result ℕ (Refusal ℕ)) (n : ℕ) → outcome (report a) (new ∷ []) ≡ fitted text out → a ≡ Ok n → n ≤ length new
unfolding fitted
count_within text out new a n e c = either_within (ltb (length out) (length text)) text out new n refl (ap (λ (b : Result ℕ (Refusal ℕ)). outcome (report b) (new ∷ [])) (sym c) ∙ e)
