-- What stands at a position of a text, and the text after its line. Assumes nothing.
use Prim.Native.Nat.{ℕ, ◌+◌, ◌-◌, ◌≤◌, ◌<◌}
use mathlib.Core.Path.{◌≡◌, refl, sym, ap, ◌∙◌}
use mathlib.Core.List.{List, [], ◌∷◌}
use mathlib.Core.Option.{none, some}
use native.Mathlib.Omega.{arith}
use lib.ListN.{length, drop, take, drop_of_length-le}
use lib.Seq.{drop-drop, drop-length}
use borrow.Author.Tests.{eq-eqb, ne_eqb}
use Rattle.model.specs.Text.{newline, up_to, past, front_line}
use Rattle.model.specs.Stored.{Parsed}
use Rattle.std.specs.Prelude.{None, Some, Result}
use Rattle.model.specs.declared.Condition.{Condition}
use Rattle.text.specs.declared.Stored.{Stored}
use Rattle.text.specs.Lines.{meaning}
use Rattle.text.proofs.PartLaws.{rest_all, after_first}
use Rattle.lines.specs.Reading.{front_step, Front, front_of, step_meaning, taken_meaning}
use Rattle.lines.specs.declared.reader.Taken.{Taken}

-- ---- the step

pub step_end : (text : List ℕ) → length text ≡ 0 → none ≡ front_step text
unfolding front_step
step_end text z = rw (eq-eqb (length text) 0 z)

pub step_line : (text : List ℕ) → 0 < length text → some (front_line text) ≡ front_step text
unfolding front_step
step_line text h = rw (ne_eqb (length text) 0 (λ z. omega arith))

-- ---- the position after a line

pub past_end : (c : ℕ) (s : List ℕ) (at : ℕ) → length s ≤ at → drop (length s) s ≡ past c (drop at s)
unfolding past
past_end c s at h = rw (drop_of_length-le s h, drop-length s)

module _ (c : ℕ) (s : List ℕ) (at n : ℕ) (e : n ≡ length (up_to c (take (length s - at) (drop at s)))) where
  -- n bytes stand before the first c
  pub past-found : drop (at + n + 1) s ≡ past c (drop at s)
  past-found =
      let i : at + n + 1 ≡ at + (n + 1) = omega arith in
      rw i (sym (drop-drop (n + 1) at s) ∙ after_first c (drop at s) n (e ∙ ap (λ (x : List ℕ). length (up_to c x)) (rest_all s at)))

  -- there is none
  pub past_none : length s ≤ at + n + 1 → drop (length s) s ≡ past c (drop at s)
  past_none h = drop-length s ∙ sym (drop_of_length-le s h) ∙ past-found

-- ---- what an answer tells of the text

none_empty : (text : List ℕ) → none ≡ front_step text → length text ≡ 0
none_empty [] e = refl
none_empty (b ∷ s) e =
    let f : some (front_line (b ∷ s)) ≡ front_step (b ∷ s) = step_line (b ∷ s) (omega arith) in
    let z : ◌≡◌ {A = ℕ} 0 1 = cc in
    absurd (omega arith)

-- what is told of a line p
pub record Stands (text : List ℕ) (p : Parsed) : Type 0 where
  pub filled : 0 < length text
  pub front : front_line text ≡ p

some_line : (text : List ℕ) (p : Parsed) → some p ≡ front_step text → Stands text p
some_line [] p e =
    let f : none ≡ front_step [] = step_end [] refl in
    let z : ◌≡◌ {A = ℕ} 0 1 = cc in
    absurd (omega arith)
some_line (b ∷ s) p e =
    let f : some (front_line (b ∷ s)) ≡ front_step (b ∷ s) = step_line (b ∷ s) (omega arith) in
    record { filled = omega arith; front = cc }

module _ (text : List ℕ) (at : ℕ) (k : Taken) (e : taken_meaning text k ≡ front_of (drop at text)) where
  pub taken_end : k.step ≡ None → length (drop at text) ≡ 0
  taken_end i = none_empty (drop at text) (ap step_meaning (sym i) ∙ ap (λ (x : Front). x.step) e)

  pub taken_line : (p : Result Stored Condition) → k.step ≡ Some p → Stands (drop at text) (meaning p)
  taken_line p i = some_line (drop at text) (meaning p) (ap step_meaning (sym i) ∙ ap (λ (x : Front). x.step) e)

  pub taken_on : drop k.at text ≡ past newline (drop at text)
  taken_on = ap (λ (x : Front). x.rest) e
