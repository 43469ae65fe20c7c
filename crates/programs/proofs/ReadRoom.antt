-- Reading does not change with the room where there is a line of room for each byte: a line read takes a byte or more.
-- Assumes nothing.
use Prim.Native.Nat.{ℕ, zero, suc, ◌+◌, ◌≤◌, ◌<◌}
use mathlib.Core.Path.{◌≡◌, refl, sym, ap, ◌∙◌}
use mathlib.Core.Bool.{Bool, true, false, cond}
use mathlib.Core.List.{List, [], ◌∷◌}
use native.Mathlib.Omega.{arith}
use borrow.Author.Tests.{eqb-false, lt-leb}
use lib.Dec.{eqb, leb}
use lib.ListN.{length}
use Rattle.model.specs.Answers.{counted, refused}
use Rattle.model.specs.Text.{newline, past, front_line, ends, then_reads, reading}
use Rattle.model.proofs.RoundTrip.{reading-zero, reading_suc}

past_most : (c : ℕ) (s : List ℕ) → length (past c s) ≤ length s
unfolding past
past_most c [] = omega arith
past_most c (b ∷ s) = by (eqb b c) (past_most c s)
  where
    by : (t : Bool) → length (past c s) ≤ length s → length (cond t s (past c s)) ≤ suc (length s)
    by true h = omega arith
    by false h = omega arith

past_fewer : (c : ℕ) (s : List ℕ) → (length s ≡ 0 → ⊥) → length (past c s) < length s
unfolding past
past_fewer c [] h = absurd (h refl)
past_fewer c (b ∷ s) h = by (eqb b c) (past_most c s)
  where
    by : (t : Bool) → length (past c s) ≤ length s → length (cond t s (past c s)) < suc (length s)
    by true h = omega arith
    by false h = omega arith

pub room_enough : (more n room room' : ℕ) (text : List ℕ) → n + length text ≤ room → n + length text ≤ room' → reading more n room text ≡ reading more n room' text
room_enough zero n room room' text h g = reading-zero n room text ∙ sym (reading-zero n room' text)
room_enough (suc more) n room room' text h g =
    reading_suc more n room text ∙ by (eqb (length text) 0) refl (λ a b. room_enough more (n + 1) room room' (past newline text) a b) ∙ sym (reading_suc more n room' text)
  where
    by : (t : Bool) → eqb (length text) 0 ≡ t
        → (n + 1 + length (past newline text) ≤ room → n + 1 + length (past newline text) ≤ room' → reading more (n + 1) room (past newline text) ≡ reading more (n + 1) room' (past newline text))
        → cond t (ends (counted n)) (cond (leb room n) (ends (refused 8 n)) (then_reads (front_line text) n (reading more (n + 1) room (past newline text))))
        ≡ cond t (ends (counted n)) (cond (leb room' n) (ends (refused 8 n)) (then_reads (front_line text) n (reading more (n + 1) room' (past newline text))))
    by true e ih = refl
    by false e ih =
        let some-text : length text ≡ 0 → ⊥ = eqb-false (length text) 0 e in
        let fewer : length (past newline text) < length text = past_fewer newline text some-text in
        rw (lt-leb room n (omega arith), lt-leb room' n (omega arith)) (ap (then_reads (front_line text) n) (ih (omega arith) (omega arith)))
