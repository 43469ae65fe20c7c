-- The operands of an instruction, as the code reads them one after the other, and the mark check without the target: a label names no line above
-- the count, so that 16 never holds. Assumes nothing.
use Prim.Native.Nat.{ℕ, ◌+◌, ◌-◌, ◌≤◌}
use mathlib.Core.Bool.{true, false}
use mathlib.Core.Path.{◌≡◌, refl}
use mathlib.Core.List.{List, [], ◌∷◌}
use mathlib.Core.Option.{none, some}
use native.Mathlib.Omega.{arith}
use borrow.Author.Tests.{eq-eqb, ne_eqb, le-ltb}
use Rattle.std.specs.Prelude.{Option, Some, None, IfSome}
use Rattle.model.specs.Stored.{target_of, line_of, Parsed, numbers, wrong, no_literal}
use Rattle.model.specs.Marks.{is_above, holds10, holds11, holds12, holds14, holds15, holds16, mark_fault}
use Rattle.published.specs.Published.{published_number, mark_for, all_alphanumeric, Label, find, or_missing, operands_parsed}
use Rattle.published.specs.Passes.{target_number}

-- a target that is not above the count
low_target : (n : ℕ) (target : Option ℕ) → IfSome target (λ line. line ≤ n) → is_above n (target_of (target_number target)) ≡ false
unfolding is_above target_of
low_target n None h = refl
low_target n (Some target) h = let z : 1 + target - 1 ≡ target = omega arith in rw (ne_eqb (1 + target) 0 (λ e. omega arith), z) (le-ltb n target h)

-- the mark check is that without the target
pub no_target : (n m o d a b : ℕ) (target : Option ℕ) → IfSome target (λ line. line ≤ n) → mark_fault n (line_of m o d a b (target_number target)) ≡ mark_fault 0 (line_of m o d a b 0)
unfolding mark_fault holds10 holds11 holds12 holds14 holds15 holds16
no_target n m o d a b target h = rw (low_target n target h, low_target 0 None tt)

-- a target
module _ (labels : List Label) (name : List ℕ) (next : ℕ → Parsed) where
  pub target_bad : all_alphanumeric name ≡ false → wrong 25 ≡ or_missing true labels name next
  target_bad e = rw e

  pub target_missing : all_alphanumeric name ≡ true → find name labels ≡ none → wrong 24 ≡ or_missing true labels name next
  target_missing e f = rw (e, f)

  pub target_found : (line : ℕ) → all_alphanumeric name ≡ true → find name labels ≡ some line → next (target_number (Some line)) ≡ or_missing true labels name next
  target_found line e f = rw (e, f)

module _ (n o : ℕ) (d a b : List ℕ) where
  pub no_place : (t : ℕ) → no_literal (published_number d) ≡ none → wrong 25 ≡ operands_parsed n o d a b t
  unfolding operands_parsed
  no_place t e = rw e

  pub no_first : (t x : ℕ) → no_literal (published_number d) ≡ some x → published_number a ≡ none → wrong 25 ≡ operands_parsed n o d a b t
  unfolding operands_parsed
  no_first t x e f = rw (e, f)

  pub no_second : (t x y : ℕ) → no_literal (published_number d) ≡ some x → published_number a ≡ some y → published_number b ≡ none → wrong 25 ≡ operands_parsed n o d a b t
  unfolding operands_parsed
  no_second t x y e f g = rw (e, f, g)

  module _ (target : Option ℕ) (x y z : ℕ) (e : no_literal (published_number d) ≡ some x) (f : published_number a ≡ some y) (g : published_number b ≡ some z) (h : IfSome target (λ line. line ≤ n)) where
    pub marks_fail : (mark_fault 0 (line_of (mark_for x) o x y z 0) ≡ 0 → ⊥) → wrong 25 ≡ operands_parsed n o d a b (target_number target)
    unfolding operands_parsed
    marks_fail q = rw (e, f, g, no_target n (mark_for x) o x y z target h, ne_eqb _ _ q)

    pub marks_pass : (m : ℕ) → m ≡ mark_for x → mark_fault 0 (line_of m o x y z 0) ≡ 0
        → numbers (m ∷ o ∷ x ∷ y ∷ z ∷ target_number target ∷ []) ≡ operands_parsed n o d a b (target_number target)
    unfolding operands_parsed
    marks_pass m p q = rw (e, f, g, no_target n (mark_for x) o x y z target h, ← p, eq-eqb _ _ q)
