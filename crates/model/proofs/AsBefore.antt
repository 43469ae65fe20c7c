-- Request 03: programs accepted before expand as before. Without a public argument every load has the two lines of document 01, so the pieces
-- join to its macros; and 13 apart the conditions are the same. Assumes nothing.
use mathlib.Core.Path.{◌≡◌, refl, ap, ◌∙◌}
use mathlib.Core.Bool.{false, not}
use mathlib.Core.List.{List, [], ◌∷◌}
use Prim.Native.Nat.{ℕ, ◌+◌, ◌≤◌}
use native.Mathlib.Omega.{arith}
use borrow.Author.Tests.{le-ltb}
use lib.Dec.{T, nltb→le}
use lib.ListN.{length}
use Rattle.model.specs.declared.Opcode.{Opcode}
use Rattle.model.specs.declared.Opcode.TheVariants.{Nop, Jmp, Not, Mov, And, Orr, Xor, Lsl, Lsr, Add, Mul, Beq, Bne}
use Rattle.model.specs.declared.Operand.{Operand}
use Rattle.model.specs.declared.Target.{Target}
use Rattle.model.specs.declared.Target.TheVariants.{Empty as NoTarget, Line as ToLine}
use Rattle.model.specs.declared.Line.{Line}
use Rattle.model.specs.Limits.{max_accepted}
use Rattle.model.specs.Answers.{counted}
use Rattle.model.specs.Places.{kind_of, is_public}
use Rattle.model.specs.Lines.{Every}
use Rattle.model.specs.Stored.{line_count, lines, program_check}
use Rattle.model.specs.Layouts.{neighbours}
use Rattle.model.specs.Marks.{is_above, holds10, holds11, holds12, holds14, holds15, holds16, mark_fault, first_bad, marks_of, mark_check, Accepted}
use Rattle.model.specs.Expansion.{coded, shifts, scale, combine, fetch, flip, write_back, lookup, negate, copy, code_bit, load, macro, expand, written, expansion_in, expand_outcome}
use Rattle.model.specs.Before.{lookup_before, negate_before, copy_before, macro_by, macro_before, expand_before, holds13, targets_before, Never, NoneHeld, AcceptedBefore, AsBefore}
use Rattle.model.proofs.StoredLaws.{no_false}
use Rattle.model.proofs.Acceptance.{nor_T, clear, AllRight, accepted_right}
use Rattle.model.proofs.Loads.{coded-kind}
use Rattle.model.proofs.ByMacros.{expand_by_lem}

-- ---- the expansion

macro-before : (op : Opcode) (d a b : Operand) → is_public (kind_of a) ≡ false → is_public (kind_of b) ≡ false → macro neighbours op d a b ≡ macro_before op d a b
unfolding macro macro_by lookup negate copy load code_bit shifts scale combine fetch flip write_back lookup_before negate_before copy_before
macro-before Nop d a b ea eb = refl
macro-before Jmp d a b ea eb = refl
macro-before Not d a b ea eb = rw ea
macro-before Mov d a b ea eb = rw ea
macro-before And d a b ea eb = rw (ea, eb)
macro-before Orr d a b ea eb = rw (ea, eb)
macro-before Xor d a b ea eb = rw (ea, eb)
macro-before Lsl d a b ea eb = refl
macro-before Lsr d a b ea eb = refl
macro-before Add d a b ea eb = refl
macro-before Mul d a b ea eb = refl
macro-before Beq d a b ea eb = refl
macro-before Bne d a b ea eb = refl

expand-before : (p : List Line) → Never holds13 p → expand neighbours p ≡ expand_before p
unfolding holds13
expand-before p h =
    expand_by_lem macro_before (coded neighbours) (λ l. T (not (holds13 l)))
    (λ op d a b t k.
    let p = nor_T (is_public (kind_of a)) (is_public (kind_of b)) k in
    macro-before op d (coded neighbours a) (coded neighbours b)
    (ap is_public (coded-kind neighbours a) ∙ no_false (is_public (kind_of a)) p.0) (ap is_public (coded-kind neighbours b) ∙ no_false (is_public (kind_of b)) p.1))
    p h

-- ---- acceptance

-- a line of which none of the conditions held
no_fault : (n : ℕ) (l : Line) → NoneHeld n l → mark_fault n l ≡ 0
unfolding mark_fault
no_fault n l h =
    rw (no_false (holds10 l) h.0, no_false (holds11 l) h.1, no_false (holds12 l) h.2, no_false (holds14 l) h.4, no_false (holds15 l) h.5, no_false (holds16 n l) h.6)

none_held : (n : ℕ) (l : Line) → mark_fault n l ≡ 0 → T (not (holds13 l)) → NoneHeld n l
none_held n l e h = let c = clear n l e in (c.c10, c.c11, c.c12, h, c.c14, c.c15, c.c16)

first_passes : (n i : ℕ) (p : List Line) → Every (NoneHeld n) p → first_bad n i p ≡ counted n
unfolding first_bad
first_passes n i [] h = refl
first_passes n i (l ∷ p) h = rw (no_fault n l h.0) (first_passes n (i + 1) p h.1)

never_13 : (n : ℕ) (p : List Line) → Every (NoneHeld n) p → Never holds13 p
never_13 n [] h = tt
never_13 n (l ∷ p) h = (h.0.3, never_13 n p h.1)

accepted_now : (p : List Line) → AcceptedBefore p → Accepted p × Never holds13 p
unfolding Accepted marks_of
accepted_now p A = ((A.right, rw (le-ltb max_accepted (length p) A.few) (first_passes (length p) 0 p A.none)), never_13 (length p) p A.none)

-- a target within the line count is within the old range
module _ (n : ℕ) (few : n ≤ max_accepted) where
  target_low : (t : Target) → T (not (is_above n t)) → T (not (is_above targets_before t))
  unfolding is_above
  target_low NoTarget h = tt
  target_low (ToLine t) h = rw (le-ltb targets_before t (omega (arith, nltb→le n t h))) tt

  lines-before : (p : List Line) → AllRight n p → Never holds13 p → Never (λ l. is_above targets_before l.target) p × Every (NoneHeld n) p
  unfolding AllRight holds16
  lines-before [] r h = (tt, tt)
  lines-before (l ∷ p) r h =
      let w = lines-before p r.2 h.1 in
      ((target_low l.target (clear n l r.1).c16, w.0), (none_held n l r.1 h.0, w.1))

accepted_then : (p : List Line) → Accepted p → Never holds13 p → AcceptedBefore p
unfolding Accepted
accepted_then p A h =
    let r = accepted_right p A in
    let w = lines-before (length p) r.few p r.right h in
    record { right = A.0; targets = w.0; few = r.few; none = w.1 }

-- ---- the claim

answer-before : (p out : List ℕ) → program_check p ≡ counted (line_count p) → AcceptedBefore (lines p) → expand_outcome 0 0 p out ≡ written (expand_before (lines p)) out
unfolding expansion_in mark_check Accepted
answer-before p out c A =
    let w = accepted_now (lines p) A in
    rw (c, w.0.1) (ap (λ (ls : List Line). written ls out) (expand-before (lines p) w.1))

pub as_before : AsBefore
as_before = record { accepted = accepted_now; were_accepted = accepted_then; expands = expand-before; answers = answer-before }
