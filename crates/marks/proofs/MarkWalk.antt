-- The mark check, one condition of a line after the other, and one line after the other, once the numbers are those of lines.
-- Assumes nothing.
use mathlib.Core.Path.{◌≡◌, sym, ap, ◌∙◌}
use mathlib.Core.Bool.{Bool, true, false, cond}
use mathlib.Core.List.{List, ◌∷◌}
use Prim.Native.Nat.{ℕ, ◌+◌, ◌≤◌, ◌<◌}
use borrow.Author.Tests.{ne_eqb, lt-ltb, le-ltb}
use lib.Dec.{eqb}
use lib.ListN.{drop}
use Rattle.std.specs.Prelude.{Result, Ok, Err}
use Rattle.model.specs.declared.Refusal.{Refusal}
use Rattle.model.specs.declared.Line.{Line}
use Rattle.model.specs.Limits.{max_accepted}
use Rattle.model.specs.Answers.{Report, report, counted, refused}
use Rattle.model.specs.Stored.{line_count, line_at, lines, program_check}
use Rattle.model.specs.Marks.{mark_fault, first_bad, marks_of, mark_check}
use Rattle.model.proofs.StoredLaws.{drop_line, drop_end, length-lines}
use Rattle.model.proofs.CheckAnswers.{refusal, count-told, refusal-told, refusal_stands}

-- ---- a line: a condition that holds gives its number, one that does not leaves the rest to the next

pub broken : (r b : Bool) (k n : ℕ) → r ≡ b → r ≡ true → k ≡ cond b k n
broken r b k n e t = rw (← e, t)

pub kept : (r b : Bool) (x k n : ℕ) → r ≡ b → r ≡ false → x ≡ n → x ≡ cond b k n
kept r b x k n e t h = rw (← e, t) h

-- ---- a program

bad_at : (n i : ℕ) (ls r : List Line) (l : Line) → drop i ls ≡ l ∷ r → first_bad n i (drop i ls) ≡ cond (eqb (mark_fault n l) 0) (first_bad n (i + 1) r) (refused (mark_fault n l) i)
unfolding first_bad
bad_at n i ls r l e = rw e

module _ (p : List ℕ) (n i x : ℕ) (h : i < line_count p) (e : x ≡ mark_fault n (line_at p i)) where
  rest : Report
  rest = first_bad n (i + 1) (drop (i + 1) (lines p))

  at_line_lem : first_bad n i (drop i (lines p)) ≡ cond (eqb x 0) rest (refused x i)
  unfolding rest
  at_line_lem =
      bad_at n i (lines p) (drop (i + 1) (lines p)) (line_at p i) (drop_line p i h)
      ∙ ap (λ (k : ℕ). cond (eqb k 0) rest (refused k i)) (sym e)

  pub passes : x ≡ 0 → first_bad n (i + 1) (drop (i + 1) (lines p)) ≡ first_bad n i (drop i (lines p))
  unfolding rest
  passes z = sym (at_line_lem ∙ ap (λ (k : ℕ). cond (eqb k 0) rest (refused k i)) z)

  pub fails : (x ≡ 0 → ⊥) → refused x i ≡ first_bad n i (drop i (lines p))
  fails z = sym (at_line_lem ∙ ap (λ (b : Bool). cond b rest (refused x i)) (ne_eqb x 0 z))

pub ends : (p : List ℕ) (n i : ℕ) → line_count p ≤ i → counted n ≡ first_bad n i (drop i (lines p))
unfolding first_bad
ends p n i h = rw (drop_end p i h)

pub too_long : (p : List ℕ) → max_accepted < line_count p → refused 9 0 ≡ marks_of (lines p)
unfolding marks_of
too_long p h = rw (length-lines p, lt-ltb max_accepted (line_count p) h)

pub begins : (p : List ℕ) → line_count p ≤ max_accepted → first_bad (line_count p) 0 (lines p) ≡ marks_of (lines p)
unfolding marks_of
begins p h = rw (length-lines p, le-ltb max_accepted (line_count p) h)

-- ---- any numbers: what the check of a stored program refuses is refused so

pub check_stops : (p : List ℕ) (a : Result ℕ (Refusal ℕ)) (f : Refusal ℕ) → a ≡ Err f → report a ≡ program_check p → refusal f ≡ mark_check p
unfolding mark_check
check_stops p a f q e = refusal_stands f (refusal-told q e) (marks_of (lines p))

pub check_goes_on : (p : List ℕ) (a r : Result ℕ (Refusal ℕ)) (n : ℕ) → report a ≡ program_check p → a ≡ Ok n → report r ≡ marks_of (lines p) → report r ≡ mark_check p
unfolding mark_check
check_goes_on p a r n e q w = rw (count-told q e) w
