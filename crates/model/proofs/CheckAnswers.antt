-- What reads, checks or expands answers a count or a refusal, and never as a run does: of the paper's answer, and of the code's. A program
-- that the mark check does not refuse is accepted. Assumes nothing.
use Prim.Native.Nat.{ℕ, zero, suc, ◌+◌, ◌<◌}
use mathlib.Core.Path.{◌≡◌, refl, sym, ap, ◌∙◌}
use mathlib.Core.Bool.{Bool, true, false, cond}
use mathlib.Core.List.{List, [], ◌∷◌}
use native.Mathlib.Omega.{arith}
use lib.Dec.{eqb, leb, ltb}
use lib.ListN.{length}
use Rattle.std.specs.Prelude.{Option, None, Some, is_some, Result, Ok, Err}
use Rattle.model.specs.declared.Condition.{Condition}
use Rattle.model.specs.declared.Condition.TheVariants.{NoNewline, NotFiveCommas, UnknownMark, UnknownOpcode, WrongFields, WrongOperand, TooManyLines, StoreFull, TooLong, ReservedPlace, WrongDestination, SensitiveArgument, NoMacro, NoBit, TargetAbove, NoRoom, WrongLength, WrongImage, TraceTooShort, SeveralValues, TooManyValues, UnknownLayout, WrongLabel, NoCounterpart, WrongWatch, WrongMap, WrongChoice, TooFewWords}
use Rattle.model.specs.declared.Refusal.{Refusal}
use Rattle.model.specs.declared.Layout.{Layout}
use Rattle.model.specs.declared.Line.{Line}
use Rattle.model.specs.Limits.{max_accepted}
use Rattle.model.specs.Answers.{Report, done, refused, counted, number_of, number_or_0, report, Outcome, outcome, and_then, unless_refused}
use Rattle.model.specs.Stored.{Parsed, numbers, wrong, line_count, lines, program_check}
use Rattle.model.specs.Text.{newline, past, front_line, Reading, then_reads, reading}
use Rattle.model.specs.Marks.{mark_fault, first_bad, marks_of, mark_check, Accepted}
use Rattle.model.specs.Layouts.{layout_of, is_six}
use Rattle.model.specs.Expansion.{expand, expansion_in, written, expand_outcome}
use Rattle.model.proofs.StoredLaws.{CheckAnswer, accepts, refuses as turns_down, check_answer}
use Rattle.model.proofs.RoundTrip.{reading-zero, reading_suc}
use Rattle.model.proofs.ExpansionLaws.{mark_accepted}
use Rattle.model.proofs.OutcomeLaws.{never_done}

pub data CountOrRefusal (r : Report) : Type 0 where
  counts : (n : ℕ) → r ≡ counted n → CountOrRefusal r
  refuses : (k l : ℕ) → r ≡ refused k l → CountOrRefusal r

pub either : (t : Bool) (x y : Report) → CountOrRefusal x → CountOrRefusal y → CountOrRefusal (cond t x y)
either true x y a b = a
either false x y a b = b

pub then_answers : (x y : Report) → CountOrRefusal y → CountOrRefusal (and_then x y)
then_answers (done vs) y b = b
then_answers (refused k l) y b = refuses k l refl

-- ---- reading

either-reading : (t : Bool) (x y : Reading) → CountOrRefusal x.answer → CountOrRefusal y.answer → CountOrRefusal (cond t x y).answer
either-reading true x y a b = a
either-reading false x y a b = b

then_reading : (x : Parsed) (n : ℕ) (next : Reading) → CountOrRefusal next.answer → CountOrRefusal (then_reads x n next).answer
then_reading (numbers line) n next a = a
then_reading (wrong k) n next a = refuses k n refl

pub reading_answers : (more n room : ℕ) (text : List ℕ) → CountOrRefusal (reading more n room text).answer
reading_answers zero n room text = rw (reading-zero n room text) (either-reading (eqb (length text) 0) _ _ (counts n refl) (refuses 7 n refl))
reading_answers (suc more) n room text =
    rw (reading_suc more n room text)
    (either-reading (eqb (length text) 0) _ _ (counts n refl)
    (either-reading (leb room n) _ _ (refuses 8 n refl) (then_reading (front_line text) n _ (reading_answers more (n + 1) room (past newline text)))))

-- ---- the check of a stored program

pub program_answers : (p : List ℕ) → CountOrRefusal (program_check p)
program_answers p = go (check_answer p)
  where
    go : CheckAnswer p (program_check p) → CountOrRefusal (program_check p)
    go (accepts e) = counts _ e
    go (turns_down k l e) = refuses k l e

-- ---- the mark check

first_answers : (n i : ℕ) (ls : List Line) → CountOrRefusal (first_bad n i ls)
unfolding first_bad
first_answers n i [] = counts n refl
first_answers n i (l ∷ ls) = either (eqb (mark_fault n l) 0) _ _ (first_answers n (i + 1) ls) (refuses (mark_fault n l) i refl)

marks-answer : (p : List Line) → CountOrRefusal (marks_of p)
unfolding marks_of
marks-answer p = either (ltb max_accepted (length p)) _ _ (refuses 9 0 refl) (first_answers (length p) 0 p)

pub mark_answers : (p : List ℕ) → CountOrRefusal (mark_check p)
unfolding mark_check
mark_answers p = then_answers (program_check p) (marks_of (lines p)) (marks-answer (lines p))

-- ---- the expansion

either_outcome : (t : Bool) (x y : Outcome) → CountOrRefusal x.answer → CountOrRefusal y.answer → CountOrRefusal (cond t x y).answer
either_outcome true x y a b = a
either_outcome false x y a b = b

unless_answers : (r : Report) (ss : List (List ℕ)) (x : Outcome) → CountOrRefusal x.answer → CountOrRefusal (unless_refused r ss x).answer
unless_answers (done vs) ss x a = a
unless_answers (refused k l) ss x a = refuses k l refl

expansion_answers : (L : Layout) (p out : List ℕ) → CountOrRefusal (expansion_in L p out).answer
unfolding expansion_in written
expansion_answers L p out =
    unless_answers (mark_check p) (out ∷ []) _
    (either_outcome (ltb (line_count out) (length (expand L (lines p)))) _ _ (refuses 17 0 refl) (counts (length (expand L (lines p))) refl))

pub expand_answers : (position spacing : ℕ) (p out : List ℕ) → CountOrRefusal (expand_outcome position spacing p out).answer
expand_answers position spacing p out =
    either_outcome (is_six position spacing) _ _ (expansion_answers (layout_of position spacing) p out) (refuses 23 0 refl)

-- a program that the mark check does not refuse
pub accepted_source : (p vs : List ℕ) → mark_check p ≡ done vs → Accepted (lines p)
accepted_source p vs e = go (mark_answers p)
  where
    go : CountOrRefusal (mark_check p) → Accepted (lines p)
    go (counts n q) = mark_accepted p n q
    go (refuses k l q) = absurd (never_done (sym q ∙ e))

-- ---- an answer of the code

pub is_numbered : (c : Condition) → 0 < number_of c
is_numbered NoNewline = omega arith
is_numbered NotFiveCommas = omega arith
is_numbered UnknownMark = omega arith
is_numbered UnknownOpcode = omega arith
is_numbered WrongFields = omega arith
is_numbered WrongOperand = omega arith
is_numbered TooManyLines = omega arith
is_numbered StoreFull = omega arith
is_numbered TooLong = omega arith
is_numbered ReservedPlace = omega arith
is_numbered WrongDestination = omega arith
is_numbered SensitiveArgument = omega arith
is_numbered NoMacro = omega arith
is_numbered NoBit = omega arith
is_numbered TargetAbove = omega arith
is_numbered NoRoom = omega arith
is_numbered WrongLength = omega arith
is_numbered WrongImage = omega arith
is_numbered TraceTooShort = omega arith
is_numbered SeveralValues = omega arith
is_numbered TooManyValues = omega arith
is_numbered UnknownLayout = omega arith
is_numbered WrongLabel = omega arith
is_numbered NoCounterpart = omega arith
is_numbered WrongWatch = omega arith
is_numbered WrongMap = omega arith
is_numbered WrongChoice = omega arith
is_numbered TooFewWords = omega arith

pub none_0 : (o : Option Condition) → is_some o ≡ false → number_or_0 o ≡ 0
none_0 None e = refl
none_0 (Some c) e = absurd (let z : ◌≡◌ {A = ℕ} 0 1 = cc in omega arith)

-- a condition that holds is told from none by its number
pub holds_some : {n : ℕ} (c : Condition) → number_of c ≡ n → n ≡ 0 → ⊥
holds_some c e z = let h = is_numbered c in omega arith

pub some_numbered : (o : Option Condition) → is_some o ≡ true → number_or_0 o ≡ 0 → ⊥
some_numbered None e z = let y : ◌≡◌ {A = ℕ} 0 1 = cc in omega arith
some_numbered (Some c) e z = holds_some c refl z

pub count-told : {r : Report} {a : Result ℕ (Refusal ℕ)} {n : ℕ} → a ≡ Ok n → report a ≡ r → r ≡ counted n
count-told q e = sym e ∙ ap report q

-- the paper's answer to what the code refuses
abbrev pub refusal : Refusal ℕ → Report
refusal f = refused (number_of f.condition) f.line

pub refusal-told : {r : Report} {a : Result ℕ (Refusal ℕ)} {f : Refusal ℕ} → a ≡ Err f → report a ≡ r → r ≡ refusal f
refusal-told q e = sym e ∙ ap report q

-- a refusal stands, whatever would be asked after it
pub refusal_stands : {r : Report} (f : Refusal ℕ) → r ≡ refusal f → (x : Report) → refusal f ≡ and_then r x
refusal_stands f e x = rw e

-- a refusal leaves the stores as they are
pub refusal_leaves : {r : Report} (f : Refusal ℕ) → r ≡ refusal f → (ss : List (List ℕ)) (x : Outcome) → outcome (refusal f) ss ≡ unless_refused r ss x
refusal_leaves f e ss x = rw e

-- what reads, checks or expands answers no ending
pub no_ending : {r : Report} (k i s : ℕ) → CountOrRefusal r → done (k ∷ i ∷ s ∷ []) ≡ r → ⊥
no_ending k i s (counts n e) q = let z : done (k ∷ i ∷ s ∷ []) ≡ done (n ∷ []) = q ∙ e in let w : ◌≡◌ {A = ℕ} 0 1 = cc in omega arith
no_ending k i s (refuses m l e) q = never_done (sym (q ∙ e))
