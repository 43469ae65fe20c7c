-- What is seen of a text, line after line: the definitions' clauses, that no label names a line above the count, and that a text without a
-- fault has at most 1,024 counted lines. Assumes nothing.
use Prim.Native.Nat.{ℕ, suc, ◌+◌, ◌≤◌}
use mathlib.Core.Bool.{Bool, true, false, cond, not, ◌&&◌, ◌||◌}
use mathlib.Core.Path.{◌≡◌, refl, sym, ap, ◌∙◌}
use mathlib.Core.List.{List, [], ◌∷◌, ◌++◌, flat_map}
use mathlib.Core.Option.{some}
use native.Mathlib.Omega.{arith}
use lib.Dec.{leb, eqb}
use borrow.Author.Tests.{leb-false, eqb-true}
use Rattle.model.specs.Limits.{max_accepted}
use Rattle.model.specs.Answers.{counted, refused}
use Rattle.model.specs.Text.{same_bytes}
use Rattle.model.proofs.StoredLaws.{counted_if, counted_count}
use Rattle.published.specs.Published.{TextLine, bit, labelled, label_name, is_counted, Label, find, is_within, Seen, labels_after, after, seen_from}
use Rattle.published.specs.Published.{label_wrong, parsed_line, holds24, holds25, line_fault, first_fault, numbers_of, stored_lines}
use Rattle.published.specs.Table.{Low}
use Rattle.published.specs.Passes.{clean_from, kept_of, kept_lines}

-- ---- the clauses

pub seen-cons : (s : Seen) (l : TextLine) (ls : List TextLine) → seen_from s (l ∷ ls) ≡ seen_from (after s l) ls
unfolding seen_from
seen-cons s l ls = refl

pub seen-nil : (s : Seen) → seen_from s [] ≡ s
unfolding seen_from
seen-nil s = refl

pub fault-cons : (all : Seen) (i : ℕ) (s : Seen) (l : TextLine) (ls : List TextLine)
    → first_fault all i s (l ∷ ls) ≡ cond (eqb (line_fault all s l) 0) (first_fault all (i + 1) (after s l) ls) (refused (line_fault all s l) i)
unfolding first_fault
fault-cons all i s l ls = refl

pub fault-nil : (all : Seen) (i : ℕ) (s : Seen) → first_fault all i s [] ≡ counted s.count
unfolding first_fault
fault-nil all i s = refl

pub stored-cons : (all : Seen) (l : TextLine) (ls : List TextLine) → stored_lines all (l ∷ ls) ≡ numbers_of (parsed_line all l) ++ stored_lines all ls
unfolding stored_lines flat_map
stored-cons all l ls = refl

pub stored-nil : (all : Seen) → stored_lines all [] ≡ []
unfolding stored_lines flat_map
stored-nil all = refl

pub kept_cons : (all : Seen) (l : TextLine) (ls : List TextLine) → kept_lines all (l ∷ ls) ≡ kept_of (parsed_line all l) ++ kept_lines all ls
unfolding kept_lines flat_map
kept_cons all l ls = refl

pub kept-nil : (all : Seen) → kept_lines all [] ≡ []
unfolding kept_lines flat_map
kept-nil all = refl

pub clean_cons : (s : Seen) (l : TextLine) (ls : List TextLine) → clean_from s (l ∷ ls) ≡ cond (label_wrong s.labels l.parts) 0 (suc (clean_from (after s l) ls))
unfolding clean_from
clean_cons s l ls = refl

pub clean_nil : (s : Seen) → clean_from s [] ≡ 0
unfolding clean_from
clean_nil s = refl

-- ---- no label names a line above the count

low_more : (n k : ℕ) (es : List Label) → n ≤ k → Low n es → Low k es
low_more n k [] h l = tt
low_more n k (e ∷ es) h l = (omega (arith, l.0), low_more n k es h l.1)

low-after : (s : Seen) (l : TextLine) → Low s.count s.labels → Low (after s l).count (after s l).labels
unfolding after
low-after s l h = low_more s.count (s.count + bit (is_counted l.parts)) (labels_after s.labels l.parts s.count) (omega arith) (by (labelled l.parts && is_within s.labels (label_name l.parts)))
  where
    by : (t : Bool) → Low s.count (cond t (record { name = label_name l.parts; line = s.count } ∷ s.labels) s.labels)
    by true = (omega arith, h)
    by false = h

pub low-seen : (s : Seen) (ls : List TextLine) → Low s.count s.labels → Low (seen_from s ls).count (seen_from s ls).labels
low-seen s [] h = rw (seen-nil s) h
low-seen s (l ∷ ls) h = rw (seen-cons s l ls) (low-seen (after s l) ls (low-after s l h))

pub low-find : (n : ℕ) (name : List ℕ) (es : List Label) (k : ℕ) → Low n es → find name es ≡ some k → k ≤ n
unfolding find
low-find n name [] k l e = let z : ◌≡◌ {A = ℕ} 0 1 = cc in absurd (omega arith)
low-find n name (x ∷ es) k l e = by (same_bytes x.name name) e (low-find n name es k l.1)
  where
    by : (t : Bool) → cond t (some x.line) (find name es) ≡ some k → (find name es ≡ some k → k ≤ n) → k ≤ n
    by true q f = let z : x.line ≡ k = cc in omega (arith, l.0)
    by false q f = f q

-- ---- a text without a fault

-- its first line has none, and neither has the rest
pub fault-back : (all : Seen) (i : ℕ) (s : Seen) (l : TextLine) (ls : List TextLine) (n : ℕ) → first_fault all i s (l ∷ ls) ≡ counted n
    → (line_fault all s l ≡ 0) × (first_fault all (i + 1) (after s l) ls ≡ counted n)
fault-back all i s l ls n e =
    let w = counted_if (eqb (line_fault all s l) 0) (first_fault all (i + 1) (after s l) ls) (line_fault all s l) i n (sym (fault-cons all i s l ls) ∙ e) in
    (eqb-true _ 0 w.0, w.1)

-- the count is that of all counted lines
pub fault-count : (all : Seen) (i : ℕ) (s : Seen) (ls : List TextLine) (n : ℕ) → first_fault all i s ls ≡ counted n → (seen_from s ls).count ≡ n
fault-count all i s [] n e = ap (λ (x : Seen). x.count) (seen-nil s) ∙ counted_count (sym (fault-nil all i s) ∙ e)
fault-count all i s (l ∷ ls) n e =
    ap (λ (x : Seen). x.count) (seen-cons s l ls) ∙ fault-count all (i + 1) (after s l) ls n (fault-back all i s l ls n e).1

pub few-after : (all s : Seen) (l : TextLine) → line_fault all s l ≡ 0 → s.count ≤ max_accepted → (after s l).count ≤ max_accepted
unfolding line_fault holds25 after
few-after all s l e h = by (holds24 all s l) (not l.ended) (is_counted l.parts) (leb max_accepted s.count) _ e refl
  where
    by : (x y c d z : Bool) → ◌≡◌ {A = ℕ} (cond x 24 (cond (y || c && (d || z)) 25 0)) 0 → leb max_accepted s.count ≡ d → s.count + bit c ≤ max_accepted
    by true y c d z q p = absurd (omega arith)
    by false true c d z q p = absurd (omega arith)
    by false false true true z q p = absurd (omega arith)
    by false false true false z q p = omega (arith, leb-false max_accepted s.count p)
    by false false false d z q p = omega arith

pub few-lines : (all : Seen) (i : ℕ) (s : Seen) (ls : List TextLine) (n : ℕ) → first_fault all i s ls ≡ counted n → s.count ≤ max_accepted → n ≤ max_accepted
few-lines all i s [] n e h = omega (arith, counted_count (sym (fault-nil all i s) ∙ e))
few-lines all i s (l ∷ ls) n e h =
    let w = fault-back all i s l ls n e in
    few-lines all (i + 1) (after s l) ls n w.1 (few-after all s l w.0 h)
