-- Where the parts stand in an expansion: part k begins at start k, and past the source's end the start is the expansion's end.
-- By induction over the program. Assumes nothing.
use mathlib.Core.Path.{◌≡◌, refl, sym, ap, ap₂, ◌∙◌}
use mathlib.Core.List.{List, [], ◌∷◌, ◌++◌}
use mathlib.Core.Option.{none, some}
use Prim.Native.Nat.{ℕ, zero, suc, ◌+◌, ◌≤◌}
use native.Mathlib.Nat.{zero-add, suc-add, add_assoc, le_of_suc-le-suc, not-suc-le-zero}
use native.Mathlib.Omega.{arith}
use lib.ListN.{length, drop, get_elem?, length-append}
use lib.Seq.{drop-append-add}
use Rattle.model.specs.declared.Layout.{Layout}
use Rattle.model.specs.declared.Mark.{Mark}
use Rattle.model.specs.declared.Mark.TheVariants.{Unmarked, Marked}
use Rattle.model.specs.declared.Line.{Line}
use Rattle.model.specs.Expansion.{part_of, part, size, start, joined, expand}

-- a part's length is the line's size, whatever the starts
pub part-size : (L : Layout) (f : ℕ → ℕ) (l : Line) → length (part L f l) ≡ size L l
unfolding size part_of
part-size L f l = go l.mark
  where
    go : (m : Mark) → length (part_of L m f l) ≡ length (part_of L m (λ t. t) l)
    go Unmarked = refl
    go Marked = refl

pub start-zero : (L : Layout) (p : List Line) → start L p zero ≡ zero
unfolding start
start-zero L [] = refl
start-zero L (l ∷ p) = refl

pub start_suc : (L : Layout) (p : List Line) (k : ℕ) (l : Line) → get_elem? p k ≡ some l → start L p (suc k) ≡ start L p k + size L l
unfolding start
start_suc L [] k l e = cc
start_suc L (x ∷ p) zero l e = let q : x ≡ l = cc in rw (q, start-zero L p) (omega arith)
start_suc L (x ∷ p) (suc k) l e = ap (λ (n : ℕ). size L x + n) (start_suc L p k l e) ∙ sym (add_assoc (size L x) (start L p k) (size L l))

drop_more : (xs ys : List Line) (n m : ℕ) → length xs ≡ n → drop (n + m) (xs ++ ys) ≡ drop m ys
drop_more xs ys n m e = rw (← e) (drop-append-add xs ys m)

pub part_at : (L : Layout) (f : ℕ → ℕ) (p : List Line) (k : ℕ) (l : Line) → get_elem? p k ≡ some l
    → drop (start L p k) (joined L f p) ≡ part L f l ++ drop (start L p (suc k)) (joined L f p)
unfolding start joined
part_at L f [] k l e = cc
part_at L f (x ∷ p) zero l e =
    let q : x ≡ l = cc in
    rw (q, start-zero L p) (ap (λ (r : List Line). part L f l ++ r) (sym (drop_more (part L f l) (joined L f p) (size L l) zero (part-size L f l))))
part_at L f (x ∷ p) (suc k) l e =
    drop_more (part L f x) (joined L f p) (size L x) (start L p k) (part-size L f x)
    ∙ part_at L f p k l e
    ∙ ap (λ (r : List Line). part L f l ++ r) (sym (drop_more (part L f x) (joined L f p) (size L x) (start L p (suc k)) (part-size L f x)))

get_more : (xs ys : List Line) (m : ℕ) → get_elem? (xs ++ ys) (length xs + m) ≡ get_elem? ys m
get_more [] ys m = rw (zero-add m)
get_more (x ∷ xs) ys m = rw (suc-add (length xs) m) (get_more xs ys m)

pub start_end : (L : Layout) (f : ℕ → ℕ) (p : List Line) (k : ℕ) → get_elem? p k ≡ none → get_elem? (joined L f p) (start L p k) ≡ none
unfolding start joined
start_end L f [] k e = refl
start_end L f (x ∷ p) zero e = cc
start_end L f (x ∷ p) (suc k) e = rw (← part-size L f x, get_more (part L f x) (joined L f p) (start L p k)) (start_end L f p k e)

pub joined_length : (L : Layout) (f : ℕ → ℕ) (p : List Line) (k : ℕ) → length p ≤ k → start L p k ≡ length (joined L f p)
unfolding start joined
joined_length L f [] k h = refl
joined_length L f (l ∷ p) zero h = absurd (not-suc-le-zero h)
joined_length L f (l ∷ p) (suc k) h =
    ap₂ (λ (x y : ℕ). x + y) (sym (part-size L f l)) (joined_length L f p k (le_of_suc-le-suc h)) ∙ sym (length-append (part L f l) (joined L f p))

-- the start of a source line at or past the line count is the expansion's end
pub start-past : (L : Layout) (p : List Line) (k : ℕ) → length p ≤ k → start L p k ≡ length (expand L p)
unfolding expand
start-past L p k h = joined_length L (start L p) p k h
