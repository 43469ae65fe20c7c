-- The text of numbers, of rows and of whole lines, cut as they are printed. Assumes nothing.
use Prim.Native.Nat.{ℕ, suc, ◌+◌, ◌-◌, ◌*◌, ◌≤◌, ◌<◌}
use mathlib.Core.Path.{◌≡◌, refl, sym, ap, ◌∙◌}
use mathlib.Core.List.{List, [], ◌∷◌, ◌++◌, append_assoc, flat_map}
use native.Mathlib.Omega.{arith}
use native.Mathlib.Numerals.{add-one}
use lib.ListN.{length, get_or, take, drop, length-append, length-drop, drop_of_length-le}
use lib.Seq.{drop-cons, drop-drop, length-take-le}
use Rattle.model.specs.Limits.{row_width}
use Rattle.model.specs.Text.{comma, newline, decimal}
use Rattle.model.specs.Programs.{numbers_text, refusal_text}
use Rattle.model.proofs.DecimalLaws.{decimal_5}
use Rattle.lines.specs.Printing.{rows_from, rows_text, lines_text}
use Rattle.lines.proofs.LeftLaws.{Left, left_all}

-- ---- bytes, one by one

pub bytes_next : (s : List ℕ) (i : ℕ) → i < length s → drop i s ≡ (get_or s i 0 ∷ []) ++ drop (i + 1) s
bytes_next s i h = rw (drop-cons s i 0 h, add-one i)

pub bytes_end : (s : List ℕ) (i : ℕ) → length s ≤ i → drop i s ≡ []
bytes_end s i h = drop_of_length-le s h

-- ---- numbers: the first, then each after a comma, then the newline

unfoldable pub listed : List ℕ → List ℕ
listed [] = []
listed (n ∷ ns) = (comma ∷ decimal n) ++ listed ns

pub cons_text : (n : ℕ) (ns : List ℕ) → numbers_text (n ∷ ns) ≡ decimal n ++ (listed ns ++ (newline ∷ []))
unfolding numbers_text listed
cons_text n [] = refl
cons_text n (m ∷ ns) = ap (λ (t : List ℕ). decimal n ++ (comma ∷ t)) (cons_text m ns ∙ sym (append_assoc (decimal m) (listed ns) (newline ∷ [])))

pub numbers_text_lem : (ns : List ℕ) → 0 < length ns → decimal (get_or ns 0 0) ++ (listed (drop 1 ns) ++ (newline ∷ [])) ≡ numbers_text ns
numbers_text_lem [] h = absurd (omega arith)
numbers_text_lem (n ∷ ns) h = sym (cons_text n ns)

pub listed_next : (ns : List ℕ) (i : ℕ) → i < length ns → listed (drop i ns) ≡ (comma ∷ decimal (get_or ns i 0)) ++ listed (drop (i + 1) ns)
unfolding listed
listed_next ns i h = rw (drop-cons ns i 0 h, add-one i)

pub listed_end : (ns : List ℕ) (i : ℕ) → length ns ≤ i → listed (drop i ns) ≡ []
unfolding listed
listed_end ns i h = ap listed (bytes_end ns i h)

-- ---- rows

-- row k as a part of the store
module _ (t : List ℕ) (k : ℕ) where
  pub row-part : take (row_width * k + row_width - row_width * k) (drop (row_width * k) t) ≡ take row_width (drop (row_width * k) t)
  row-part = let e : row_width * k + row_width - row_width * k ≡ row_width = omega arith in ap (λ (m : ℕ). take m (drop (row_width * k) t)) e

  pub row-length : row_width * k + row_width ≤ length t → length (take (row_width * k + row_width - row_width * k) (drop (row_width * k) t)) ≡ row_width
  row-length h = ap length row-part ∙ length-take-le row_width (drop (row_width * k) t) (omega (arith, length-drop (row_width * k) t))

module _ (t : List ℕ) (n k : ℕ) where
  pub rows_next : k < n → rows_text (n - k) (drop (row_width * k) t) ≡ numbers_text (take row_width (drop (row_width * k) t)) ++ rows_text (n - (k + 1)) (drop (row_width * (k + 1)) t)
  unfolding rows_text rows_from flat_map
  rows_next h =
      let e : n - k ≡ suc (n - (k + 1)) = omega arith in
      let f : row_width * k + row_width ≡ row_width * (k + 1) = omega arith in
      rw (e, drop-drop row_width (row_width * k) t, f)

  pub rows_end : n ≤ k → rows_text (n - k) (drop (row_width * k) t) ≡ []
  unfolding rows_text rows_from flat_map
  rows_end h = let e : n - k ≡ 0 = omega arith in rw e

pub rows_first : (old : List ℕ) (at : ℕ) (t : List ℕ) (n : ℕ) → Left old old at at (rows_text n t) (rows_text (n - 0) (drop (row_width * 0) t))
rows_first old at t n = let e : n - 0 ≡ n = omega arith in rw e (left_all old at (rows_text n t))

-- ---- the line of a refusal

pub refusal_line : (number line : ℕ) → lines_text [] (114 ∷ 101 ∷ 102 ∷ 117 ∷ 115 ∷ 101 ∷ 100 ∷ 44 ∷ []) (number ∷ line ∷ []) ≡ refusal_text number line
unfolding lines_text rows_text rows_from flat_map refusal_text
refusal_line number line = refl

-- ---- how long lines of numbers are at most

listed_most : (ns : List ℕ) → length (listed ns) ≤ 6 * length ns
unfolding listed
listed_most [] = omega arith
listed_most (n ∷ ns) = omega (arith, length-append (decimal n) (listed ns), decimal_5 n, listed_most ns)

pub numbers_most : (n : ℕ) (ns : List ℕ) → length (numbers_text (n ∷ ns)) ≤ 6 * length (n ∷ ns)
numbers_most n ns =
    omega (arith, ap length (cons_text n ns), length-append (decimal n) (listed ns ++ (newline ∷ [])), length-append (listed ns) (newline ∷ []), decimal_5 n, listed_most ns)

pub refusal_most : (number line : ℕ) → length (refusal_text number line) ≤ 20
unfolding refusal_text
refusal_most number line = omega (arith, numbers_most number (line ∷ []))
