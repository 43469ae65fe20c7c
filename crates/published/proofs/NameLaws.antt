-- Names and labels: the names that lines have going out, and looking a name up. Assumes nothing.
use Prim.Native.Nat.{ℕ, zero, suc, ◌-◌, ◌≤◌, ◌<◌}
use mathlib.Core.Bool.{Bool, true, false, cond}
use mathlib.Core.Path.{◌≡◌, refl, sym, ap, ◌∙◌}
use mathlib.Core.List.{List, [], ◌∷◌, ◌++◌}
use mathlib.Core.Option.{none, some}
use native.Mathlib.Omega.{arith}
use lib.ListN.{length, get_or, take, length-append}
use borrow.Author.Tests.{lt-ltb, le-leb}
use Rattle.model.specs.declared.Opcode.{Opcode}
use Rattle.model.specs.declared.Opcode.TheVariants.{Nop, Jmp, Not, Mov, And, Orr, Xor, Lsl, Lsr, Add, Mul, Beq, Bne}
use Rattle.model.specs.declared.Line.{Line}
use Rattle.model.specs.Text.{decimal, same_bytes, spell_opcode}
use Rattle.model.proofs.TestLaws.{below}
use Rattle.model.proofs.DecimalLaws.{Digits, value_from, decimal-value, decimal_digits, decimal_5}
use Rattle.model.proofs.SpellingLaws.{same_bytes_lem, bytes_same}
use Rattle.published.specs.Published.{colon}
use Rattle.published.specs.Published.{all_alphanumeric, max_name, max_labels, is_name, line_name}
use Rattle.published.specs.Published.{is_target}
use Rattle.published.specs.Published.{is_label, label_name, Label, find, is_within}
use Rattle.published.proofs.PartLaws.{Plain}
use Rattle.published.proofs.OperandSpelling.{decimal_plain}

-- ---- names

digits_name : (s : List ℕ) → Digits s → all_alphanumeric s ≡ true
unfolding all_alphanumeric
digits_name [] d = refl
digits_name (b ∷ s) d = rw (le-leb 48 b d.0, le-leb b 57 d.1, digits_name s d.2)

module _ (n : ℕ) where
  pub line_alphanumeric : all_alphanumeric (line_name n) ≡ true
  unfolding line_name all_alphanumeric
  line_alphanumeric = digits_name (decimal n) (decimal_digits n)

  pub line_name_lem : is_name (line_name n) ≡ true
  unfolding is_name line_name
  line_name_lem = rw (lt-ltb 0 (length (76 ∷ decimal n)) (omega arith), le-leb (length (76 ∷ decimal n)) max_name (omega (arith, decimal_5 n))) line_alphanumeric

  pub line_plain : Plain (line_name n)
  unfolding line_name
  line_plain = (omega arith, (λ e. omega arith), decimal_plain n)

pub same_line : (j k : ℕ) → j < 100000 → k < 100000 → line_name j ≡ line_name k → j ≡ k
unfolding line_name
same_line j k h g e = let q : decimal j ≡ decimal k = cc in sym (decimal-value j h) ∙ ap (value_from 0) q ∙ decimal-value k g

-- ---- a first part that is a label, or an opcode

last_of : (s : List ℕ) (c : ℕ) → get_or (s ++ (c ∷ [])) (length s) 0 ≡ c
last_of [] c = refl
last_of (b ∷ s) c = last_of s c

front_of_lem : (s : List ℕ) (c : ℕ) → take (length s) (s ++ (c ∷ [])) ≡ s
front_of_lem [] c = refl
front_of_lem (b ∷ s) c = ap (λ (x : List ℕ). b ∷ x) (front_of_lem s c)

module _ (s : List ℕ) where
  less_one : length (s ++ (colon ∷ [])) - 1 ≡ length s
  less_one = omega (arith, length-append s (colon ∷ []))

  pub label_there : is_label (s ++ (colon ∷ [])) ≡ true
  unfolding is_label
  label_there = rw (less_one, last_of s colon)

  pub label-named : label_name ((s ++ (colon ∷ [])) ∷ []) ≡ s
  label-named = rw less_one (front_of_lem s colon)

pub opcode_no_label : (o : Opcode) → is_label (spell_opcode o) ≡ false
unfolding is_label spell_opcode
opcode_no_label Nop = refl
opcode_no_label Jmp = refl
opcode_no_label Not = refl
opcode_no_label Mov = refl
opcode_no_label And = refl
opcode_no_label Orr = refl
opcode_no_label Xor = refl
opcode_no_label Lsl = refl
opcode_no_label Lsr = refl
opcode_no_label Add = refl
opcode_no_label Mul = refl
opcode_no_label Beq = refl
opcode_no_label Bne = refl

-- ---- the labels of the lines below n, going out

abbrev pub label : ℕ → Label
label n = record { name = line_name n; line = n }

unfoldable pub labels_below : List Line → ℕ → List Label
labels_below p zero = []
labels_below p (suc n) = cond (is_target p n) (label n ∷ labels_below p n) (labels_below p n)

not_same : (s t : List ℕ) → (s ≡ t → ⊥) → same_bytes s t ≡ false
not_same s t h = by (same_bytes s t) refl
  where
    by : (b : Bool) → same_bytes s t ≡ b → same_bytes s t ≡ false
    by true e = absurd (h (same_bytes_lem s t e))
    by false e = e

module _ (p : List Line) where
  -- a later line's name is not there
  pub find_none : (n k : ℕ) → n ≤ k → k < 100000 → find (line_name k) (labels_below p n) ≡ none
  unfolding labels_below find
  find_none zero k h g = refl
  find_none (suc n) k h g = by (is_target p n) (find_none n k (omega arith) g)
    where
      by : (t : Bool) → find (line_name k) (labels_below p n) ≡ none → find (line_name k) (cond t (label n ∷ labels_below p n) (labels_below p n)) ≡ none
      by true e = rw (not_same (line_name n) (line_name k) (λ e. omega (arith, same_line n k (omega arith) g e))) e
      by false e = e

  -- the name of a target is there, with its line
  pub find_target : (n k : ℕ) → k < n → n ≤ 100000 → is_target p k ≡ true → find (line_name k) (labels_below p n) ≡ some k
  unfolding labels_below find
  find_target zero k h g e = absurd (omega arith)
  find_target (suc n) k h g e =
      below k n (λ l. by (is_target p n) l (find_target n k l (omega arith) e))
      (λ l. let q : n ≡ k = omega arith in rw (q, e, bytes_same (line_name k) (line_name k) refl))
    where
      by : (t : Bool) → k < n → find (line_name k) (labels_below p n) ≡ some k → find (line_name k) (cond t (label n ∷ labels_below p n) (labels_below p n)) ≡ some k
      by true l e = rw (not_same (line_name n) (line_name k) (λ e. omega (arith, same_line n k (omega arith) (omega arith) e))) e
      by false l e = e

  few_labels : (n : ℕ) → length (labels_below p n) ≤ n
  unfolding labels_below
  few_labels zero = omega arith
  few_labels (suc n) = by (is_target p n) (few_labels n)
    where
      by : (t : Bool) → length (labels_below p n) ≤ n → length (cond t (label n ∷ labels_below p n) (labels_below p n)) ≤ suc n
      by true l = omega (arith, l)
      by false l = omega (arith, l)

  -- a label going out is new
  pub line_new : (n : ℕ) → n < max_labels → is_within (labels_below p n) (line_name n) ≡ true
  unfolding is_within
  line_new n h = rw (line_name_lem n, find_none n n (omega arith) (omega arith), lt-ltb (length (labels_below p n)) max_labels (omega (arith, few_labels n)))
