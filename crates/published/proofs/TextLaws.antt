-- The line in front of a text as the code cuts it, with its label and its instruction. Assumes nothing.
use Prim.Native.Nat.{ℕ, zero, suc, ◌+◌, ◌-◌, ◌≤◌, ◌<◌}
use mathlib.Core.Bool.{Bool, true, false, cond}
use mathlib.Core.Path.{◌≡◌, refl, sym, ap, ◌∙◌}
use mathlib.Core.List.{List, [], ◌∷◌, ◌++◌}
use native.Mathlib.Omega.{arith}
use lib.ListN.{length, take, drop, length-append, length-drop, drop_of_length-le}
use lib.Seq.{drop-drop, take-take}
use lib.Dec.{ltb, eqb}
use borrow.Author.Tests.{lt-ltb, le-ltb}
use Rattle.model.specs.Text.{newline, up_to, past, count_of}
use Rattle.model.proofs.TestLaws.{below}
use Rattle.model.proofs.CutLaws.{count-append, count_it, up_to_clean, up_to_all, past_none, rejoin}
use Rattle.text.proofs.PartLaws.{after_first}
use Rattle.published.specs.Published.{semicolon, onto, cut_lines, words, TextLine, text_line, text_lines, is_label, labelled, label_name, instruction, is_counted}
use Rattle.published.specs.Reading.{trimmed, word_of, next, uncommented, code_of, body_of}
use Rattle.published.proofs.PartLaws.{cut_line}
use Rattle.published.proofs.WordLaws.{trim_twice, next-trimmed, words_trim, first_part, word_take, words_rest, words_some}

-- ---- the line in front

up_to_none_lem : (c : ℕ) (s : List ℕ) → count_of c (up_to c s) ≡ 0
unfolding up_to count_of
up_to_none_lem c [] = refl
up_to_none_lem c (b ∷ s) = by (eqb b c) refl (up_to_none_lem c s)
  where
    by : (t : Bool) → eqb b c ≡ t → count_of c (up_to c s) ≡ 0 → count_of c (cond t [] (b ∷ up_to c s)) ≡ 0
    by true e h = refl
    by false e h = rw e h

cut_none : (b : ℕ) (s : List ℕ) → count_of newline (b ∷ s) ≡ 0 → cut_lines (b ∷ s) ≡ (b ∷ s) ∷ []
unfolding cut_lines count_of
cut_none b [] e = by (eqb b newline)
  where
    by : (t : Bool) → cond t ((b ∷ []) ∷ []) ((b ∷ []) ∷ []) ≡ (b ∷ []) ∷ []
    by true = refl
    by false = refl
cut_none b (c ∷ s) e = by (eqb b newline) e (cut_none c s)
  where
    by : (t : Bool) → cond t (suc (count_of newline (c ∷ s))) (count_of newline (c ∷ s)) ≡ 0 → (count_of newline (c ∷ s) ≡ 0 → cut_lines (c ∷ s) ≡ (c ∷ s) ∷ [])
        → cond t ((b ∷ []) ∷ cut_lines (c ∷ s)) (onto b (cut_lines (c ∷ s))) ≡ (b ∷ c ∷ s) ∷ []
    by true q f = absurd (omega arith)
    by false q f = ap (onto b) (f q)

abbrev pub front_of : List ℕ → TextLine
front_of s = record { ended = ltb (length (up_to newline s)) (length s); parts = words (code_of s) }

code-words : (s : List ℕ) → words (up_to semicolon (up_to newline s)) ≡ words (code_of s)
unfolding code_of uncommented
code-words s = sym (words_trim (uncommented s))

with_newline : (s : List ℕ) → 0 < count_of newline s → text_lines s ≡ front_of s ∷ text_lines (past newline s)
unfolding text_lines text_line
with_newline s h =
    let x : List ℕ = up_to newline s in
    let z = up_to_none_lem newline s in
    let e : s ≡ x ++ (newline ∷ past newline s) = rejoin newline s h in
    let c : cut_lines s ≡ (x ++ (newline ∷ [])) ∷ cut_lines (past newline s) = ap cut_lines e ∙ cut_line x (past newline s) z in
    let long : length x < length s = omega (arith, ap length e, length-append x (newline ∷ past newline s)) in
    rw (c, up_to_clean newline x [] z, code-words s, lt-ltb (length x) (length s) long, lt-ltb 0 (count_of newline (x ++ (newline ∷ []))) (omega (arith, count-append newline x (newline ∷ []), count_it newline [])))

pub lines_none : text_lines [] ≡ []
unfolding text_lines cut_lines
lines_none = refl

one_line : (s : List ℕ) → cut_lines s ≡ s ∷ [] → count_of newline s ≡ 0 → text_lines s ≡ front_of s ∷ []
unfolding text_lines text_line
one_line s c z = rw (c, code-words s, up_to_all newline s z, z, le-ltb (length s) (length s) (omega arith))

without-newline : (s : List ℕ) → 0 < length s → count_of newline s ≡ 0 → text_lines s ≡ front_of s ∷ text_lines (past newline s)
without-newline [] g h = absurd (omega arith)
without-newline (b ∷ s) g h =
    one_line (b ∷ s) (cut_none b s h) h ∙ ap (λ (x : List TextLine). front_of (b ∷ s) ∷ x) (sym (ap text_lines (past_none newline (b ∷ s) h) ∙ lines_none))

pub front : (s : List ℕ) → 0 < length s → text_lines s ≡ front_of s ∷ text_lines (past newline s)
front s g = below 0 (count_of newline s) (λ h. with_newline s h) (λ h. without-newline s g (omega arith))

pub front_at : (text : List ℕ) (at : ℕ) → at < length text
    → text_lines (drop at text) ≡ front_of (drop at text) ∷ text_lines (drop (at + length (up_to newline (drop at text)) + 1) text)
front_at text at h =
    let n : ℕ = length (up_to newline (drop at text)) in
    let e : drop (at + n + 1) text ≡ past newline (drop at text) =
    (let z : at + n + 1 ≡ at + (n + 1) = omega arith in ap (λ (k : ℕ). drop k text) z) ∙ sym (drop-drop (n + 1) at text) ∙ after_first newline (drop at text) n refl in
    front (drop at text) (omega (arith, length-drop at text)) ∙ ap (λ (x : List ℕ). front_of (drop at text) ∷ text_lines x) (sym e)

-- ---- a line's label and instruction

module _ (s : List ℕ) (h : trimmed s ≡ s) where
  pub labelled_is : labelled (words s) ≡ is_label (word_of s)
  labelled_is = ap is_label (first_part s h)

  pub name_is : label_name (words s) ≡ take (length (word_of s) - 1) (word_of s)
  name_is = ap (λ (p : List ℕ). take (length p - 1) p) (first_part s h)

  pub instruction_is : instruction (words s) ≡ words (body_of s)
  unfolding body_of
  instruction_is = ap (λ (t : Bool). cond t (drop 1 (words s)) (words s)) labelled_is ∙ by (is_label (word_of s))
    where
      by : (t : Bool) → cond t (drop 1 (words s)) (words s) ≡ words (cond t (next s) s)
      by true = words_rest s h
      by false = refl

pub code-trimmed : (s : List ℕ) → trimmed (code_of s) ≡ code_of s
unfolding code_of
code-trimmed s = trim_twice (uncommented s)

pub body_trimmed : (s : List ℕ) → trimmed s ≡ s → trimmed (body_of s) ≡ body_of s
unfolding body_of
body_trimmed s h = by (is_label (word_of s))
  where
    by : (t : Bool) → trimmed (cond t (next s) s) ≡ cond t (next s) s
    by true = next-trimmed s
    by false = h

pub up_to_short : (c : ℕ) (s : List ℕ) → length (up_to c s) ≤ length s
unfolding up_to
up_to_short c [] = omega arith
up_to_short c (b ∷ s) = by (eqb b c) (up_to_short c s)
  where
    by : (t : Bool) → length (up_to c s) ≤ length s → length (cond t [] (b ∷ up_to c s)) ≤ suc (length s)
    by true h = omega arith
    by false h = omega arith

take_short : (n : ℕ) (s : List ℕ) → length (take n s) ≤ n
take_short zero s = omega arith
take_short (suc n) [] = omega arith
take_short (suc n) (b ∷ s) = omega (arith, take_short n s)

module _ (text : List ℕ) (start size : ℕ) where
  abbrev code : List ℕ
  code = take size (drop start text)

  -- the name of a label, by its place
  pub name_place : trimmed code ≡ code → (w : ℕ) → w ≡ length (word_of code) → w ≤ length code → take (w - 1) (drop start text) ≡ label_name (words code)
  name_place h w e g =
      let s : w ≤ size = omega (arith, take_short size (drop start text), g) in
      let a : word_of code ≡ take w (drop start text) = sym (word_take code w e) ∙ take-take w size (drop start text) s in
      sym (name_is code h ∙ ap (λ (k : ℕ). take (k - 1) (word_of code)) (sym e) ∙ ap (take (w - 1)) a ∙ take-take (w - 1) w (drop start text) (omega arith))

pub counted_is : (s : List ℕ) → trimmed s ≡ s → is_counted (words s) ≡ ltb 0 (length (body_of s))
counted_is s h = ap (λ (x : List (List ℕ)). ltb 0 (length x)) (instruction_is s h) ∙ words_some (body_of s) (body_trimmed s h)

pub lines_end : (text : List ℕ) (at : ℕ) → length text ≤ at → text_lines (drop at text) ≡ []
lines_end text at h = let e : drop at text ≡ [] = drop_of_length-le text h in ap text_lines e ∙ lines_none

-- the place past a line is not past the text's end by more than one
pub next_near : (text : List ℕ) (at : ℕ) → at < length text → at + length (up_to newline (drop at text)) ≤ length text
next_near text at h = omega (arith, up_to_short newline (drop at text), length-drop at text)
