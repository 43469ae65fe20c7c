-- How a published text is cut: a line before its newline, a part before a blank. Assumes nothing.
use Prim.Native.Nat.{ℕ, suc, ◌<◌}
use mathlib.Core.Bool.{Bool, true, false, cond}
use mathlib.Core.Path.{◌≡◌, refl, ap, ◌∙◌}
use mathlib.Core.List.{List, [], ◌∷◌, ◌++◌}
use native.Mathlib.Omega.{arith}
use lib.ListN.{get_or}
use lib.Dec.{eqb}
use borrow.Author.Tests.{ne_eqb, lt-ltb}
use Rattle.model.specs.Text.{newline, count_of}
use Rattle.model.proofs.CutLaws.{count-append, count_other, count_it, up_to_clean, up_to_all}
use Rattle.published.specs.Published.{space, semicolon, is_blank, onto, cut_lines, words, TextLine, text_line, text_lines}
use Rattle.published.specs.Published.{spaced}

-- ---- bytes of a part: no blank, no newline, no semicolon

abbrev pub Plain : List ℕ → Type 0
Plain [] = Unit {0}
Plain (b ∷ s) = (32 < b) × (b ≡ semicolon → ⊥) × Plain s

pub plain_append : (s t : List ℕ) → Plain s → Plain t → Plain (s ++ t)
plain_append [] t h g = g
plain_append (b ∷ s) t h g = (h.0, h.1, plain_append s t h.2 g)

pub no_blank : (b : ℕ) → 32 < b → is_blank b ≡ false
no_blank b h = rw (ne_eqb b 32 (λ e. omega arith), ne_eqb b 9 (λ e. omega arith))

pub plain_newlines : (s : List ℕ) → Plain s → count_of newline s ≡ 0
unfolding count_of
plain_newlines [] h = refl
plain_newlines (b ∷ s) h = let l : 32 < b = h.0 in count_other newline b s (λ e. omega arith) ∙ plain_newlines s h.2

pub plain_comments : (s : List ℕ) → Plain s → count_of semicolon s ≡ 0
unfolding count_of
plain_comments [] h = refl
plain_comments (b ∷ s) h = count_other semicolon b s h.1 ∙ plain_comments s h.2

-- ---- a line before its newline

no_line : (t : Bool) (a : ℕ) → cond t (suc a) a ≡ 0 → (t ≡ false) × (a ≡ 0)
no_line true a e = absurd (omega arith)
no_line false a e = (refl, e)

pub cut_line : (x y : List ℕ) → count_of newline x ≡ 0 → cut_lines (x ++ (newline ∷ y)) ≡ (x ++ (newline ∷ [])) ∷ cut_lines y
unfolding cut_lines count_of
cut_line [] y e = refl
cut_line (b ∷ x) y e =
    let w = no_line (eqb b newline) (count_of newline x) e in
    rw (w.0, cut_line x y w.1)

-- a line without a comment
abbrev pub of_parts : List (List ℕ) → TextLine
of_parts parts = record { ended = true; parts = parts }

pub line_parts : (x : List ℕ) → count_of newline x ≡ 0 → count_of semicolon x ≡ 0 → text_line (x ++ (newline ∷ [])) ≡ of_parts (words x)
unfolding text_line
line_parts x e f =
    rw (up_to_clean newline x [] e, up_to_all semicolon x f, lt-ltb 0 (count_of newline (x ++ (newline ∷ []))) (omega (arith, count-append newline x (newline ∷ []), count_it newline [])))

pub text_lines_lem : (x y : List ℕ) → count_of newline x ≡ 0 → count_of semicolon x ≡ 0 → text_lines (x ++ (newline ∷ y)) ≡ of_parts (words x) ∷ text_lines y
unfolding text_lines
text_lines_lem x y e f = rw (cut_line x y e, line_parts x e f)

-- ---- parts one space apart

-- what follows a part: nothing, or a blank
abbrev pub Apart : List ℕ → Type 0
Apart s = is_blank (get_or s 0 space) ≡ true

word_end : (b : ℕ) (s : List ℕ) → 32 < b → Apart s → words (b ∷ s) ≡ (b ∷ []) ∷ words s
unfolding words
word_end b s h a = rw (no_blank b h, a)

word_on : (b c : ℕ) (s : List ℕ) → 32 < b → 32 < c → words (b ∷ c ∷ s) ≡ onto b (words (c ∷ s))
unfolding words
word_on b c s h g = rw (no_blank b h, no_blank c g)

pub word_then : (b : ℕ) (w s : List ℕ) → Plain (b ∷ w) → Apart s → words (b ∷ (w ++ s)) ≡ (b ∷ w) ∷ words s
word_then b [] s h a = word_end b s h.0 a
word_then b (c ∷ w) s h a = word_on b c (w ++ s) h.0 h.2.0 ∙ ap (onto b) (word_then c w s h.2 a)

-- a part that stands there, or none
abbrev pub present : List ℕ → List (List ℕ)
present [] = []
present (b ∷ s) = (b ∷ s) ∷ []

pub spaced-apart : (w s : List ℕ) → Apart s → Apart (spaced w ++ s)
spaced-apart [] s a = a
spaced-apart (b ∷ w) s a = refl

pub spaced-words : (w s : List ℕ) → Plain w → Apart s → words (spaced w ++ s) ≡ present w ++ words s
unfolding words
spaced-words [] s h a = refl
spaced-words (b ∷ w) s h a = word_then b w s h a

pub spaced_newlines : (w : List ℕ) → Plain w → count_of newline (spaced w) ≡ 0
unfolding count_of
spaced_newlines [] h = refl
spaced_newlines (b ∷ w) h = plain_newlines (b ∷ w) h

pub spaced_comments : (w : List ℕ) → Plain w → count_of semicolon (spaced w) ≡ 0
unfolding count_of
spaced_comments [] h = refl
spaced_comments (b ∷ w) h = plain_comments (b ∷ w) h
