-- The lines of a text by the places where they begin. Assumes nothing.
use Prim.Native.Nat.{ℕ, zero, suc, ◌+◌, ◌-◌, ◌<◌}
use mathlib.Core.Bool.{Bool, true, false, cond, ◌||◌}
use mathlib.Core.Path.{◌≡◌, refl, sym, ap, ap₂, ◌∙◌}
use mathlib.Core.List.{List, [], ◌∷◌}
use native.Mathlib.Omega.{arith}
use lib.ListN.{length, get_or, take, drop}
use native.Mathlib.Nat.{zero-add}
use lib.Seq.{take-nil, drop-drop, get_or-take}
use lib.Dec.{eqb}
use Rattle.std.specs.List.{position_or_len}
use Rattle.std.proofs.lemmas.List.Recursion.{is_position_or_len}
use borrow.Author.Tests.{eq-eqb, ne_eqb, eqb-true, eqb-false}
use Rattle.model.specs.Text.{newline, up_to}
use Rattle.text.proofs.PartLaws.{rest_all}
use Rattle.published.specs.Published.{semicolon, colon}
use Rattle.published.specs.Published.{is_label}
use Rattle.published.specs.Reading.{trimmed, word_of, next, uncommented, code_of, body_of, label_size}
use Rattle.published.proofs.WordLaws.{by_test, word_take}

drop-nil : (k : ℕ) → ◌≡◌ {A = List ℕ} (drop k []) []
drop-nil zero = refl
drop-nil (suc k) = refl

drop-take : (k n : ℕ) (l : List ℕ) → drop k (take n l) ≡ take (n - k) (drop k l)
drop-take zero n l = let z : n - 0 ≡ n = omega arith in ap (λ (j : ℕ). take j l) (sym z)
drop-take (suc k) zero l = let z : 0 - suc k ≡ 0 = omega arith in ap (λ (j : ℕ). take j (drop (suc k) l)) (sym z)
drop-take (suc k) (suc n) [] = sym (take-nil (suc n - suc k))
drop-take (suc k) (suc n) (b ∷ l) = let z : n - k ≡ suc n - suc k = omega arith in drop-take k n l ∙ ap (λ (j : ℕ). take j (drop k l)) z

-- ---- what stands before a comment and the line's end

pub code_first : (s : List ℕ) → length (uncommented s) ≡ position_or_len (λ b. eqb b semicolon || eqb b newline) s
unfolding uncommented up_to
code_first = is_position_or_len (λ s. length (uncommented s)) (λ b. eqb b semicolon || eqb b newline) refl (λ b s. by b s (eqb b newline) (eqb b semicolon) refl)
  where
    by : (b : ℕ) (s : List ℕ) (end comment : Bool) → eqb b semicolon ≡ comment
        → length (up_to semicolon (cond end [] (b ∷ up_to newline s))) ≡ cond (comment || end) 0 (1 + length (up_to semicolon (up_to newline s)))
    by b s true true q = refl
    by b s true false q = refl
    by b s false true q = rw q
    by b s false false q = rw q (omega arith)

code_stop : (b : ℕ) (s : List ℕ) → (b ≡ semicolon → ⊥) → (b ≡ newline → ⊥) → uncommented (b ∷ s) ≡ b ∷ uncommented s
unfolding uncommented up_to
code_stop b s h g = rw (ne_eqb b newline g, ne_eqb b semicolon h)

code_comment : (s : List ℕ) → uncommented (semicolon ∷ s) ≡ []
unfolding uncommented up_to
code_comment s = refl

code-ended : (s : List ℕ) → uncommented (newline ∷ s) ≡ []
unfolding uncommented up_to
code-ended s = refl

code_empty : uncommented [] ≡ []
unfolding uncommented up_to
code_empty = refl

-- the newline is looked for after that
line_on : (b : ℕ) (s : List ℕ) → (b ≡ newline → ⊥) → length (up_to newline (b ∷ s)) ≡ suc (length (up_to newline s))
unfolding up_to
line_on b s h = rw (ne_eqb b newline h)

pub line_end : (s : List ℕ) → length (up_to newline s) ≡ length (uncommented s) + length (up_to newline (drop (length (uncommented s)) s))
line_end [] = rw code_empty (sym (zero-add _))
line_end (b ∷ s) =
    by_test (eqb b semicolon)
    (λ e. rw (eqb-true b semicolon e) (rw (code_comment s) (sym (zero-add _))))
    (λ e. by_test (eqb b newline)
    (λ f. rw (eqb-true b newline f) (rw (code-ended s) (sym (zero-add _))))
    (λ f. let no_end = eqb-false b newline f in
    let long : length (uncommented (b ∷ s)) ≡ suc (length (uncommented s)) = ap length (code_stop b s (eqb-false b semicolon e) no_end) in
    omega (arith, line_on b s no_end, line_end s, long, ap (λ (k : ℕ). length (up_to newline (drop k (b ∷ s)))) long)))

take-code : (s : List ℕ) → take (length (uncommented s)) s ≡ uncommented s
take-code [] = rw code_empty
take-code (b ∷ s) =
    by_test (eqb b semicolon)
    (λ e. rw (eqb-true b semicolon e) (rw (code_comment s)))
    (λ e. by_test (eqb b newline)
    (λ f. rw (eqb-true b newline f) (rw (code-ended s)))
    (λ f. let q = code_stop b s (eqb-false b semicolon e) (eqb-false b newline f) in
    ap (λ (w : List ℕ). take (length w) (b ∷ s)) q ∙ ap (λ (x : List ℕ). b ∷ x) (take-code s) ∙ sym q))

module _ (text : List ℕ) (at code gap : ℕ) where
  abbrev line : List ℕ
  line = take (length text - at) (drop at text)

  pub placed-code : code ≡ length (uncommented line) → drop gap (take code line) ≡ trimmed (take code line) → take (code - gap) (drop (at + gap) text) ≡ code_of (drop at text)
  unfolding code_of
  placed-code e f =
      let all : line ≡ drop at text = rest_all text at in
      let whole : take code line ≡ uncommented (drop at text) = ap (λ (k : ℕ). take k line) e ∙ take-code line ∙ ap uncommented all in
      ap (take (code - gap)) (sym (drop-drop gap at text)) ∙ ap (λ (l : List ℕ). take (code - gap) (drop gap l)) (sym all) ∙ sym (drop-take gap code line) ∙ f ∙ ap trimmed whole

  pub placed_end : (n : ℕ) → code ≡ length (uncommented line) → n ≡ length (up_to newline (take (length line - code) (drop code line))) → code + n ≡ length (up_to newline (drop at text))
  placed_end n e f =
      ap₂ (λ (x y : ℕ). x + y) e (f ∙ ap (λ (l : List ℕ). length (up_to newline l)) (rest_all line code ∙ ap (λ (k : ℕ). drop k line) e))
      ∙ sym (line_end line) ∙ ap (λ (l : List ℕ). length (up_to newline l)) (rest_all text at)

  pub placed_long : length line ≡ length (drop at text)
  placed_long = ap length (rest_all text at)

-- ---- labels

empty_word : (s : List ℕ) → length s ≡ 0 → is_label s ≡ false
unfolding is_label
empty_word [] h = refl
empty_word (b ∷ s) h = absurd (omega arith)

module _ (s : List ℕ) (n : ℕ) (e : n ≡ length (word_of s)) where
  pub label_none : n ≡ 0 → is_label (word_of s) ≡ false
  label_none z = empty_word (word_of s) (sym e ∙ z)

  label_byte : 0 < n → get_or (word_of s) (length (word_of s) - 1) 0 ≡ get_or s (n - 1) 0
  label_byte h =
      ap (λ (k : ℕ). get_or (word_of s) (k - 1) 0) (sym e) ∙ ap (λ (w : List ℕ). get_or w (n - 1) 0) (sym (word_take s n e)) ∙ get_or-take n s (n - 1) 0 (omega arith)

  pub label_is : 0 < n → get_or s (n - 1) 0 ≡ colon → is_label (word_of s) ≡ true
  unfolding is_label
  label_is h q = rw (label_byte h, eq-eqb _ _ q)

  pub label_not : 0 < n → (get_or s (n - 1) 0 ≡ colon → ⊥) → is_label (word_of s) ≡ false
  unfolding is_label
  label_not h q = rw (label_byte h, ne_eqb _ _ q)

-- what a label's size says
size-label : (w : List ℕ) (t : Bool) (n : ℕ) → is_label w ≡ t → n ≡ cond t (length w) 0 → (n ≡ 0 → is_label w ≡ false) × ((n ≡ 0 → ⊥) → is_label w ≡ true)
size-label w true n q e = ((λ z. empty_word w (sym e ∙ z)), (λ z. q))
size-label w false n q e = ((λ z. q), (λ z. absurd (z e)))

module _ (s : List ℕ) (n : ℕ) (e : n ≡ label_size s) where
  pub label-zero : n ≡ 0 → is_label (word_of s) ≡ false
  label-zero z = (size-label (word_of s) (is_label (word_of s)) n refl e).0 z

  pub label-full : (n ≡ 0 → ⊥) → is_label (word_of s) ≡ true
  label-full z = (size-label (word_of s) (is_label (word_of s)) n refl e).1 z

  pub label_long : (n ≡ 0 → ⊥) → n ≡ length (word_of s)
  label_long z = e ∙ ap (λ (t : Bool). cond t (length (word_of s)) 0) (label-full z)

  pub body_same : n ≡ 0 → s ≡ body_of s
  unfolding body_of
  body_same z = rw (label-zero z)

  pub body_next : (n ≡ 0 → ⊥) → trimmed (drop n s) ≡ body_of s
  unfolding body_of next
  body_next z = rw (label-full z) (ap (λ (k : ℕ). trimmed (drop k s)) (label_long z))
