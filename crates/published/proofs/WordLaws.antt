-- The parts of a line as the code cuts them off, one after the other, and the parts after an opcode. Assumes nothing.
use Prim.Native.Nat.{ℕ, suc, ◌≤◌, ◌<◌}
use mathlib.Core.Bool.{Bool, true, false, cond}
use mathlib.Core.Path.{◌≡◌, refl, sym, ap, ap₂, ◌∙◌}
use mathlib.Core.List.{List, [], ◌∷◌}
use native.Mathlib.Omega.{arith}
use lib.ListN.{length, get_or, take, drop}
use lib.Dec.{eqb, ltb}
use borrow.Author.Tests.{eq-eqb, ne_eqb, eqb-true, eqb-false, lt-ltb}
use Rattle.model.specs.Lines.{Filled, filled, fills}
use mathlib.Core.Option.{Option, none, some}
use Rattle.model.specs.Stored.{opcode_of, opcodes, Parsed, wrong, or_wrong}
use Rattle.model.specs.Text.{spelled_from, spell_opcode, opcode_field}
use Rattle.model.proofs.TestLaws.{below}
use Rattle.published.specs.Published.{is_blank, onto, words}
use Rattle.published.specs.Published.{Label, or_missing, operands_parsed, parts_parsed, instruction_parsed}
use Rattle.published.specs.Reading.{trimmed, word_of, next, parts_there}

-- ---- the first part, and the rest

pub by_test : {P : Type 0} (t : Bool) → (t ≡ true → P) → (t ≡ false → P) → P
by_test true f g = f refl
by_test false f g = g refl

trim_short : (s : List ℕ) → length (trimmed s) ≤ length s
unfolding trimmed
trim_short [] = omega arith
trim_short (b ∷ s) = by (is_blank b) (trim_short s)
  where
    by : (t : Bool) → length (trimmed s) ≤ length s → length (cond t (trimmed s) (b ∷ s)) ≤ suc (length s)
    by true h = omega arith
    by false h = omega arith

trim_skip : (b : ℕ) (s : List ℕ) → is_blank b ≡ true → trimmed (b ∷ s) ≡ trimmed s
unfolding trimmed
trim_skip b s e = rw e

trim_stop : (b : ℕ) (s : List ℕ) → is_blank b ≡ false → trimmed (b ∷ s) ≡ b ∷ s
unfolding trimmed
trim_stop b s e = rw e

pub trim_twice : (s : List ℕ) → trimmed (trimmed s) ≡ trimmed s
unfolding trimmed
trim_twice [] = refl
trim_twice (b ∷ s) =
    by_test (is_blank b) (λ e. ap trimmed (trim_skip b s e) ∙ trim_twice s ∙ sym (trim_skip b s e)) (λ e. ap trimmed (trim_stop b s e))

words-skip : (b : ℕ) (s : List ℕ) → is_blank b ≡ true → words (b ∷ s) ≡ words s
unfolding words
words-skip b s e = rw e

pub words_trim : (s : List ℕ) → words (trimmed s) ≡ words s
unfolding trimmed
words_trim [] = refl
words_trim (b ∷ s) =
    by_test (is_blank b) (λ e. ap words (trim_skip b s e) ∙ words_trim s ∙ sym (words-skip b s e)) (λ e. ap words (trim_stop b s e))

words_alone : (b : ℕ) → is_blank b ≡ false → words (b ∷ []) ≡ (b ∷ []) ∷ words []
unfolding words
words_alone b e = rw e

words-apart : (b c : ℕ) (s : List ℕ) → is_blank b ≡ false → is_blank c ≡ true → words (b ∷ c ∷ s) ≡ (b ∷ []) ∷ words (c ∷ s)
unfolding words
words-apart b c s e f = rw (e, f)

words-joined : (b c : ℕ) (s : List ℕ) → is_blank b ≡ false → is_blank c ≡ false → words (b ∷ c ∷ s) ≡ onto b (words (c ∷ s))
unfolding words
words-joined b c s e f = rw (e, f)

word_none : word_of [] ≡ []
unfolding word_of
word_none = refl

word_stop : (b : ℕ) (s : List ℕ) → is_blank b ≡ true → word_of (b ∷ s) ≡ []
unfolding word_of
word_stop b s e = rw e

word_on : (b : ℕ) (s : List ℕ) → is_blank b ≡ false → word_of (b ∷ s) ≡ b ∷ word_of s
unfolding word_of
word_on b s e = rw e

-- a part, and the words after it
abbrev Cut : List ℕ → Type 0
Cut s = words s ≡ word_of s ∷ words (drop (length (word_of s)) s)

cut_first : (b : ℕ) (s : List ℕ) → is_blank b ≡ false → Cut (b ∷ s)
cut_first b [] e = words_alone b e ∙ ap (λ (w : List ℕ). w ∷ words (drop (length w) (b ∷ []))) (sym (word_on b [] e ∙ ap (λ (w : List ℕ). b ∷ w) word_none))
cut_first b (c ∷ s) e =
    by_test (is_blank c)
    (λ f. words-apart b c s e f ∙ ap (λ (w : List ℕ). w ∷ words (drop (length w) (b ∷ c ∷ s))) (sym (word_on b (c ∷ s) e ∙ ap (λ (w : List ℕ). b ∷ w) (word_stop c s f))))
    (λ f. words-joined b c s e f ∙ ap (onto b) (cut_first c s f) ∙ ap (λ (w : List ℕ). w ∷ words (drop (length w) (b ∷ c ∷ s))) (sym (word_on b (c ∷ s) e)))

pub word_take : (s : List ℕ) (n : ℕ) → n ≡ length (word_of s) → take n s ≡ word_of s
word_take s n e = ap (λ (k : ℕ). take k s) e ∙ go s
  where
    go : (t : List ℕ) → take (length (word_of t)) t ≡ word_of t
    go [] = ap (λ (w : List ℕ). take (length w) []) word_none ∙ sym word_none
    go (b ∷ t) =
        by_test (is_blank b) (λ f. ap (λ (w : List ℕ). take (length w) (b ∷ t)) (word_stop b t f) ∙ sym (word_stop b t f))
        (λ f. ap (λ (w : List ℕ). take (length w) (b ∷ t)) (word_on b t f) ∙ ap (λ (w : List ℕ). b ∷ w) (go t) ∙ sym (word_on b t f))

-- ---- a line whose blanks in front are skipped

not_blank : (b : ℕ) (s : List ℕ) → trimmed (b ∷ s) ≡ b ∷ s → is_blank b ≡ false
not_blank b s h =
    by_test (is_blank b) (λ e. absurd (omega (arith, ap length (sym (trim_skip b s e) ∙ h), trim_short s))) (λ e. e)

words-nil : words [] ≡ []
unfolding words
words-nil = refl

next-words : (s : List ℕ) → words (next s) ≡ words (drop (length (word_of s)) s)
unfolding next
next-words s = words_trim (drop (length (word_of s)) s)

pub next-trimmed : (s : List ℕ) → trimmed (next s) ≡ next s
unfolding next
next-trimmed s = trim_twice (drop (length (word_of s)) s)

words-cons : (b : ℕ) (s : List ℕ) → trimmed (b ∷ s) ≡ b ∷ s → words (b ∷ s) ≡ word_of (b ∷ s) ∷ words (next (b ∷ s))
words-cons b s h = cut_first b s (not_blank b s h) ∙ ap (λ (x : List (List ℕ)). word_of (b ∷ s) ∷ x) (sym (next-words (b ∷ s)))

next-nil : next [] ≡ []
unfolding next trimmed word_of
next-nil = refl

-- the parts of a line: the first, and those of what follows
pub first_part : (s : List ℕ) → trimmed s ≡ s → get_or (words s) 0 [] ≡ word_of s
first_part [] h = ap (λ (x : List (List ℕ)). get_or x 0 []) words-nil ∙ sym word_none
first_part (b ∷ s) h = ap (λ (x : List (List ℕ)). get_or x 0 []) (words-cons b s h)

later_part : (s : List ℕ) (i : ℕ) → trimmed s ≡ s → get_or (words s) (suc i) [] ≡ get_or (words (next s)) i []
later_part [] i h = ap (λ (x : List (List ℕ)). get_or x (suc i) []) words-nil ∙ sym (ap (λ (x : List ℕ). get_or (words x) i []) next-nil ∙ ap (λ (x : List (List ℕ)). get_or x i []) words-nil)
later_part (b ∷ s) i h = ap (λ (x : List (List ℕ)). get_or x (suc i) []) (words-cons b s h)

no_words : (s : List ℕ) → length s ≡ 0 → length (words s) ≡ 0
no_words [] h = ap length words-nil
no_words (b ∷ s) h = absurd (omega arith)

more_words : (s : List ℕ) → trimmed s ≡ s → (length s ≡ 0 → ⊥) → length (words s) ≡ suc (length (words (next s)))
more_words [] h g = absurd (g refl)
more_words (b ∷ s) h g = ap length (words-cons b s h)

module _ (s : List ℕ) (h : trimmed s ≡ s) {s2 s3 s4 : List ℕ} (e2 : s2 ≡ next s) (e3 : s3 ≡ next s2) (e4 : s4 ≡ next s3) where
  h2 : trimmed s2 ≡ s2
  h2 = ap trimmed e2 ∙ next-trimmed s ∙ sym e2

  h3 : trimmed s3 ≡ s3
  h3 = ap trimmed e3 ∙ next-trimmed s2 ∙ sym e3

  h4 : trimmed s4 ≡ s4
  h4 = ap trimmed e4 ∙ next-trimmed s3 ∙ sym e4

  part0 : get_or (words s) 0 [] ≡ word_of s
  part0 = first_part s h

  part1 : get_or (words s) 1 [] ≡ word_of s2
  part1 = later_part s 0 h ∙ ap (λ (x : List ℕ). get_or (words x) 0 []) (sym e2) ∙ first_part s2 h2

  part2 : get_or (words s) 2 [] ≡ word_of s3
  part2 =
      later_part s 1 h ∙ ap (λ (x : List ℕ). get_or (words x) 1 []) (sym e2)
      ∙ later_part s2 0 h2 ∙ ap (λ (x : List ℕ). get_or (words x) 0 []) (sym e3) ∙ first_part s3 h3

  -- how many there are, up to three
  abbrev there : ℕ
  there = parts_there (length s) (length s2) (length s3) (length s4)

  counted : (k : ℕ) → k < 4 → eqb (length (words s)) k ≡ eqb there k
  counted k g =
      by_test (eqb (length s) 0)
      (λ a. rw (a, no_words s (eqb-true (length s) 0 a)))
      (λ a. let m1 : length (words s) ≡ suc (length (words s2)) = more_words s h (eqb-false (length s) 0 a) ∙ ap (λ (x : List ℕ). suc (length (words x))) (sym e2) in
      by_test (eqb (length s2) 0)
      (λ b. let n : length (words s) ≡ 1 = omega (arith, m1, no_words s2 (eqb-true (length s2) 0 b)) in rw (a, b, n))
      (λ b. let m2 : length (words s2) ≡ suc (length (words s3)) = more_words s2 h2 (eqb-false (length s2) 0 b) ∙ ap (λ (x : List ℕ). suc (length (words x))) (sym e3) in
      by_test (eqb (length s3) 0)
      (λ c. let n : length (words s) ≡ 2 = omega (arith, m1, m2, no_words s3 (eqb-true (length s3) 0 c)) in rw (a, b, c, n))
      (λ c. let m3 : length (words s3) ≡ suc (length (words s4)) = more_words s3 h3 (eqb-false (length s3) 0 c) ∙ ap (λ (x : List ℕ). suc (length (words x))) (sym e4) in
      by_test (eqb (length s4) 0)
      (λ d. let n : length (words s) ≡ 3 = omega (arith, m1, m2, m3, no_words s4 (eqb-true (length s4) 0 d)) in rw (a, b, c, d, n))
      (λ d. let m4 : length (words s4) ≡ suc (length (words (next s4))) = more_words s4 h4 (eqb-false (length s4) 0 d) in
      rw (a, b, c, d) (ne_eqb (length (words s)) k (λ e. omega (arith, m1, m2, m3, m4, e)) ∙ sym (ne_eqb 4 k (λ e. omega arith)))))))

  -- ---- the parts after an opcode, by the fields that it fills
  module _ (n : ℕ) (labels : List Label) (o : ℕ) where
    abbrev Parts : Filled → Parsed
    Parts f = parts_parsed n labels o f (words s)

    pub none_there : there ≡ 0 → operands_parsed n o [] [] [] 0 ≡ Parts (filled false false false false)
    unfolding parts_parsed
    none_there e = rw (counted 0 (omega arith), eq-eqb _ _ e)

    pub none_wrong : (there ≡ 0 → ⊥) → wrong 25 ≡ Parts (filled false false false false)
    unfolding parts_parsed
    none_wrong e = rw (counted 0 (omega arith), ne_eqb _ _ e)

    pub target_there : there ≡ 1 → or_missing true labels (word_of s) (operands_parsed n o [] [] []) ≡ Parts (filled false false false true)
    unfolding parts_parsed
    target_there e = rw (counted 1 (omega arith), eq-eqb _ _ e, part0)

    pub target_wrong : (there ≡ 1 → ⊥) → wrong 25 ≡ Parts (filled false false false true)
    unfolding parts_parsed
    target_wrong e = rw (counted 1 (omega arith), ne_eqb _ _ e)

    pub two_there : there ≡ 2 → operands_parsed n o (word_of s) (word_of s2) [] 0 ≡ Parts (filled true true false false)
    unfolding parts_parsed
    two_there e = rw (counted 2 (omega arith), eq-eqb _ _ e, part0, part1)

    pub two_wrong : (there ≡ 2 → ⊥) → wrong 25 ≡ Parts (filled true true false false)
    unfolding parts_parsed
    two_wrong e = rw (counted 2 (omega arith), ne_eqb _ _ e)

    pub three_there : there ≡ 3 → operands_parsed n o (word_of s) (word_of s2) (word_of s3) 0 ≡ Parts (filled true true true false)
    unfolding parts_parsed
    three_there e = rw (counted 3 (omega arith), eq-eqb _ _ e, part0, part1, part2)

    pub three_wrong : (there ≡ 3 → ⊥) → wrong 25 ≡ Parts (filled true true true false)
    unfolding parts_parsed
    three_wrong e = rw (counted 3 (omega arith), ne_eqb _ _ e)

    pub branch_there : there ≡ 3 → or_missing true labels (word_of s3) (operands_parsed n o [] (word_of s) (word_of s2)) ≡ Parts (filled false true true true)
    unfolding parts_parsed
    branch_there e = rw (counted 3 (omega arith), eq-eqb _ _ e, part0, part1, part2)

    pub branch_wrong : (there ≡ 3 → ⊥) → wrong 25 ≡ Parts (filled false true true true)
    unfolding parts_parsed
    branch_wrong e = rw (counted 3 (omega arith), ne_eqb _ _ e)

-- ---- which fields an opcode's number fills

pub fills_none : (o : ℕ) → o ≡ 0 → filled false false false false ≡ fills (opcode_of o)
unfolding fills
fills_none o e = rw e

pub fills_target : (o : ℕ) → o ≡ 1 → filled false false false true ≡ fills (opcode_of o)
unfolding fills
fills_target o e = rw e

pub fills_two : (o : ℕ) → 2 ≤ o → o < 4 → filled true true false false ≡ fills (opcode_of o)
unfolding fills
fills_two o h g = below o 3 (λ a. let z : o ≡ 2 = omega arith in rw z) (λ a. let z : o ≡ 3 = omega arith in rw z)

pub fills-three : (o : ℕ) → 4 ≤ o → o < 11 → filled true true true false ≡ fills (opcode_of o)
unfolding fills
fills-three o h g =
    below o 5 (λ a. let z : o ≡ 4 = omega arith in rw z) (λ a.
    below o 6 (λ b. let z : o ≡ 5 = omega arith in rw z) (λ b.
    below o 7 (λ c. let z : o ≡ 6 = omega arith in rw z) (λ c.
    below o 8 (λ d. let z : o ≡ 7 = omega arith in rw z) (λ d.
    below o 9 (λ e. let z : o ≡ 8 = omega arith in rw z) (λ e.
    below o 10 (λ f. let z : o ≡ 9 = omega arith in rw z) (λ f. let z : o ≡ 10 = omega arith in rw z))))))

pub fills_branch : (o : ℕ) → 11 ≤ o → o < opcodes → filled false true true true ≡ fills (opcode_of o)
unfolding fills
fills_branch o h g = below o 12 (λ a. let z : o ≡ 11 = omega arith in rw z) (λ a. let z : o ≡ 12 = omega arith in rw z)

-- ---- an opcode and its parts

no_opcode : (opcode_field []).number ≡ none
unfolding spelled_from spell_opcode
no_opcode = refl

none_parsed : (n : ℕ) (labels : List Label) → instruction_parsed n labels [] ≡ wrong 25
unfolding instruction_parsed
none_parsed n labels = refl

first-parsed : (n : ℕ) (labels : List Label) (o : List ℕ) (ps : List (List ℕ)) → instruction_parsed n labels (o ∷ ps) ≡ or_wrong 25 (opcode_field o).number (λ k. parts_parsed n labels k (fills (opcode_of k)) ps)
unfolding instruction_parsed
first-parsed n labels o ps = refl

never_some : {k : ℕ} → none ≡ some k → ⊥
never_some e = let z : ◌≡◌ {A = ℕ} 0 1 = cc in omega arith

pub parse_there : (n : ℕ) (labels : List Label) (s : List ℕ) (k : ℕ) → trimmed s ≡ s → (opcode_field (word_of s)).number ≡ some k
    → parts_parsed n labels k (fills (opcode_of k)) (words (next s)) ≡ instruction_parsed n labels (words s)
parse_there n labels [] k h e = absurd (never_some (sym (ap (λ (x : List ℕ). (opcode_field x).number) word_none ∙ no_opcode) ∙ e))
parse_there n labels (b ∷ s) k h e =
    sym (ap (instruction_parsed n labels) (words-cons b s h) ∙ first-parsed n labels (word_of (b ∷ s)) (words (next (b ∷ s))) ∙ ap (λ (x : Option ℕ). or_wrong 25 x (λ j. parts_parsed n labels j (fills (opcode_of j)) (words (next (b ∷ s))))) e)

pub parse_wrong : (n : ℕ) (labels : List Label) (s : List ℕ) → trimmed s ≡ s → (opcode_field (word_of s)).number ≡ none → wrong 25 ≡ instruction_parsed n labels (words s)
parse_wrong n labels [] h e = sym (ap (instruction_parsed n labels) words-nil ∙ none_parsed n labels)
parse_wrong n labels (b ∷ s) h e =
    sym (ap (instruction_parsed n labels) (words-cons b s h) ∙ first-parsed n labels (word_of (b ∷ s)) (words (next (b ∷ s))) ∙ ap (λ (x : Option ℕ). or_wrong 25 x (λ j. parts_parsed n labels j (fills (opcode_of j)) (words (next (b ∷ s))))) e)

pub parse_none : (n : ℕ) (labels : List Label) (s : List ℕ) → length s ≡ 0 → wrong 25 ≡ instruction_parsed n labels (words s)
parse_none n labels [] e = sym (ap (instruction_parsed n labels) words-nil ∙ none_parsed n labels)
parse_none n labels (b ∷ s) e = absurd (omega arith)

pub three_parts : (f : List ℕ → List ℕ → List ℕ → Parsed) {x y z u v w : List ℕ} → x ≡ u → y ≡ v → z ≡ w → f x y z ≡ f u v w
three_parts f {x} {y} {z} {u} {v} {w} a b c = ap₂ (λ (p q : List ℕ). f p q z) a b ∙ ap (f u v) c

-- ---- the rest of the parts, and whether there are any

pub words_rest : (s : List ℕ) → trimmed s ≡ s → drop 1 (words s) ≡ words (next s)
words_rest [] h = ap (drop 1) words-nil ∙ sym (ap words next-nil ∙ words-nil)
words_rest (b ∷ s) h = ap (drop 1) (words-cons b s h)

pub words_some : (s : List ℕ) → trimmed s ≡ s → ltb 0 (length (words s)) ≡ ltb 0 (length s)
words_some [] h = ap (λ (x : List (List ℕ)). ltb 0 (length x)) words-nil
words_some (b ∷ s) h = lt-ltb 0 (length (words (b ∷ s))) (omega (arith, ap length (words-cons b s h))) ∙ sym (lt-ltb 0 (length (b ∷ s)) (omega arith))

-- ---- the parts after an opcode, as the code cuts them: three parts, what follows each, and how many there are

pub record Cut3 (s s2 s3 s4 : List ℕ) (i j k count : ℕ) : Type 0 where
  pub start : trimmed s ≡ s
  pub first : i ≡ length (word_of s)
  pub rest : s2 ≡ trimmed (drop i s)
  pub second : j ≡ length (word_of s2)
  pub rest2 : s3 ≡ trimmed (drop j s2)
  pub third : k ≡ length (word_of s3)
  pub rest3 : s4 ≡ trimmed (drop k s3)
  pub there : count ≡ parts_there (length s) (length s2) (length s3) (length s4)

pub next_is : (s : List ℕ) (i : ℕ) → i ≡ length (word_of s) → trimmed (drop i s) ≡ next s
unfolding next
next_is s i e = ap (λ (k : ℕ). trimmed (drop k s)) e

module _ {s s2 s3 s4 : List ℕ} {i j k count : ℕ} (C : Cut3 s s2 s3 s4 i j k count) (n : ℕ) (labels : List Label) (o : ℕ) where
  f2 : s2 ≡ next s
  f2 = C.rest ∙ next_is s i C.first

  f3 : s3 ≡ next s2
  f3 = C.rest2 ∙ next_is s2 j C.second

  f4 : s4 ≡ next s3
  f4 = C.rest3 ∙ next_is s3 k C.third

  abbrev Whole : Parsed
  Whole = parts_parsed n labels o (fills (opcode_of o)) (words s)

  as_filled : {f : Filled} {x : Parsed} → x ≡ parts_parsed n labels o f (words s) → f ≡ fills (opcode_of o) → x ≡ Whole
  as_filled e q = e ∙ ap (λ (f : Filled). parts_parsed n labels o f (words s)) q

  w1 : take i s ≡ word_of s
  w1 = word_take s i C.first

  w2 : take j s2 ≡ word_of s2
  w2 = word_take s2 j C.second

  w3 : take k s3 ≡ word_of s3
  w3 = word_take s3 k C.third

  wrong_none : o ≡ 0 → (count ≡ 0 → ⊥) → wrong 25 ≡ Whole
  wrong_none z c = as_filled (none_wrong s C.start f2 f3 f4 n labels o (λ e. c (C.there ∙ e))) (fills_none o z)

  pub right_none : o ≡ 0 → count ≡ 0 → operands_parsed n o [] [] [] 0 ≡ Whole
  right_none z c = as_filled (none_there s C.start f2 f3 f4 n labels o (sym C.there ∙ c)) (fills_none o z)

  wrong_jump : o ≡ 1 → (count ≡ 1 → ⊥) → wrong 25 ≡ Whole
  wrong_jump z c = as_filled (target_wrong s C.start f2 f3 f4 n labels o (λ e. c (C.there ∙ e))) (fills_target o z)

  pub right_jump : o ≡ 1 → count ≡ 1 → or_missing true labels (take i s) (operands_parsed n o [] [] []) ≡ Whole
  right_jump z c =
      ap (λ (x : List ℕ). or_missing true labels x (operands_parsed n o [] [] [])) w1 ∙ as_filled (target_there s C.start f2 f3 f4 n labels o (sym C.there ∙ c)) (fills_target o z)

  wrong_two : 2 ≤ o → o < 4 → (count ≡ 2 → ⊥) → wrong 25 ≡ Whole
  wrong_two h g c = as_filled (two_wrong s C.start f2 f3 f4 n labels o (λ e. c (C.there ∙ e))) (fills_two o h g)

  pub right_two : 2 ≤ o → o < 4 → count ≡ 2 → operands_parsed n o (take i s) (take j s2) [] 0 ≡ Whole
  right_two h g c =
      three_parts (λ (x y z : List ℕ). operands_parsed n o x y z 0) w1 w2 refl ∙ as_filled (two_there s C.start f2 f3 f4 n labels o (sym C.there ∙ c)) (fills_two o h g)

  wrong_three : 4 ≤ o → o < opcodes → (count ≡ 3 → ⊥) → wrong 25 ≡ Whole
  wrong_three h g c =
      below o 11
      (λ l. as_filled (three_wrong s C.start f2 f3 f4 n labels o (λ e. c (C.there ∙ e))) (fills-three o h l))
      (λ l. as_filled (branch_wrong s C.start f2 f3 f4 n labels o (λ e. c (C.there ∙ e))) (fills_branch o l g))

  -- no count that an opcode takes
  pub wrong_count : o < opcodes → (o ≡ 0 → count ≡ 0 → ⊥) → (o ≡ 1 → count ≡ 1 → ⊥) → (2 ≤ o → o < 4 → count ≡ 2 → ⊥) → (4 ≤ o → count ≡ 3 → ⊥) → wrong 25 ≡ Whole
  wrong_count g no_part one two three =
      below o 4
      (λ l. below o 2 (λ l2. below o 1 (λ l1. let z : o ≡ 0 = omega arith in wrong_none z (no_part z)) (λ l1. let z : o ≡ 1 = omega arith in wrong_jump z (one z))) (λ l2. wrong_two l2 l (two l2 l)))
      (λ l. wrong_three l g (three l))

  pub right-three : 4 ≤ o → o < 11 → count ≡ 3 → operands_parsed n o (take i s) (take j s2) (take k s3) 0 ≡ Whole
  right-three h g c =
      three_parts (λ (x y z : List ℕ). operands_parsed n o x y z 0) w1 w2 w3 ∙ as_filled (three_there s C.start f2 f3 f4 n labels o (sym C.there ∙ c)) (fills-three o h g)

  pub right_branch : 11 ≤ o → o < opcodes → count ≡ 3 → or_missing true labels (take k s3) (operands_parsed n o [] (take i s) (take j s2)) ≡ Whole
  right_branch h g c =
      three_parts (λ (x y z : List ℕ). or_missing true labels z (operands_parsed n o [] x y)) w1 w2 w3 ∙ as_filled (branch_there s C.start f2 f3 f4 n labels o (sym C.there ∙ c)) (fills_branch o h g)
