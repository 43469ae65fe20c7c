-- A program going out and coming in: the lines of its text, what is seen of them, and that no condition holds. By induction on the lines,
-- with the labels of the lines below the one reached. Assumes nothing.
use Prim.Native.Nat.{ℕ, suc, ◌+◌, ◌≤◌, ◌<◌}
use mathlib.Core.Bool.{Bool, true, false, cond, not, ◌||◌}
use mathlib.Core.Path.{◌≡◌, refl, sym, ap, ap₂, ◌∙◌}
use mathlib.Core.List.{List, [], ◌∷◌, ◌++◌, flat_map, append_assoc, append-nil}
use mathlib.Core.Option.{some}
use native.Mathlib.Omega.{arith}
use lib.ListN.{length, length-append}
use lib.Dec.{T, nltb→le}
use borrow.Author.Tests.{eq-eqb, lt-ltb, lt-leb}
use Rattle.model.specs.declared.Target.{Target}
use Rattle.model.specs.declared.Target.TheVariants.{Empty as NoTarget, Line as ToLine}
use Rattle.model.specs.declared.Line.{Line}
use Rattle.model.specs.Limits.{max_accepted}
use Rattle.model.specs.Answers.{counted}
use Rattle.model.specs.Lines.{correct}
use Rattle.model.specs.Stored.{codes, numbers, wrong}
use Rattle.model.specs.Text.{newline}
use Rattle.model.specs.Marks.{is_above, holds16, mark_fault, Accepted}
use Rattle.model.proofs.Acceptance.{AllRight, clear, accepted_right}
use Rattle.published.specs.Published.{colon, cut_lines, words, TextLine, text_lines}
use Rattle.published.specs.Published.{max_labels, line_name}
use Rattle.published.specs.Published.{goes_to, is_target, instruction_text, label_line, published_from, published}
use Rattle.published.specs.Published.{labelled, instruction, is_counted, Label, find, Seen, none_seen, after, seen_from, instruction_parsed, parsed_line, holds24, holds25, line_fault, first_fault, numbers_of, stored_lines}
use Rattle.published.proofs.PartLaws.{Plain, plain_append, plain_newlines, plain_comments, of_parts, text_lines_lem, word_then}
use Rattle.published.proofs.NameLaws.{line_plain, label_there, label-named, opcode_no_label, labels_below, label, find_target, line_new}
use Rattle.published.proofs.LineLaws.{parts_of, instruction-words, instruction_newlines, instruction_comments, line_home}
use Rattle.published.proofs.SeenLaws.{seen-cons, seen-nil, fault-cons, fault-nil, stored-cons, stored-nil}

-- ---- the lines of the text

-- `L5:`
abbrev colon_name : ℕ → List ℕ
colon_name i = line_name i ++ (colon ∷ [])

abbrev label_out : Bool → ℕ → List TextLine
label_out true i = of_parts (colon_name i ∷ []) ∷ []
label_out false i = []

unfoldable out_lines : List Line → ℕ → List Line → List TextLine
out_lines p i [] = label_out (is_target p i) i
out_lines p i (l ∷ ls) = label_out (is_target p i) i ++ (of_parts (parts_of l) ∷ out_lines p (i + 1) ls)

colon_plain : (i : ℕ) → Plain (colon_name i)
colon_plain i = plain_append (line_name i) (colon ∷ []) (line_plain i) (omega arith, (λ e. omega arith), tt)

words_one : (s : List ℕ) → Plain s → 0 < length s → words s ≡ s ∷ []
unfolding words
words_one [] h l = absurd (omega arith)
words_one (b ∷ s) h l = ap words (sym (append-nil (b ∷ s))) ∙ word_then b s [] h refl

label-lines : (t : Bool) (i : ℕ) (rest : List ℕ) → text_lines (label_line t i ++ rest) ≡ label_out t i ++ text_lines rest
unfolding label_line
label-lines false i rest = refl
label-lines true i rest =
    let c = colon_plain i in
    let e : line_name i ++ (colon ∷ newline ∷ []) ++ rest ≡ colon_name i ++ (newline ∷ rest) = append_assoc (line_name i) (colon ∷ newline ∷ []) rest ∙ sym (append_assoc (line_name i) (colon ∷ []) (newline ∷ rest)) in
    ap text_lines e
    ∙ text_lines_lem (colon_name i) rest (plain_newlines (colon_name i) c) (plain_comments (colon_name i) c)
    ∙ ap (λ (x : List (List ℕ)). of_parts x ∷ text_lines rest) (words_one (colon_name i) c (omega (arith, length-append (line_name i) (colon ∷ []))))

text_none : text_lines [] ≡ []
unfolding text_lines cut_lines
text_none = refl

text_out : (p : List Line) (i : ℕ) (ls : List Line) → text_lines (published_from p i ls) ≡ out_lines p i ls
unfolding published_from out_lines
text_out p i [] =
    let t : Bool = is_target p i in
    ap text_lines (sym (append-nil (label_line t i))) ∙ label-lines t i [] ∙ ap (λ (x : List TextLine). label_out t i ++ x) text_none ∙ append-nil (label_out t i)
text_out p i (l ∷ ls) =
    let t : Bool = is_target p i in
    let rest : List ℕ = published_from p (i + 1) ls in
    label-lines t i (instruction_text l ++ (newline ∷ rest))
    ∙ ap (λ (x : List TextLine). label_out t i ++ x)
    (text_lines_lem (instruction_text l) rest (instruction_newlines l) (instruction_comments l)
    ∙ ap₂ (λ (x : List (List ℕ)) (y : List TextLine). of_parts x ∷ y) (instruction-words l) (text_out p (i + 1) ls))

-- ---- what is seen of them

abbrev seen : ℕ → List Label → Seen
seen n labels = record { count = n; labels = labels }

module _ (i : ℕ) where
  colon-labelled : labelled (colon_name i ∷ []) ≡ true
  colon-labelled = label_there (line_name i)

module _ (l : Line) where
  instruction_unlabelled : labelled (parts_of l) ≡ false
  instruction_unlabelled = opcode_no_label l.opcode

  instruction_is : instruction (parts_of l) ≡ parts_of l
  instruction_is = rw instruction_unlabelled

  instruction_counted : is_counted (parts_of l) ≡ true
  instruction_counted = rw instruction_unlabelled (lt-ltb 0 (length (parts_of l)) (omega arith))

  after-instruction : (n : ℕ) (labels : List Label) → after (seen n labels) (of_parts (parts_of l)) ≡ seen (n + 1) labels
  unfolding after
  after-instruction n labels = rw (instruction_counted, instruction_unlabelled)

module _ (p : List Line) (i : ℕ) (h : i < max_labels) where
  after-label : after (seen i (labels_below p i)) (of_parts (colon_name i ∷ [])) ≡ seen i (label i ∷ labels_below p i)
  unfolding after
  after-label =
      let z : i + 0 ≡ i = omega arith in
      rw (colon-labelled i, label-named (line_name i), line_new p i h, z)

  seen-label : (rest : List TextLine) → seen_from (seen i (labels_below p i)) (label_out (is_target p i) i ++ rest) ≡ seen_from (seen i (labels_below p (suc i))) rest
  unfolding labels_below
  seen-label rest = by (is_target p i)
    where
      by : (t : Bool) → seen_from (seen i (labels_below p i)) (label_out t i ++ rest) ≡ seen_from (seen i (cond t (label i ∷ labels_below p i) (labels_below p i))) rest
      by true = seen-cons (seen i (labels_below p i)) (of_parts (colon_name i ∷ [])) rest ∙ ap (λ (s : Seen). seen_from s rest) after-label
      by false = refl

seen_out : (p : List Line) (i : ℕ) (ls : List Line) → i + length ls < max_labels
    → seen_from (seen i (labels_below p i)) (out_lines p i ls) ≡ seen (i + length ls) (labels_below p (suc (i + length ls)))
unfolding out_lines
seen_out p i [] h =
    let z : i + 0 ≡ i = omega arith in
    ap (seen_from (seen i (labels_below p i))) (sym (append-nil (label_out (is_target p i) i))) ∙ seen-label p i (omega arith) [] ∙ seen-nil (seen i (labels_below p (suc i))) ∙ ap (λ (k : ℕ). seen k (labels_below p (suc k))) (sym z)
seen_out p i (l ∷ ls) h =
    let one : i + 1 ≡ suc i = omega arith in
    let more : i + 1 + length ls ≡ i + suc (length ls) = omega arith in
    seen-label p i (omega arith) (of_parts (parts_of l) ∷ out_lines p (i + 1) ls)
    ∙ seen-cons (seen i (labels_below p (suc i))) (of_parts (parts_of l)) (out_lines p (i + 1) ls)
    ∙ ap (λ (s : Seen). seen_from s (out_lines p (i + 1) ls)) (after-instruction l i (labels_below p (suc i)) ∙ ap (λ (k : ℕ). seen (i + 1) (labels_below p k)) (sym one))
    ∙ seen_out p (i + 1) ls (omega arith)
    ∙ ap (λ (k : ℕ). seen k (labels_below p (suc k))) more

-- ---- no condition holds of them

-- a line that is a label alone is no instruction
label-parsed : (all : Seen) (i : ℕ) → parsed_line all (of_parts (colon_name i ∷ [])) ≡ wrong 25
unfolding instruction_parsed
label-parsed all i = rw (colon-labelled i)

label-right : (all : Seen) (p : List Line) (i : ℕ) → i < max_labels → line_fault all (seen i (labels_below p i)) (of_parts (colon_name i ∷ [])) ≡ 0
unfolding line_fault holds24 holds25
label-right all p i h = rw (colon-labelled i, label-named (line_name i), line_new p i h)

-- the targets of some lines have labels
abbrev Aimed : List Label → List Line → Type 0
Aimed labels [] = Unit {0}
Aimed labels (l ∷ ls) = ((k : ℕ) → l.target ≡ ToLine k → find (line_name k) labels ≡ some k) × Aimed labels ls

module _ (all : Seen) (l : Line) (h : T (correct l)) (e : mark_fault all.count l ≡ 0) (f : (k : ℕ) → l.target ≡ ToLine k → find (line_name k) all.labels ≡ some k) where
  instruction-parsed : parsed_line all (of_parts (parts_of l)) ≡ numbers (codes l)
  instruction-parsed = rw (instruction_is l) (line_home all.count all.labels l h e f)

  instruction-right : (i : ℕ) (labels : List Label) → i < max_accepted → line_fault all (seen i labels) (of_parts (parts_of l)) ≡ 0
  unfolding line_fault holds24 holds25
  instruction-right i labels g = rw (instruction-parsed, instruction_counted l, instruction_unlabelled l, lt-leb max_accepted i g)

no_fault : (all : Seen) (j : ℕ) (s : Seen) (l : TextLine) (ls : List TextLine) → line_fault all s l ≡ 0 → first_fault all j s (l ∷ ls) ≡ first_fault all (j + 1) (after s l) ls
no_fault all j s l ls e = fault-cons all j s l ls ∙ rw e

-- past the label of line i, where it has one, the check goes on at some text line
record Past (all : Seen) (p : List Line) (i j : ℕ) (rest : List TextLine) : Type 0 where
  at : ℕ
  same : first_fault all j (seen i (labels_below p i)) (label_out (is_target p i) i ++ rest) ≡ first_fault all at (seen i (labels_below p (suc i))) rest

fault-label : (all : Seen) (p : List Line) (i j : ℕ) (rest : List TextLine) → i < max_labels → Past all p i j rest
unfolding labels_below
fault-label all p i j rest h = by (is_target p i) refl
  where
    by : (t : Bool) → is_target p i ≡ t → Past all p i j rest
    by true e =
        record {
          at = j + 1;
          same = rw e (no_fault all j (seen i (labels_below p i)) (of_parts (colon_name i ∷ [])) rest (label-right all p i h) ∙ ap (λ (s : Seen). first_fault all (j + 1) s rest) (after-label p i h));
        }
    by false e = record { at = j; same = rw e }

fault_out : (all : Seen) (p : List Line) (i j : ℕ) (ls : List Line) → i + length ls ≤ max_accepted → AllRight all.count ls → Aimed all.labels ls
    → first_fault all j (seen i (labels_below p i)) (out_lines p i ls) ≡ counted (i + length ls)
unfolding out_lines AllRight
fault_out all p i j [] h r f =
    let w = fault-label all p i j [] (omega arith) in
    let z : i ≡ i + 0 = omega arith in
    ap (first_fault all j (seen i (labels_below p i))) (sym (append-nil (label_out (is_target p i) i))) ∙ w.same ∙ fault-nil all w.at (seen i (labels_below p (suc i))) ∙ ap counted z
fault_out all p i j (l ∷ ls) h r f =
    let one : i + 1 ≡ suc i = omega arith in
    let more : i + 1 + length ls ≡ i + suc (length ls) = omega arith in
    let rest : List TextLine = out_lines p (i + 1) ls in
    let w = fault-label all p i j (of_parts (parts_of l) ∷ rest) (omega arith) in
    w.same
    ∙ no_fault all w.at (seen i (labels_below p (suc i))) (of_parts (parts_of l)) rest (instruction-right all l r.0 r.1 f.0 i (labels_below p (suc i)) (omega arith))
    ∙ ap (λ (s : Seen). first_fault all (w.at + 1) s rest) (after-instruction l i (labels_below p (suc i)) ∙ ap (λ (k : ℕ). seen (i + 1) (labels_below p k)) (sym one))
    ∙ fault_out all p (i + 1) (w.at + 1) ls (omega arith) r.2 f.1
    ∙ ap counted more

-- ---- the numbers of them

stored-label : (all : Seen) (t : Bool) (i : ℕ) (rest : List TextLine) → stored_lines all (label_out t i ++ rest) ≡ stored_lines all rest
unfolding stored_lines flat_map
stored-label all false i rest = refl
stored-label all true i rest = rw (label-parsed all i)

stored_out : (all : Seen) (p : List Line) (i : ℕ) (ls : List Line) → AllRight all.count ls → Aimed all.labels ls → stored_lines all (out_lines p i ls) ≡ flat_map codes ls
unfolding out_lines AllRight flat_map
stored_out all p i [] r f = ap (stored_lines all) (sym (append-nil (label_out (is_target p i) i))) ∙ stored-label all (is_target p i) i [] ∙ stored-nil all
stored_out all p i (l ∷ ls) r f =
    stored-label all (is_target p i) i (of_parts (parts_of l) ∷ out_lines p (i + 1) ls)
    ∙ stored-cons all (of_parts (parts_of l)) (out_lines p (i + 1) ls)
    ∙ ap₂ (λ (x y : List ℕ). x ++ y) (ap numbers_of (instruction-parsed all l r.0 r.1 f.0)) (stored_out all p (i + 1) ls r.2 f.1)

-- ---- each target has a label

abbrev Named : List Line → List Line → Type 0
Named p [] = Unit {0}
Named p (l ∷ ls) = ((k : ℕ) → l.target ≡ ToLine k → is_target p k ≡ true) × Named p ls

or_right : (x y : Bool) → y ≡ true → (x || y) ≡ true
or_right true y e = refl
or_right false y e = e

named_more : (x : Line) (p ls : List Line) → Named p ls → Named (x ∷ p) ls
unfolding is_target
named_more x p [] h = tt
named_more x p (l ∷ ls) h = ((λ k e. or_right (goes_to k x.target) (is_target p k) (h.0 k e)), named_more x p ls h.1)

named-first : (l : Line) (ls : List Line) (k : ℕ) → l.target ≡ ToLine k → is_target (l ∷ ls) k ≡ true
unfolding is_target
named-first l ls k e = rw (e, eq-eqb k k refl)

named_all : (p : List Line) → Named p p
named_all [] = tt
named_all (l ∷ ls) = (named-first l ls, named_more l ls ls (named_all ls))

not_above : (n k : ℕ) (t : Target) → T (not (is_above n t)) → t ≡ ToLine k → k ≤ n
unfolding is_above
not_above n k NoTarget h e = let z : ◌≡◌ {A = ℕ} 0 1 = cc in absurd (omega arith)
not_above n k (ToLine j) h e = let q : j ≡ k = cc in omega (arith, nltb→le n j h)

target_in_lem : (n : ℕ) (l : Line) (k : ℕ) → mark_fault n l ≡ 0 → l.target ≡ ToLine k → k ≤ n
unfolding holds16
target_in_lem n l k e q = not_above n k l.target (clear n l e).c16 q

aimed : (n : ℕ) (p ls : List Line) → n < max_labels → Named p ls → AllRight n ls → Aimed (labels_below p (suc n)) ls
unfolding AllRight
aimed n p [] h g r = tt
aimed n p (l ∷ ls) h g r = (
  (λ k e. let m : k ≤ n = target_in_lem n l k r.1 e in find_target p (suc n) k (omega arith) (omega arith) (g.0 k e)),
  aimed n p ls h g.1 r.2,
)

-- ---- the whole

-- what is seen of a program's text
pub published-seen : (p : List Line) → length p ≤ max_accepted → seen_from none_seen (text_lines (published p)) ≡ seen (length p) (labels_below p (suc (length p)))
unfolding published labels_below
published-seen p h =
    let z : 0 + length p ≡ length p = omega arith in
    ap (seen_from none_seen) (text_out p 0 p) ∙ seen_out p 0 p (omega arith) ∙ ap (λ (k : ℕ). seen k (labels_below p (suc k))) z

module _ (p : List Line) (A : Accepted p) where
  abbrev pub all : Seen
  all = seen (length p) (labels_below p (suc (length p)))

  found : Aimed (labels_below p (suc (length p))) p
  found = let r = accepted_right p A in aimed (length p) p p (omega (arith, r.few)) (named_all p) r.right

  pub published-right : first_fault all 0 none_seen (text_lines (published p)) ≡ counted (length p)
  unfolding published labels_below
  published-right =
      let r = accepted_right p A in
      let z : 0 + length p ≡ length p = omega arith in
      ap (first_fault all 0 none_seen) (text_out p 0 p) ∙ fault_out all p 0 0 p (omega (arith, r.few)) r.right found ∙ ap counted z

  pub published-stored : stored_lines all (text_lines (published p)) ≡ flat_map codes p
  unfolding published
  published-stored = ap (stored_lines all) (text_out p 0 p) ∙ stored_out all p 0 p (accepted_right p A).right found
