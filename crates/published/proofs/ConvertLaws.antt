-- The second pass: what is left to check always gives the answer, and what is left to store the stored lines. Assumes nothing.
use Prim.Native.Nat.{ℕ, suc, ◌+◌, ◌*◌, ◌%◌, ◌≤◌, ◌<◌}
use mathlib.Core.Bool.{Bool, true, false, cond, ◌&&◌, ◌||◌}
use mathlib.Core.Path.{◌≡◌, refl, sym, ap, ap₂, subst, ◌∙◌}
use mathlib.Core.List.{List, [], ◌∷◌, ◌++◌}
use native.Mathlib.Omega.{arith}
use native.Mathlib.Nat.{zero-add}
use lib.ListN.{length, drop, set, length-set}
use lib.Seq.{sets, length-sets}
use lib.Dec.{ltb, eqb}
use borrow.Author.Tests.{eq-eqb, ne_eqb}
use Rattle.model.specs.Limits.{line_width, max_accepted}
use Rattle.model.specs.Answers.{number_or_0, report, counted, refused}
use Rattle.model.specs.Stored.{Parsed, numbers, wrong, fault}
use Rattle.model.specs.Text.{newline, up_to}
use Rattle.model.proofs.StoredLaws.{never_counted}
use Rattle.text.specs.Lines.{kept}
use Rattle.model.proofs.Overwrites.{sets_append}
use Rattle.text.proofs.StoreLaws.{kept_fits}
use Rattle.std.specs.Prelude.{Result, Ok, Err}
use Rattle.model.specs.declared.Refusal.{Refusal}
use Rattle.published.specs.declared.labels.Entry.{Entry}
use Rattle.published.specs.declared.instructions.Instruction.{Instruction}
use Rattle.std.specs.Prelude.{Option as Broken}
use Rattle.std.specs.Result.{result_err}
use Rattle.model.specs.declared.Condition.{Condition}
use Rattle.published.specs.Published.{words, TextLine, text_lines, bit, instruction, is_counted, Label, label_wrong, Seen, none_seen, after, seen_from, instruction_parsed, parsed_line, holds24, holds25, line_fault, first_fault, take_in_check}
use Rattle.published.specs.Reading.{trimmed, code_of, body_of}
use Rattle.published.specs.Table.{entries, Low}
use Rattle.published.specs.Passes.{target_number, meaning, clean_from, fault_by, kept_of, kept_lines, Collected, Kept, Converts}
use Rattle.published.proofs.SeenLaws.{fault-cons, fault-nil, kept_cons, kept-nil, clean_cons, low-seen, few-after}
use Rattle.published.proofs.TakenLines.{LineRead, line, no_line, line_read, six_numbers_lem}
use Rattle.published.proofs.TextLaws.{front_of, front_at, instruction_is, code-trimmed, counted_is, lines_end, next_near}

-- ---- one instruction stored

-- the condition that an instruction breaks is the fault of what it means
pub broken-fault : (r : Result Instruction Condition) (o : Broken Condition) → o ≡ result_err r → number_or_0 o ≡ fault (meaning r)
broken-fault (Ok l) o e = rw e
broken-fault (Err c) o e = rw e

pub kept_none : (old : List ℕ) (n : ℕ) (r : Result Instruction Condition) (k : Condition) → r ≡ Err k → Kept old old n n (kept_of (meaning r))
kept_none old n r k e = rw e (record { bytes = refl; after = omega arith })

pub kept_some : (old new : List ℕ) (n : ℕ) (r : Result Instruction Condition) (l : Instruction) (t : ℕ) → r ≡ Ok l → t ≡ target_number l.target % 65536
    → new ≡ kept old n (l.mark ∷ l.opcode ∷ l.destination ∷ l.first ∷ l.second ∷ t ∷ []) → line_width * n + length (kept_of (meaning r)) ≤ length old → Kept old new n (n + 1) (kept_of (meaning r))
kept_some old new n r l t e q p h =
    let six : length (kept_of (meaning r)) ≡ 6 = rw e in
    let ns : kept_of (meaning r) ≡ l.mark ∷ l.opcode ∷ l.destination ∷ l.first ∷ l.second ∷ t ∷ [] = rw (e, q) in
    record { bytes = p ∙ kept_fits old n _ (omega arith) ∙ ap (sets old (line_width * n)) (sym ns); after = omega arith }

-- ---- line after line

module _ (text : List ℕ) where
  abbrev all : Seen
  all = seen_from none_seen (text_lines text)

  pub record Converting (old store : List ℕ) (at i n clean : ℕ) : Type 0 where
    pub seen : Seen
    pub count : seen.count ≡ n
    pub few : n ≤ max_accepted
    pub lines : i ≤ at
    pub near : at ≤ length text + 1
    pub long : length store ≡ length old
    pub left : first_fault all i seen (text_lines (drop at text)) ≡ first_fault all 0 none_seen (text_lines text)
    pub clear : clean ≡ i + clean_from seen (text_lines (drop at text))
    pub stored : sets store (line_width * n) (kept_lines all (text_lines (drop at text))) ≡ sets old 0 (kept_lines all (text_lines text))

  pub converting_none : (old : List ℕ) (clean : ℕ) → clean ≡ clean_from none_seen (text_lines text) → Converting old old 0 0 0 clean
  converting_none old clean e =
      record { seen = none_seen; count = refl; few = omega arith; lines = omega arith; near = omega arith; long = refl; left = refl; clear = e ∙ sym (zero-add _); stored = refl }

  module _ (old store : List ℕ) (at i n clean : ℕ) (C : Converting old store at i n clean) (h : at < length text) (code : List ℕ) (e : code ≡ code_of (drop at text)) (ended : Bool) (f : ended ≡ ltb (length (up_to newline (drop at text))) (length (drop at text))) where
    abbrev front : TextLine
    front = front_of (drop at text)

    abbrev later : List TextLine
    later = text_lines (drop (at + length (up_to newline (drop at text)) + 1) text)

    -- what its instruction is read as
    abbrev read : Parsed
    read = instruction_parsed all.count all.labels (words (body_of code))

    pub cut : trimmed code ≡ code
    cut = ap trimmed e ∙ code-trimmed (drop at text) ∙ sym e

    counts_is : is_counted front.parts ≡ ltb 0 (length (body_of code))
    counts_is = ap (λ (x : List ℕ). is_counted (words x)) (sym e) ∙ counted_is code cut

    read_is : parsed_line all front ≡ read
    read_is = ap (λ (x : List ℕ). instruction_parsed all.count all.labels (instruction (words x))) (sym e) ∙ ap (instruction_parsed all.count all.labels) (instruction_is code cut)

    clean_is : clean ≡ i + cond (label_wrong C.seen.labels front.parts) 0 (suc (clean_from (after C.seen front) later))
    clean_is = C.clear ∙ ap (λ (x : ℕ). i + x) (ap (clean_from C.seen) (front_at text at h) ∙ clean_cons C.seen front later)

    wrong_is : label_wrong C.seen.labels front.parts ≡ eqb i clean
    wrong_is = by (label_wrong C.seen.labels front.parts) clean_is
      where
        by : (t : Bool) → clean ≡ i + cond t 0 (suc (clean_from (after C.seen front) later)) → t ≡ eqb i clean
        by true q = sym (eq-eqb i clean (omega arith))
        by false q = sym (ne_eqb i clean (λ z. omega arith))

    pub fault_is : line_fault all C.seen front ≡ fault_by (eqb i clean) (ltb 0 (length (body_of code))) (fault read) n ended
    unfolding line_fault holds24 holds25
    fault_is = rw (wrong_is, counts_is, read_is, C.count, f)

    -- as the code tells it
    pub fault-told : (b : List ℕ) (x : Parsed) (k r : ℕ) → b ≡ body_of code → x ≡ read → k ≡ fault x → r ≡ fault_by (eqb i clean) (ltb 0 (length b)) k n ended → r ≡ line_fault all C.seen front
    fault-told b x k r p q t e = e ∙ ap₂ (λ (c : Bool) (j : ℕ). fault_by (eqb i clean) c j n ended) (ap (λ (l : List ℕ). ltb 0 (length l)) p) (t ∙ ap fault q) ∙ sym fault_is

    answer_is : first_fault all i C.seen (text_lines (drop at text)) ≡ cond (eqb (line_fault all C.seen front) 0) (first_fault all (i + 1) (after C.seen front) later) (refused (line_fault all C.seen front) i)
    answer_is = ap (first_fault all i C.seen) (front_at text at h) ∙ fault-cons all i C.seen front later

    pub refuses : (k : ℕ) → k ≡ line_fault all C.seen front → (k ≡ 0 → ⊥) → refused k i ≡ take_in_check text
    unfolding take_in_check
    refuses k q z = ap (λ (j : ℕ). refused j i) q ∙ sym (answer_is ∙ rw (ne_eqb (line_fault all C.seen front) 0 (λ y. z (q ∙ y)))) ∙ C.left

    module _ (ok : line_fault all C.seen front ≡ 0) where
      -- a counted line has six numbers
      long_is : length (kept_of read) ≡ line_width * bit (is_counted front.parts)
      long_is = by (line_read all C.seen front ok)
        where
          set_long : (ns : List ℕ) (x : ℕ) → length ns ≡ 6 → length (set ns 5 x) ≡ 6
          set_long ns x q = length-set ns 5 x ∙ q

          by : LineRead (parsed_line all front) (is_counted front.parts) → length (kept_of read) ≡ line_width * bit (is_counted front.parts)
          by (line ns p c) =
              let q : read ≡ numbers ns = sym read_is ∙ p in
              rw (q, c) (set_long ns _ (six_numbers_lem all.count all.labels (words (body_of code)) ns q))
          by (no_line p c) = let q : read ≡ wrong 25 = sym read_is ∙ p in rw (q, c)

      few_more : (after C.seen front).count ≤ max_accepted
      few_more = few-after all C.seen front ok (omega (arith, C.count, C.few))

      count_more : (after C.seen front).count ≡ n + bit (is_counted front.parts)
      unfolding after
      count_more = ap (λ (k : ℕ). k + bit (is_counted front.parts)) C.count

      pub room_is : line_width * max_accepted ≤ length old → line_width * n + length (kept_of read) ≤ length store
      room_is r = omega (arith, long_is, few_more, count_more, C.long)

      not_wrong : label_wrong C.seen.labels front.parts ≡ false
      unfolding line_fault holds24
      not_wrong = by (label_wrong C.seen.labels front.parts) ok
        where
          by : (t : Bool) → ◌≡◌ {A = ℕ} (cond (t || is_counted front.parts && eqb (fault (parsed_line all front)) 24) 24 (cond (holds25 all C.seen front) 25 0)) 0 → t ≡ false
          by true q = absurd (omega arith)
          by false q = refl

      pub converting_next : (x : Parsed) → x ≡ read → {new : List ℕ} {k next : ℕ} → Kept store new n k (kept_of x) → next ≡ at + length (up_to newline (drop at text)) + 1 → Converting old new next (i + 1) k clean
      converting_next x q {new} {k} {next} kept-x p =
          let K : Kept store new n k (kept_of read) = subst (λ (y : Parsed). Kept store new n k (kept_of y)) q kept-x in
          let joined : kept_lines all (text_lines (drop at text)) ≡ kept_of read ++ kept_lines all later = ap (kept_lines all) (front_at text at h) ∙ kept_cons all front later ∙ ap (λ (x : Parsed). kept_of x ++ kept_lines all later) read_is in
          record {
            seen = after C.seen front;
            count = omega (arith, count_more, long_is, K.after);
            few = omega (arith, few_more, count_more, long_is, K.after);
            lines = omega (arith, C.lines, p);
            near = omega (arith, next_near text at h, p);
            long = ap length K.bytes ∙ length-sets store (line_width * n) (kept_of read) ∙ C.long;
            left = rw p (sym (answer_is ∙ rw ok) ∙ C.left);
            clear = rw p (omega (arith, clean_is ∙ ap (λ (t : Bool). i + cond t 0 (suc (clean_from (after C.seen front) later))) not_wrong));
            stored = rw (p, K.after, K.bytes) (sets_append store (line_width * n) (kept_of read) (kept_lines all later)) ∙ ap (sets store (line_width * n)) (sym joined) ∙ C.stored;
          }

  module _ (old store : List ℕ) (at i n clean : ℕ) (C : Converting old store at i n clean) where
    pub converts : length text ≤ at → (r : Result ℕ (Refusal ℕ)) → report r ≡ counted n → Converts text old store r
    unfolding take_in_check
    converts h r e =
        let z = lines_end text at h in
        record {
          answer = e ∙ ap counted (sym C.count) ∙ sym (ap (first_fault all i C.seen) z ∙ fault-nil all i C.seen) ∙ C.left;
          stored = λ k q. ap (sets store (line_width * n)) (sym (ap (kept_lines all) z ∙ kept-nil all)) ∙ C.stored;
        }

    pub refused_converts : (r : Result ℕ (Refusal ℕ)) (k : ℕ) → report r ≡ refused k i → refused k i ≡ take_in_check text → Converts text old store r
    refused_converts r k e q = record { answer = e ∙ q; stored = λ j p. absurd (never_counted (sym e ∙ p)) }

-- what was read with the labels of the table
pub read_told : (text : List ℕ) (table : List Entry) (m : ℕ) (code b : List ℕ) (x : Parsed) → (seen_from none_seen (text_lines text)).labels ≡ entries text table m → b ≡ body_of code
    → x ≡ instruction_parsed (seen_from none_seen (text_lines text)).count (entries text table m) (words b)
    → x ≡ instruction_parsed (seen_from none_seen (text_lines text)).count (seen_from none_seen (text_lines text)).labels (words (body_of code))
read_told text table m code b x l p e = e ∙ ap₂ (λ (ls : List Label) (y : List ℕ). instruction_parsed (seen_from none_seen (text_lines text)).count ls (words y)) (sym l) p

-- what the first pass found is what is seen of the whole text
module _ (text heads : List ℕ) (table : List Entry) (labels clean : ℕ) (C : Collected text heads table labels clean) where
  pub all_counted : (seen_from none_seen (text_lines text)).count ≡ C.count
  all_counted = ap (λ (s : Seen). s.count) (sym C.seen)

  pub all_labels : (seen_from none_seen (text_lines text)).labels ≡ entries text table labels
  all_labels = ap (λ (s : Seen). s.labels) (sym C.seen)

  pub low_labels : Low (seen_from none_seen (text_lines text)).count (entries text table labels)
  low_labels = subst (Low (seen_from none_seen (text_lines text)).count) all_labels (low-seen none_seen (text_lines text) tt)
