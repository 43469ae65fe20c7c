-- What the two passes over a published text leave: labels and counts, then the stored lines. Assumes nothing.
use Rattle.std.specs.Prelude.{◌≡◌, Option, Some, None, Result, Ok, Err, Bool, cond, not, ◌&&◌, ◌||◌, ℕ, suc, ◌+◌, ◌*◌, ◌%◌, ◌≤◌, ltb, leb, eqb, length, get_or, set, take, drop}
use mathlib.Core.List.{List, [], ◌∷◌, flat_map}
use Rattle.std.proofs.lemmas.List.Edits.{sets}
use Rattle.model.specs.Limits.{line_width, max_accepted}
use Rattle.model.specs.Answers.{counted, number_of, report}
use Rattle.model.specs.Stored as stored
use Rattle.model.specs.declared.Condition.{Condition}
use Rattle.model.specs.declared.Refusal.{Refusal}
use Rattle.published.specs.declared.labels.Entry.{Entry}
use Rattle.published.specs.declared.labels.Labels.{Labels}
use Rattle.published.specs.declared.instructions.Instruction.{Instruction}
use Rattle.published.specs.Published.{Label, words, TextLine, Seen, none_seen, labels_after, after, seen_from, label_wrong, parsed_line, text_lines, take_in_check}
use Rattle.published.specs.Reading.{trimmed, label_size}
use Rattle.published.specs.Table.{entries, Linked}

-- ---- what the code's answers mean

-- the stored number of a target, 0 for none
abbrev pub target_number : Option ℕ → ℕ
target_number (Some n) = 1 + n
target_number None = 0

abbrev pub instruction_numbers : Instruction → List ℕ
instruction_numbers l = l.mark ∷ l.opcode ∷ l.destination ∷ l.first ∷ l.second ∷ target_number l.target ∷ []

abbrev pub meaning : Result Instruction Condition → stored.Parsed
meaning (Ok l) = stored.numbers (instruction_numbers l)
meaning (Err c) = stored.wrong (number_of c)

-- ---- the first pass

-- the labels that are kept, the last of them first
abbrev pub labels_of : Labels → List Label
labels_of l = entries l.text.now l.table l.count

-- what is seen of a text, as the code holds it
abbrev pub seen_in : List ℕ → List Entry → ℕ → ℕ → Seen
seen_in text table m n = record { count = n; labels = entries text table m }

-- how many lines stand before the first wrong label
unfoldable pub clean_from : Seen → List TextLine → ℕ
clean_from seen [] = 0
clean_from seen (l ∷ ls) = cond (label_wrong seen.labels l.parts) 0 (suc (clean_from (after seen l) ls))

-- the table after the label of w bytes that a line's parts begin with. A label that is not within the limits adds none
pub record Named (text : List ℕ) (old : List Entry) (heads : List ℕ) (table : List Entry) (m r w : ℕ) (parts : List (List ℕ)) (n : ℕ) : Type 0 where
  pub linked : Linked text heads table r
  pub labels : entries text table r ≡ labels_after (entries text old m) parts n
  pub wrong : label_wrong (entries text old m) parts ≡ ltb 0 w && eqb r m

-- the same of a line whose parts begin at a place of the text, however far they go
abbrev pub NamedAt : List ℕ → List Entry → List ℕ → List Entry → ℕ → ℕ → ℕ → ℕ → ℕ → Type 0
NamedAt text old heads table start m r w n =
    (size : ℕ) → w ≡ label_size (take size (drop start text)) → w ≤ length (take size (drop start text)) → trimmed (take size (drop start text)) ≡ take size (drop start text)
    → Named text old heads table m r w (words (take size (drop start text))) n

-- the labels of the whole text, how many lines it counts, and how many stand before the first wrong label
pub record Collected (text heads : List ℕ) (table : List Entry) (labels clean : ℕ) : Type 0 where
  pub linked : Linked text heads table labels
  pub count : ℕ
  pub seen : seen_in text table labels count ≡ seen_from none_seen (text_lines text)
  pub first_wrong : clean ≡ clean_from none_seen (text_lines text)

-- ---- the second pass

-- the condition that a line breaks, by what is known of it: a wrong label, whether it is counted, what its instruction breaks, how many lines are
-- counted before it, and whether a newline ends it
abbrev pub fault_by : Bool → Bool → ℕ → ℕ → Bool → ℕ
fault_by wrong counts k n ended = cond (wrong || (counts && eqb k 24)) 24 (cond (not ended || (counts && (leb max_accepted n || eqb k 25))) 25 0)

-- the numbers of a line as the store takes them, 16 bits each: a text of more than 65,534 lines, which is refused, may have a target beyond
abbrev pub kept_of : stored.Parsed → List ℕ
kept_of (stored.numbers ns) = set ns 5 (get_or ns 5 0 % 65536)
kept_of (stored.wrong k) = []

unfoldable pub kept_lines : Seen → List TextLine → List ℕ
kept_lines all ls = flat_map (λ l. kept_of (parsed_line all l)) ls

-- the numbers of a line, if any, stored as line n, and how many lines there are then
pub record Kept (old new : List ℕ) (n k : ℕ) (ns : List ℕ) : Type 0 where
  pub bytes : new ≡ sets old (line_width * n) ns
  pub after : line_width * k ≡ line_width * n + length ns

-- what the second pass answers, and the lines that it stores where nothing is refused
pub record Converts (text old new : List ℕ) (r : Result ℕ (Refusal ℕ)) : Type 0 where
  pub answer : report r ≡ take_in_check text
  pub stored : (n : ℕ) → report r ≡ counted n → new ≡ sets old 0 (kept_lines (seen_from none_seen (text_lines text)) (text_lines text))
