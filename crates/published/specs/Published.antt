-- 'The published spelling', request 08, in the order of its paragraph: the layout of a published text, its operands, the mark, a program sent
-- out, and a text taken in with what is refused. Assumes nothing.
use Rattle.std.specs.Prelude.{Bool, true, false, not, cond, ◌&&◌, ◌||◌, ℕ, ◌+◌, ◌-◌, ltb, leb, eqb, length, get_or, take, drop}
use mathlib.Core.List.{List, [], ◌∷◌, ◌++◌, map, flat_map}
use Rattle.std.proofs.Math.Option.{Option, none, some}
use Rattle.model.specs.declared.Operand.{Operand}
use Rattle.model.specs.declared.Operand.TheVariants.{Empty, Literal, Register, Cell, PublicCell, SensitiveCell, TableCell}
use Rattle.model.specs.declared.Target.{Target}
use Rattle.model.specs.declared.Target.TheVariants.{Empty as NoTarget, Line as ToLine}
use Rattle.model.specs.declared.Line.{Line}
use Rattle.model.specs.Limits.{max_accepted, max_lines}
use Rattle.model.specs.Answers.{Report, counted, refused, Outcome, and_then, unless_refused}
use Rattle.model.specs.Places.{kind_of, is_sensitive}
use Rattle.model.specs.Lines.{Filled, fills}
use Rattle.model.specs.Stored.{tables, opcode_of, operand_of, line_of, lines, Parsed, numbers, wrong, or_wrong, no_literal, fault}
use Rattle.model.specs.Text.{newline, comma, decimal, spell_opcode, same_bytes, spelled_from, opcode_field, up_to, count_of, Reading, reading, text_of, fitted}
use Rattle.model.specs.Marks.{mark_fault, mark_check}

-- ---- blanks are spaces and tabs, one or more between parts, any before and after, none inside; a `;` anywhere starts a comment; a line ends
-- with a newline

abbrev pub space : ℕ
space = 32

abbrev pub tab : ℕ
tab = 9

abbrev pub colon : ℕ
colon = 58

abbrev pub semicolon : ℕ
semicolon = 59

abbrev pub is_blank : ℕ → Bool
is_blank b = eqb b space || eqb b tab

-- a byte more at the front of the first piece
abbrev pub onto : ℕ → List (List ℕ) → List (List ℕ)
onto b [] = (b ∷ []) ∷ []
onto b (p ∷ ps) = (b ∷ p) ∷ ps

-- the lines of a text, each with the newline that ends it; what stands after the last newline, if anything does, is a line too
unfoldable pub cut_lines : List ℕ → List (List ℕ)
cut_lines [] = []
cut_lines (b ∷ s) = cond (eqb b newline) ((b ∷ []) ∷ cut_lines s) (onto b (cut_lines s))

-- what blanks part: a byte that is no blank stands in one part with the byte after it, unless that is a blank or there is none
unfoldable pub words : List ℕ → List (List ℕ)
words [] = []
words (b ∷ s) = cond (is_blank b) (words s) (cond (is_blank (get_or s 0 space)) ((b ∷ []) ∷ words s) (onto b (words s)))

-- a line of text: whether a newline ends it, and its parts before a comment
pub record TextLine : Type 0 where
  pub ended : Bool
  pub parts : List (List ℕ)

unfoldable pub text_line : List ℕ → TextLine
text_line line = record { ended = ltb 0 (count_of newline line); parts = words (up_to semicolon (up_to newline line)) }

unfoldable pub text_lines : List ℕ → List TextLine
text_lines text = map text_line (cut_lines text)

-- a first part that ends with a colon is a label
unfoldable pub is_label : List ℕ → Bool
is_label part = eqb (get_or part (length part - 1) 0) colon

abbrev pub labelled : List (List ℕ) → Bool
labelled parts = is_label (get_or parts 0 [])

abbrev pub label_name : List (List ℕ) → List ℕ
label_name parts = let part = get_or parts 0 [] in take (length part - 1) part

-- the parts of the instruction
abbrev pub instruction : List (List ℕ) → List (List ℕ)
instruction parts = cond (labelled parts) (drop 1 parts) parts

-- ---- in their form an indirect base is a register, offset 0 to 127 is our `!`, offset k from 128 to 255 is our `%` with k less 128, and a
-- missing offset is 0. As in our line form, a part is right exactly when it is the spelling of a number of its range

-- `!rN,k`
unfoldable pub based : ℕ → ℕ → List ℕ
based r k = 33 ∷ 114 ∷ (decimal r ++ (comma ∷ decimal k))

-- `#n`, `rN`, `@n` as in our line form; our `^` has no counterpart
unfoldable pub spell_published : Operand → List ℕ
spell_published Empty = []
spell_published (Literal n) = 35 ∷ decimal n
spell_published (Register n) = 114 ∷ decimal n
spell_published (Cell n) = 64 ∷ decimal n
spell_published (PublicCell r k) = based r k
spell_published (SensitiveCell r k) = based r (128 + k)
spell_published (TableCell r k) = []

-- `!rN` is `!rN,0`
unfoldable pub with_offset : List ℕ → List ℕ
with_offset part = cond (eqb (get_or part 0 0) 33 && eqb (count_of comma part) 0) (part ++ (comma ∷ 48 ∷ [])) part

-- the number of an operand, sought among those before the numbers of `^`; 0 for no part
unfoldable pub published_number : List ℕ → Option ℕ
published_number part = spelled_from (λ n. spell_published (operand_of n)) 0 tables (with_offset part)

-- ---- the mark is s, 1, exactly where the destination is sensitive

abbrev pub bit : Bool → ℕ
bit true = 1
bit false = 0

abbrev pub mark_for : ℕ → ℕ
mark_for d = bit (is_sensitive (kind_of (operand_of d)))

-- ---- going out, refusals 1 to 16 come first, parts stand one space apart, offsets are written, and each target used has its own line, as
-- `L5:`, before line 5 or at the end

-- a part after another; nothing for a field that is empty
abbrev pub spaced : List ℕ → List ℕ
spaced [] = []
spaced (b ∷ s) = space ∷ b ∷ s

-- `L5`
unfoldable pub line_name : ℕ → List ℕ
line_name n = 76 ∷ decimal n

unfoldable pub spell_target_name : Target → List ℕ
spell_target_name NoTarget = []
spell_target_name (ToLine t) = line_name t

unfoldable pub instruction_text : Line → List ℕ
instruction_text l =
    spell_opcode l.opcode ++ (spaced (spell_published l.destination) ++ (spaced (spell_published l.first)
    ++ (spaced (spell_published l.second) ++ spaced (spell_target_name l.target))))

abbrev pub goes_to : ℕ → Target → Bool
goes_to i NoTarget = false
goes_to i (ToLine t) = eqb t i

-- some line has the target i
unfoldable pub is_target : List Line → ℕ → Bool
is_target [] i = false
is_target (l ∷ ls) i = goes_to i l.target || is_target ls i

unfoldable pub label_line : Bool → ℕ → List ℕ
label_line true i = line_name i ++ (colon ∷ newline ∷ [])
label_line false i = []

-- the lines of program p from line i on
unfoldable pub published_from : List Line → ℕ → List Line → List ℕ
published_from p i [] = label_line (is_target p i) i
published_from p i (l ∷ ls) = label_line (is_target p i) i ++ (instruction_text l ++ (newline ∷ published_from p (i + 1) ls))

unfoldable pub published : List Line → List ℕ
published p = published_from p 0 p

-- our line form read, with room for every line, so that 8 never comes
unfoldable pub read_text : List ℕ → Reading
read_text text = reading max_lines 0 max_lines text

-- 1 to 7 as reading gives them, then 9 to 16 as the mark check does; else the count of lines
unfoldable pub send_out_check : List ℕ → Report
send_out_check text = and_then (read_text text).answer (mark_check (read_text text).stored)

unfoldable pub sent_out : List ℕ → List ℕ
sent_out text = published (lines (read_text text).stored)

-- then 17 fewer bytes than the published text has
unfoldable pub send_out_outcome : List ℕ → List ℕ → Outcome
send_out_outcome text out = unless_refused (send_out_check text) (out ∷ []) (fitted (sent_out text) out)

-- ---- a line without an instruction is not counted; a label there names the next counted line or the end

abbrev pub is_counted : List (List ℕ) → Bool
is_counted parts = ltb 0 (length (instruction parts))

-- a label, and the counted line, or the end, that it names
pub record Label : Type 0 where
  pub name : List ℕ
  pub line : ℕ

-- the line that the label of this name names
unfoldable pub find : List ℕ → List Label → Option ℕ
find name [] = none
find name (e ∷ es) = cond (same_bytes e.name name) (some e.line) (find name es)

abbrev pub is_missing : Option ℕ → Bool
is_missing none = true
is_missing (some n) = false

-- ---- labels have 1 to 16 letters or digits, at most 1,025 of them

abbrev pub is_alphanumeric : ℕ → Bool
is_alphanumeric b = (leb 48 b && leb b 57) || (leb 65 b && leb b 90) || (leb 97 b && leb b 122)

unfoldable pub all_alphanumeric : List ℕ → Bool
all_alphanumeric [] = true
all_alphanumeric (b ∷ s) = is_alphanumeric b && all_alphanumeric s

abbrev pub max_name : ℕ
max_name = 16

abbrev pub max_labels : ℕ
max_labels = 1025

unfoldable pub is_name : List ℕ → Bool
is_name s = ltb 0 (length s) && leb (length s) max_name && all_alphanumeric s

-- a label that is not double and within the limits, after others. Only such a label counts: it names a line, and is one of the 1,025
unfoldable pub is_within : List Label → List ℕ → Bool
is_within labels name = is_name name && is_missing (find name labels) && ltb (length labels) max_labels

-- what is seen of lines: how many are counted, and the labels that count, the last one first. A label within the limits counts though its line is bad
pub record Seen : Type 0 where
  pub count : ℕ
  pub labels : List Label

abbrev pub none_seen : Seen
none_seen = record { count = 0; labels = [] }

abbrev pub labels_after : List Label → List (List ℕ) → ℕ → List Label
labels_after labels parts n = cond (labelled parts && is_within labels (label_name parts)) (record { name = label_name parts; line = n } ∷ labels) labels

unfoldable pub after : Seen → TextLine → Seen
after seen l = record { count = seen.count + bit (is_counted l.parts); labels = labels_after seen.labels l.parts seen.count }

unfoldable pub seen_from : Seen → List TextLine → Seen
seen_from seen [] = seen
seen_from seen (l ∷ ls) = seen_from (after seen l) ls

-- ---- an instruction of a text with n counted lines: the numbers of its line, 24 a label missing, or 25

-- how many parts stand after an opcode that fills these fields
abbrev pub part_count : Filled → ℕ
part_count f = bit f.destination + bit f.first + bit f.second + bit f.target

-- the i-th part, for a field that is filled
abbrev pub filled_by : Bool → ℕ → List (List ℕ) → List ℕ
filled_by f i parts = cond f (get_or parts i []) []

-- a target: 25 where it is not of letters and digits, 24 where no label has this name
abbrev pub or_missing : Bool → List Label → List ℕ → (ℕ → Parsed) → Parsed
or_missing false labels name next = next 0
or_missing true labels name next = cond (all_alphanumeric name) (or_wrong 24 (find name labels) (λ line. next (1 + line))) (wrong 25)

-- 25 a failed mark check. (11 cannot hold, by the mark that is taken, nor can 16: a label names no line above n)
abbrev pub mark_checked : ℕ → ℕ → ℕ → ℕ → ℕ → ℕ → ℕ → Parsed
mark_checked n m o d a b t = cond (eqb (mark_fault n (line_of m o d a b t)) 0) (numbers (m ∷ o ∷ d ∷ a ∷ b ∷ t ∷ [])) (wrong 25)

-- the operands, then the mark check
unfoldable pub operands_parsed : ℕ → ℕ → List ℕ → List ℕ → List ℕ → ℕ → Parsed
operands_parsed n o destination first second t =
    or_wrong 25 (no_literal (published_number destination)) (λ d.
    or_wrong 25 (published_number first) (λ a.
    or_wrong 25 (published_number second) (λ b.
    mark_checked n (mark_for d) o d a b t)))

-- the parts after an opcode, in the order of the fields that it fills. A target counts only with a known opcode and its count of parts
unfoldable pub parts_parsed : ℕ → List Label → ℕ → Filled → List (List ℕ) → Parsed
parts_parsed n labels o f parts =
    let first = bit f.destination in
    let second = first + bit f.first in
    let target = second + bit f.second in
    cond (eqb (length parts) (part_count f))
    (or_missing f.target labels (filled_by f.target target parts) (λ t.
    operands_parsed n o (filled_by f.destination 0 parts) (filled_by f.first first parts) (filled_by f.second second parts) t))
    (wrong 25)

-- a line without an instruction has no numbers; as it is not counted, it is not asked whether it is wrong
unfoldable pub instruction_parsed : ℕ → List Label → List (List ℕ) → Parsed
instruction_parsed n labels [] = wrong 25
instruction_parsed n labels (o ∷ parts) = or_wrong 25 (opcode_field o).number (λ k. parts_parsed n labels k (fills (opcode_of k)) parts)

-- ---- refused: 24 a label missing, double (the later one) or beyond these limits; 25 anything else without counterpart. The lowest text line
-- goes first, 24 before 25. `all` is what is seen of the whole text, `seen` what is seen of the lines before

abbrev pub parsed_line : Seen → TextLine → Parsed
parsed_line all l = instruction_parsed all.count all.labels (instruction l.parts)

-- a label that is double or beyond the limits
abbrev pub label_wrong : List Label → List (List ℕ) → Bool
label_wrong labels parts = labelled parts && not (is_within labels (label_name parts))

unfoldable pub holds24 : Seen → Seen → TextLine → Bool
holds24 all seen l = label_wrong seen.labels l.parts || (is_counted l.parts && eqb (fault (parsed_line all l)) 24)

-- no newline, a 1,025th counted line or a later one, or an instruction without counterpart
unfoldable pub holds25 : Seen → Seen → TextLine → Bool
holds25 all seen l = not l.ended || (is_counted l.parts && (leb max_accepted seen.count || eqb (fault (parsed_line all l)) 25))

unfoldable pub line_fault : Seen → Seen → TextLine → ℕ
line_fault all seen l = cond (holds24 all seen l) 24 (cond (holds25 all seen l) 25 0)

-- the lowest text line that breaks a condition, counted from i; else the count of counted lines
unfoldable pub first_fault : Seen → ℕ → Seen → List TextLine → Report
first_fault all i seen [] = counted seen.count
first_fault all i seen (l ∷ ls) = cond (eqb (line_fault all seen l) 0) (first_fault all (i + 1) (after seen l) ls) (refused (line_fault all seen l) i)

unfoldable pub take_in_check : List ℕ → Report
take_in_check text = first_fault (seen_from none_seen (text_lines text)) 0 none_seen (text_lines text)

-- ---- the whole: the counted lines in our line form, then 17 fewer bytes than that text has

abbrev pub numbers_of : Parsed → List ℕ
numbers_of (numbers ns) = ns
numbers_of (wrong k) = []

-- the counted lines as stored lines
unfoldable pub stored_lines : Seen → List TextLine → List ℕ
stored_lines all ls = flat_map (λ l. numbers_of (parsed_line all l)) ls

unfoldable pub taken_in : List ℕ → List ℕ
taken_in text = text_of (stored_lines (seen_from none_seen (text_lines text)) (text_lines text))

unfoldable pub take_in_outcome : List ℕ → List ℕ → Outcome
take_in_outcome text out = unless_refused (take_in_check text) (out ∷ []) (fitted (taken_in text) out)
