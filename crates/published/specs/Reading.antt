-- The published text as the code walks it: blanks skipped, parts cut off, operands byte by byte. Laws of proofs/ show that this finds the parts
-- and the operands of the definitions. Assumes nothing.
use Rattle.std.specs.Prelude.{◌≡◌, cond, List, [], ◌∷◌, ℕ, ◌+◌, ◌-◌, ◌*◌, ltb, eqb, length, get_or, take, drop}
use Rattle.model.specs.Stored as stored
use Rattle.model.specs.Text.{newline, comma, up_to, past}
use Rattle.std.specs.Prelude.{Option as Field, Some, None}
use Rattle.text.specs.Fields.{read_number, read_direct}
use Rattle.published.specs.declared.lines.Place.{Place}
use Rattle.published.specs.Published.{is_blank, semicolon, is_label}

-- ---- parts

-- from the first byte that is no blank on
unfoldable pub trimmed : List ℕ → List ℕ
trimmed [] = []
trimmed (b ∷ s) = cond (is_blank b) (trimmed s) (b ∷ s)

-- the bytes before the first blank
unfoldable pub word_of : List ℕ → List ℕ
word_of [] = []
word_of (b ∷ s) = cond (is_blank b) [] (b ∷ word_of s)

-- what follows the first part
unfoldable pub next : List ℕ → List ℕ
next s = trimmed (drop (length (word_of s)) s)

-- how many of four parts are there, by what follows: nothing follows the last
abbrev pub parts_there : ℕ → ℕ → ℕ → ℕ → ℕ
parts_there a b c d = cond (eqb a 0) 0 (cond (eqb b 0) 1 (cond (eqb c 0) 2 (cond (eqb d 0) 3 4)))

-- ---- operands

-- offsets from 128 on are sensitive cells
abbrev pub pointed_at : ℕ → ℕ → Field ℕ
pointed_at b k = cond (ltb k 128) (Some (stored.publics + (128 * b + k))) (Some (stored.sensitives + (128 * b + (k - 128))))

abbrev pub pointed : Field ℕ → Field ℕ → Field ℕ
pointed (Some b) (Some k) = pointed_at b k
pointed (Some b) None = None
pointed None o = None

-- `rN,k`, or `rN` alone
unfoldable pub read_based : List ℕ → Field ℕ
read_based s =
    cond (eqb (get_or s 0 0) 114)
    (pointed (read_number 32 (up_to comma (drop 1 s)))
    (cond (eqb (length (up_to comma (drop 1 s))) (length (drop 1 s))) (Some 0) (read_number 256 (past comma (drop 1 s)))))
    None

-- all but `!` is read as in our line form
unfoldable pub read_part : List ℕ → Field ℕ
read_part s =
    cond (eqb (length s) 0) (Some 0)
    (cond (eqb (get_or s 0 0) 33) (read_based (drop 1 s))
    (read_direct (get_or s 0 0) (drop 1 s)))

-- ---- lines

-- what stands before a comment and the line's end
unfoldable pub uncommented : List ℕ → List ℕ
uncommented s = up_to semicolon (up_to newline s)

-- from a line's first part on
unfoldable pub code_of : List ℕ → List ℕ
code_of s = trimmed (uncommented s)

-- what stands after a label
unfoldable pub body_of : List ℕ → List ℕ
body_of s = cond (is_label (word_of s)) (next s) s

-- the bytes of a label in front, with its colon; 0 where there is none
abbrev pub label_size : List ℕ → ℕ
label_size s = cond (is_label (word_of s)) (length (word_of s)) 0

-- where the line that begins at a place stands
pub record Placed (text : List ℕ) (at : ℕ) (r : Place) : Type 0 where
  pub code : take r.size (drop r.start text) ≡ code_of (drop at text)
  pub past : r.next ≡ at + length (up_to newline (drop at text)) + 1
  pub end : r.ended ≡ ltb (length (up_to newline (drop at text))) (length (drop at text))
