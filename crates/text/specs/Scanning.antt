-- What the scans of a line find: a number that is spelled there, and where the text goes on. Assumes nothing.
use Rattle.std.specs.Prelude.{◌≡◌, List, [], ◌∷◌, ◌++◌, ℕ, ◌+◌, ◌-◌, ◌*◌, ◌/◌, ◌%◌, ◌≤◌, ◌<◌, length, drop}
use Rattle.std.proofs.lemmas.List.Edits.{sets}
use Rattle.model.specs.Stored.{operand_of, target_of, numbers, parsed_numbers, fault}
use Rattle.model.specs.Text.{comma, newline, past, decimal, spell_operand, spell_target, front_line}

-- a scan's answer: where it ended, and the number that it found; 0 where it found none
abbrev pub position_of : ℕ → ℕ
position_of r = r / 65536

abbrev pub number_of : ℕ → ℕ
number_of r = r % 65536

-- a spelling stands at a position, and the text goes on at the next
abbrev pub Stands : List ℕ → ℕ → List ℕ → ℕ → Type 0
Stands s at spelling next = drop at s ≡ spelling ++ drop next s

-- the number that was found is spelled there
abbrev pub Scanned : (ℕ → List ℕ) → List ℕ → ℕ → ℕ → Type 0
Scanned spell s at r = 0 < r → Stands s at (spell (number_of r)) (position_of r)

-- a decimal number below n, and more
pub record NumberThere (text : List ℕ) (n more : ℕ) (s : List ℕ) (k next : ℕ) : Type 0 where
  pub least : more ≤ k
  pub below : k < more + n
  pub digits : text ≡ decimal (k - more) ++ drop next s

abbrev pub Numbered : List ℕ → ℕ → ℕ → List ℕ → ℕ → Type 0
Numbered text n more s r = 0 < r → NumberThere text n more s (number_of r) (position_of r)

-- `rN+k` with k below w, and more
pub record BaseThere (w more : ℕ) (s : List ℕ) (at k next : ℕ) : Type 0 where
  pub base : ℕ
  pub offset : ℕ
  pub base_below : base < 32
  pub offset_below : offset < w
  pub number : k ≡ more + (w * base + offset)
  pub text : drop at s ≡ (114 ∷ (decimal base ++ (43 ∷ decimal offset))) ++ drop next s

abbrev pub Based : ℕ → ℕ → List ℕ → ℕ → ℕ → Type 0
Based w more s at r = 0 < r → BaseThere w more s at (number_of r) (position_of r)

-- a comma, a target, and the newline at the position that is found
pub record EndThere (s : List ℕ) (at k end : ℕ) : Type 0 where
  pub within : end < length s
  pub text : drop at s ≡ comma ∷ (spell_target (target_of k) ++ (newline ∷ drop (end + 1) s))

abbrev pub Ended : List ℕ → ℕ → ℕ → Type 0
Ended s at r = 0 < r → EndThere s at (number_of r) (position_of r)

-- the operands and the target of a correct line after mark and opcode, and the numbers of the line stored
pub record Rest (s : List ℕ) (m o : ℕ) (old new : List ℕ) (at bytes : ℕ) : Type 0 where
  pub destination : ℕ
  pub first : ℕ
  pub second : ℕ
  pub target : ℕ
  pub right : fault (parsed_numbers m o destination first second target) ≡ 0
  pub stored : new ≡ sets old at (m ∷ o ∷ destination ∷ first ∷ second ∷ target ∷ [])
  pub within : bytes ≤ length s
  pub text : drop 5 s ≡ comma ∷ (spell_operand (operand_of destination) ++ (comma ∷ (spell_operand (operand_of first)
      ++ (comma ∷ (spell_operand (operand_of second) ++ (comma ∷ (spell_target (target_of target) ++ (newline ∷ drop bytes s))))))))

abbrev pub Completed : List ℕ → ℕ → ℕ → List ℕ → List ℕ → ℕ → ℕ → Type 0
Completed s m o old new at r = (r ≡ 0 → new ≡ old) × (0 < r → Rest s m o old new at r)

-- the line at the front of a text stored, and the rest after it
pub record LineThere (text old new : List ℕ) (at bytes : ℕ) : Type 0 where
  pub line : List ℕ
  pub six : length line ≡ 6
  pub read : front_line text ≡ numbers line
  pub stored : new ≡ sets old at line
  pub rest : drop bytes text ≡ past newline text

abbrev pub Took : List ℕ → List ℕ → List ℕ → ℕ → ℕ → Type 0
Took text old new at r = (r ≡ 0 → new ≡ old) × (0 < r → LineThere text old new at r)
