-- What is shown of request 10. Each claim stands alone: what it assumes is written in it.
-- Assumes nothing.
use Rattle.std.specs.Prelude.{◌≡◌, Bool, true, false, ◌&&◌, List, [], ◌∷◌, ℕ, ◌+◌, ◌*◌, ◌<◌, ◌≤◌, length, get_or, replicate}
use Rattle.std.specs.Int.Bits.{bit_xor}
use Rattle.std.specs.Int.Count.{ones}
use Rattle.model.specs.Answers.{Report, done, counted, refused, outcome}
use Rattle.nibble.specs.Nibbles.{codeword, decoded, in_code, xor_table, map_table, result_of, pair_result, map_outcome}

-- ---- the code: six bits with three ones; coding and decoding are inverse on 0 to 15

pub record Coded (n : ℕ) : Type 0 where
  pub six_bits : codeword n < 64
  pub three_ones : ones (codeword n) ≡ 3
  pub back : decoded (codeword n) ≡ n

abbrev pub Coding : Type 0
Coding = (n : ℕ) → n < 16 → Coded n

-- a word is a codeword, or outside the code, as is any above 63
pub record Decoded (c : ℕ) : Type 0 where
  pub inside : in_code c ≡ true → codeword (decoded c) ≡ c
  pub outside : in_code c ≡ false → decoded c ≡ 255
  pub above63 : 63 < c → in_code c ≡ false

abbrev pub Decoding : Type 0
Decoding = (c : ℕ) → Decoded c

-- ---- the entries in the paper's words: C(a xor b) at 64 × C(a) + C(b), 0 with a wrong half

pub record XorEntries : Type 0 where
  pub long : length xor_table ≡ 4096
  pub right : (a b : ℕ) → a < 16 → b < 16 → get_or xor_table (64 * codeword a + codeword b) 0 ≡ codeword (bit_xor a b)
  pub wrong : (x y : ℕ) → x < 64 → y < 64 → (in_code x && in_code y) ≡ false → get_or xor_table (64 * x + y) 0 ≡ 0

-- C(m(a)) at C(a), 0 in unused entries
pub record MapEntries (m : List ℕ) : Type 0 where
  pub long : length (map_table m) ≡ 64
  pub used : (a : ℕ) → a < 16 → get_or (map_table m) (codeword a) 0 ≡ codeword (get_or m a 0)
  pub unused : (x : ℕ) → x < 64 → in_code x ≡ false → get_or (map_table m) x 0 ≡ 0

-- which maps have a table, and what is refused
pub record Maps (m : List ℕ) : Type 0 where
  pub right : length m ≡ 16 → ((i : ℕ) → i < 16 → get_or m i 0 ≤ 15) → map_outcome m ≡ outcome (counted 64) (map_table m ∷ [])
  pub other_length : (length m ≡ 16 → ⊥) → map_outcome m ≡ outcome (refused 27 0) (replicate 64 0 ∷ [])
  pub value_above : length m ≡ 16 → (i : ℕ) → i < 16 → 15 < get_or m i 0 → ((j : ℕ) → j < i → get_or m j 0 ≤ 15)
      → map_outcome m ≡ outcome (refused 27 i) (replicate 64 0 ∷ [])

-- ---- a table's result is 0 exactly for an operand outside the code, any above 63 included, else it has three ones, and it decodes to the
-- right nibble n

pub record Result (inside : Bool) (n r : ℕ) : Type 0 where
  pub outside : inside ≡ false → r ≡ 0
  pub exactly : r ≡ 0 → inside ≡ false
  pub three_ones : inside ≡ true → ones r ≡ 3
  pub nibble : inside ≡ true → decoded r ≡ n

-- r is the exclusive-or table's result for two operands
abbrev pub XorResult : ℕ → ℕ → ℕ → Type 0
XorResult x y r = Result (in_code x && in_code y) (bit_xor (decoded x) (decoded y)) r

abbrev pub XorResults : Type 0
XorResults = (x y : ℕ) → XorResult x y (pair_result xor_table x y)

-- r is the result of a map's table for an operand, after this answer
pub record MapResult (m : List ℕ) (answer : Report) (x r : ℕ) : Type 0 where
  pub made : (vs : List ℕ) → answer ≡ done vs → Result (in_code x) (get_or m (decoded x) 0) r
  pub turned_down : (k i : ℕ) → answer ≡ refused k i → r ≡ 0

abbrev pub MapResults : Type 0
MapResults = (m t : List ℕ) (answer : Report) (x : ℕ) → outcome answer (t ∷ []) ≡ map_outcome m → MapResult m answer x (result_of t x)

-- ---- what the code is for: whichever two codewords are combined, the numbers of the look-up have the same Hamming weights

pub record Weights (a b : ℕ) : Type 0 where
  -- of the operands
  pub first : ones (codeword a) ≡ 3
  pub second : ones (codeword b) ≡ 3
  -- of the index
  pub index : ones (64 * codeword a + codeword b) ≡ 6
  -- of the result
  pub result : ones (pair_result xor_table (codeword a) (codeword b)) ≡ 3

abbrev pub SameWeights : Type 0
SameWeights = (a b : ℕ) → a < 16 → b < 16 → Weights a b
