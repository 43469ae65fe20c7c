-- Req 10, 'The nibble engine': the (3,6)-code of source 001, which writes a nibble as six bits, three of them ones, its exclusive-or table,
-- and a table for any map of nibbles.
-- Assumes nothing.
use Rattle.std.specs.Prelude.{Bool, cond, not, ◌&&◌, List, [], ◌∷◌, ℕ, zero, suc, ◌+◌, ◌*◌, ◌/◌, ◌%◌, ltb, eqb, length, get_or, replicate}
use Rattle.std.specs.Int.Bits.{bit_xor}
use Rattle.model.specs.Answers.{Report, done, counted, refused, Outcome, outcome}

-- ---- the code

-- C of 0 to 15
abbrev pub codewords : List ℕ
codewords = 7 ∷ 11 ∷ 13 ∷ 14 ∷ 19 ∷ 21 ∷ 22 ∷ 25 ∷ 26 ∷ 28 ∷ 35 ∷ 37 ∷ 38 ∷ 41 ∷ 42 ∷ 44 ∷ []

-- coding: C(n), 0 above 15
unfoldable pub codeword : ℕ → ℕ
codeword n = get_or codewords n 0

-- the nibble whose codeword is c, looked for among the codewords of n, n + 1 and so on; 255 where there is none
unfoldable pub nibble_from : ℕ → List ℕ → ℕ → ℕ
nibble_from n [] c = 255
nibble_from n (w ∷ ws) c = cond (eqb c w) n (nibble_from (n + 1) ws c)

-- decoding: 255 outside the code
unfoldable pub decoded : ℕ → ℕ
unfolding nibble_from
decoded c = nibble_from 0 codewords c

abbrev pub in_code : ℕ → Bool
in_code c = ltb (decoded c) 16

-- ---- the tables

-- n entries, each by the rule for its index, the first of them at index i
unfoldable pub entries : (ℕ → ℕ) → ℕ → ℕ → List ℕ
entries rule i zero = []
entries rule i (suc n) = rule i ∷ entries rule (i + 1) n

-- the exclusive-or table's entry for two halves: C(a xor b) for C(a) and C(b), 0 with a wrong half
unfoldable pub xor_entry : ℕ → ℕ → ℕ
unfolding codeword decoded
xor_entry x y = cond (in_code x && in_code y) (codeword (bit_xor (decoded x) (decoded y))) 0

-- 4,096 entries, that of x and y at 64 × x + y
abbrev pub xor_table : List ℕ
xor_table = entries (λ k. xor_entry (k / 64) (k % 64)) 0 4096

-- the entry of the table of a map of 16 values: C(m(a)) at C(a), 0 in unused entries
unfoldable pub map_entry : List ℕ → ℕ → ℕ
unfolding codeword decoded
map_entry m x = cond (in_code x) (codeword (get_or m (decoded x) 0)) 0

-- 64 entries
abbrev pub map_table : List ℕ → List ℕ
map_table m = entries (map_entry m) 0 64

-- ---- a table's result: the entry of an operand, 0 for any above 63

abbrev pub result_of : List ℕ → ℕ → ℕ
result_of t x = cond (ltb x 64) (get_or t x 0) 0

-- of two operands, 0 where either is above 63
abbrev pub pair_result : List ℕ → ℕ → ℕ → ℕ
pair_result t x y = cond (ltb x 64 && ltb y 64) (get_or t (64 * x + y) 0) 0

-- ---- a map's table, handed back by value

-- the index of the first value above 15, the length where there is none
unfoldable pub first_above : List ℕ → ℕ
first_above [] = 0
first_above (v ∷ vs) = cond (ltb 15 v) 0 (suc (first_above vs))

-- 27: a map not of 16 values, at index 0, else the first value above 15, at its index; success counts the table's entries
unfoldable pub map_check : List ℕ → Report
unfolding first_above
map_check m =
    cond (not (eqb (length m) 16)) (refused 27 0)
    (cond (ltb (first_above m) 16) (refused 27 (first_above m)) (counted 64))

-- a table handed back is 0 in all entries after a refusal
abbrev pub handed_back : Report → List ℕ → List ℕ
handed_back (done values) t = t
handed_back (refused number index) t = replicate 64 0

-- the answer, and the table in the place of a lent store
unfoldable pub map_outcome : List ℕ → Outcome
unfolding map_check entries map_entry
map_outcome m = outcome (map_check m) (handed_back (map_check m) (map_table m) ∷ [])
