-- 'Code, tables, macros', the code and the tables: every sensitive bit is stored as one of a layout's two codes, 01 or 10 where they are
-- the lowest two bits.
-- Assumes nothing.
use Rattle.std.specs.Prelude.{cond, ℕ, zero, suc, ◌+◌, ◌-◌, ◌*◌, eqb, ltb}
use Rattle.model.specs.declared.Mark.TheVariants.{Marked}
use Rattle.model.specs.declared.Layout.{Layout}
use Rattle.model.specs.declared.Opcode.{Opcode}
use Rattle.model.specs.declared.Opcode.TheVariants.{And, Orr, Xor}
use Rattle.model.specs.Step.{alu}

-- the code of a bit
unfoldable pub code : Layout → ℕ → ℕ
code L zero = L.zero
code L (suc n) = L.one

-- a table's index of two codes: 4 × the first + the second; 2 × the first + the second where the bits are spaced (request 04)
abbrev pub index : Layout → ℕ → ℕ → ℕ
index L a b = cond L.spaced 2 4 * a + b

-- a table's entry i: the code of a op b where i is the index of their codes, else 0. At position p codes are multiples of 2^p, so entries
-- stand 2^p apart
unfoldable pub entry : Layout → Opcode → ℕ → ℕ
unfolding code alu
entry L op i =
    cond (eqb i (index L (code L 0) (code L 0))) (code L (alu Marked op 0 0))
    (cond (eqb i (index L (code L 0) (code L 1))) (code L (alu Marked op 0 1))
    (cond (eqb i (index L (code L 1) (code L 0))) (code L (alu Marked op 1 0))
    (cond (eqb i (index L (code L 1) (code L 1))) (code L (alu Marked op 1 1))
    0)))

-- where the three tables begin, counted from cell 256
abbrev pub and_table : Layout → ℕ
and_table L = 0

abbrev pub orr_table : Layout → ℕ
orr_table L = L.orr

abbrev pub xor_table : Layout → ℕ
xor_table L = L.xor

-- where the codes of 0 and 1 stand, by which a public bit is coded (request 03): cells 496 and 497
abbrev pub code_table : ℕ
code_table = 240

-- the cells of a table: all three are as long as the first, which ends where the second begins
abbrev pub table_size : Layout → ℕ
table_size L = L.orr

-- what the table page holds at i, counted from cell 256
unfoldable pub page : Layout → ℕ → ℕ
unfolding entry
page L i =
    cond (ltb i (orr_table L)) (entry L And (i - and_table L))
    (cond (ltb i (xor_table L)) (entry L Orr (i - orr_table L))
    (cond (ltb i (xor_table L + table_size L)) (entry L Xor (i - xor_table L))
    (cond (eqb i code_table) (code L 0)
    (cond (eqb i (code_table + 1)) (code L 1)
    0))))
