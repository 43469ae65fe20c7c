-- 'Code, tables, macros', how the code's two bits lie, and request 04, the six layouts to choose from: the numbers that the code, the tables
-- and the macros are made of, in one record; the two numbers that name it, and condition 23.
-- Assumes nothing.
use Rattle.std.specs.Prelude.{Bool, true, false, cond, ◌&&◌, List, ℕ, zero, suc, ◌*◌, ◌^◌, T, ltb}
use Rattle.model.specs.declared.Layout.{Layout}
use Rattle.model.specs.Answers.{refused, Outcome, outcome}

-- one and zero are the codes of the bits 1 and 0; mask is both bits of a code; spaced says whether a bit lies between the two; orr and xor
-- are where the tables of orr and xor begin, counted from cell 256, where that of and begins

-- the layout of position p, with neighbouring bits (0) or spaced ones (1), and the tables of 16 × 2^p cells each
abbrev pub layout_of : ℕ → ℕ → Layout
layout_of p zero = record { one = 2 ^ p; zero = 2 * 2 ^ p; mask = 3 * 2 ^ p; spaced = false; orr = 16 * 2 ^ p; xor = 32 * 2 ^ p }
layout_of p (suc n) = record { one = 2 ^ p; zero = 4 * 2 ^ p; mask = 5 * 2 ^ p; spaced = true; orr = 16 * 2 ^ p; xor = 32 * 2 ^ p }

-- do two numbers name one of the six: a position of 0, 1 or 2, then 0 or 1
abbrev pub is_six : ℕ → ℕ → Bool
is_six p n = ltb p 3 && ltb n 2

-- one of the six
pub data Known : Layout → Type 0 where
  named : (p n : ℕ) → T (is_six p n) → Known (layout_of p n)

-- what comes of a call in the layout that two numbers name: 23 at line 0 where it is none of the six, before all else
abbrev pub in_layout : ℕ → ℕ → List (List ℕ) → (Layout → Outcome) → Outcome
in_layout p n stores call = cond (is_six p n) (call (layout_of p n)) (outcome (refused 23 0) stores)

-- the layout of document 01, in which the programs print: neighbours, the lowest two bits. Bit 1 is 01, bit 0 is 10, and the tables of 16
-- cells stand at 256, 272 and 288
abbrev pub neighbours : Layout
neighbours = record { one = 1; zero = 2; mask = 3; spaced = false; orr = 16; xor = 32 }
