-- A table that is made by a rule holds the rule at each entry; so a test of a whole constant table against its rule, computed once, is
-- carried to whichever entry is looked up.
-- Assumes nothing.
use mathlib.Core.Path.{◌≡◌, refl, sym, ap, ◌∙◌}
use mathlib.Core.List.{List}
use Prim.Native.Nat.{ℕ, zero, suc, ◌+◌, ◌*◌, ◌/◌, ◌%◌, ◌<◌}
use native.Mathlib.Nat.{zero-add, add-zero}
use native.Mathlib.Omega.{arith}
use borrow.Author.Tests.{lt-ltb, le-ltb}
use lib.ListN.{length, get_or}
use lib.Seq.{ext_get_or}
use Rattle.nibble.specs.Nibbles.{entries, xor_entry, xor_table, result_of, pair_result}

-- ---- entries by a rule

from : (f : ℕ → ℕ) (i n k : ℕ) → k < n → get_or (entries f i n) k 0 ≡ f (i + k)
unfolding entries
from f i zero k h = absurd (omega arith)
from f i (suc n) zero h = ap f (sym (add-zero i))
from f i (suc n) (suc k) h = let q : i + 1 + k ≡ i + suc k = omega arith in from f (i + 1) n k (omega arith) ∙ ap f q

pub entry_at : (f : ℕ → ℕ) (n k : ℕ) → k < n → get_or (entries f 0 n) k 0 ≡ f k
entry_at f n k h = from f 0 n k h ∙ ap f (zero-add k)

pub entries-length : (f : ℕ → ℕ) (i n : ℕ) → length (entries f i n) ≡ n
unfolding entries
entries-length f i zero = refl
entries-length f i (suc n) = ap suc (entries-length f (i + 1) n)

-- a list of n numbers, each by the rule, is the table
pub all_entries : (f : ℕ → ℕ) (n : ℕ) (l : List ℕ) → length l ≡ n → ((k : ℕ) → k < n → get_or l k 0 ≡ f k) → l ≡ entries f 0 n
all_entries f n l e h = ext_get_or 0 l (entries f 0 n) (e ∙ sym (entries-length f 0 n)) (λ k g. h k (omega arith) ∙ sym (entry_at f n k (omega arith)))

-- ---- the exclusive-or table: the entry of x and y stands at 64 × x + y

pub xor_at : (x y : ℕ) → x < 64 → y < 64 → get_or xor_table (64 * x + y) 0 ≡ xor_entry x y
xor_at x y h g =
    let q : (64 * x + y) / 64 ≡ x = omega arith in
    let r : (64 * x + y) % 64 ≡ y = omega arith in
    entry_at (λ k. xor_entry (k / 64) (k % 64)) 4096 (64 * x + y) (omega arith) ∙ rw (q, r)

-- ---- what is looked up, by whether the operands are words of six bits

pub past_63 : (t : List ℕ) (x : ℕ) → 63 < x → 0 ≡ result_of t x
past_63 t x h = rw (le-ltb x 64 h)

pub within_63 : (t : List ℕ) (x : ℕ) → x < 64 → get_or t x 0 ≡ result_of t x
within_63 t x h = rw (lt-ltb x 64 h)

pub first_past_63 : (t : List ℕ) (x y : ℕ) → 63 < x → 0 ≡ pair_result t x y
first_past_63 t x y h = rw (le-ltb x 64 h)

pub second_past_63 : (t : List ℕ) (x y : ℕ) → x < 64 → 63 < y → 0 ≡ pair_result t x y
second_past_63 t x y g h = rw (lt-ltb x 64 g, le-ltb y 64 h)

pub both_within_63 : (t : List ℕ) (x y : ℕ) → x < 64 → y < 64 → get_or t (64 * x + y) 0 ≡ pair_result t x y
both_within_63 t x y g h = rw (lt-ltb x 64 g, lt-ltb y 64 h)
