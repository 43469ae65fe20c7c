-- A map's table: what it is checked for, and how it is filled, one nibble after the other.
-- Assumes nothing.
use mathlib.Core.Path.{◌≡◌, refl, ap, ◌∙◌}
use mathlib.Core.Bool.{Bool, true, false, cond}
use mathlib.Core.List.{List, [], ◌∷◌}
use Prim.Native.Nat.{ℕ, zero, suc, ◌+◌, ◌<◌, ◌≤◌}
use native.Mathlib.Decide.{ℕ_discrete}
use native.Mathlib.Omega.{arith}
use native.Mathlib.Numerals.{add-one}
use borrow.Author.Tests.{eq-eqb, ne_eqb, lt-ltb, le-ltb, ltb-false}
use lib.Dec.{ltb}
use lib.ListN.{length, get_or, set, drop, replicate, drop_of_length-le, length-set}
use lib.Seq.{get_or-set_same, get_or-set_other, drop-cons}
use Rattle.model.proofs.TestLaws.{below}
use Rattle.model.specs.Answers.{counted, refused, outcome}
use Rattle.nibble.specs.Nibbles.{codeword, decoded, entries, map_entry, map_table, first_above, map_outcome}
use Rattle.nibble.proofs.CodeLaws.{coding, only_codeword}
use Rattle.nibble.proofs.TableLaws.{entry_at, all_entries, entries-length}

-- ---- the first value above 15: what is left decides as the whole does

pub above_next : (m : List ℕ) (i : ℕ) → i < length m → get_or m i 0 ≤ 15 → (i + 1) + first_above (drop (i + 1) m) ≡ i + first_above (drop i m)
unfolding first_above
above_next m i h g = rw (add-one i, drop-cons m i 0 h, le-ltb 15 (get_or m i 0) g) (omega arith)

pub above_here : (m : List ℕ) (i : ℕ) → i < length m → 15 < get_or m i 0 → i ≡ i + first_above (drop i m)
unfolding first_above
above_here m i h g = rw (drop-cons m i 0 h, lt-ltb 15 (get_or m i 0) g) (omega arith)

pub above_end : (m : List ℕ) (i : ℕ) → length m ≤ i → i ≡ i + first_above (drop i m)
unfolding first_above
above_end m i h = rw (drop_of_length-le m h) (omega arith)

-- a map without such a value
pub none_above : (m : List ℕ) → length m ≤ first_above m → (k : ℕ) → get_or m k 0 ≤ 15
unfolding first_above
none_above [] h k = omega arith
none_above (v ∷ vs) h k = go (ltb 15 v) refl h (λ g. none_above vs g)
  where
    by : (k : ℕ) → v ≤ 15 → ((k : ℕ) → get_or vs k 0 ≤ 15) → get_or (v ∷ vs) k 0 ≤ 15
    by zero e ih = e
    by (suc k) e ih = ih k

    go : (t : Bool) → ltb 15 v ≡ t → suc (length vs) ≤ cond t 0 (suc (first_above vs)) → (length vs ≤ first_above vs → (k : ℕ) → get_or vs k 0 ≤ 15) → get_or (v ∷ vs) k 0 ≤ 15
    go true e g ih = absurd (omega arith)
    go false e g ih = by k (ltb-false 15 v e) (ih (omega arith))

-- ---- filling: the table of the nibbles below i alone

unfoldable pub filled_entry : List ℕ → ℕ → ℕ → ℕ
unfolding codeword decoded
filled_entry m i x = cond (ltb (decoded x) i) (codeword (get_or m (decoded x) 0)) 0

abbrev pub filled : List ℕ → ℕ → List ℕ
filled m i = entries (filled_entry m i) 0 64

-- before the first nibble all entries are 0, after the last it is the map's table
pub none_filled : (m : List ℕ) → replicate 64 0 ≡ filled m 0
unfolding entries filled_entry
none_filled m = refl

all_filled : (m : List ℕ) → filled m 16 ≡ map_table m
unfolding filled_entry map_entry
all_filled m = refl

-- an entry that is not the codeword of i is the same with i
other_entry : (m : List ℕ) (i x : ℕ) → i < 16 → (x ≡ codeword i → ⊥) → filled_entry m i x ≡ filled_entry m (i + 1) x
unfolding filled_entry
other_entry m i x h e =
    below (decoded x) i (λ g. rw (lt-ltb (decoded x) i g, lt-ltb (decoded x) (i + 1) (omega arith)))
    (λ g. below (decoded x) (i + 1) (λ l. absurd (e (only_codeword x i h (omega arith))))
    (λ l. rw (le-ltb (decoded x) i g, le-ltb (decoded x) (i + 1) l)))

own_entry : (m : List ℕ) (i : ℕ) → i < 16 → codeword (get_or m i 0) ≡ filled_entry m (i + 1) (codeword i)
unfolding filled_entry
own_entry m i h = rw ((coding i h).back, lt-ltb i (i + 1) (omega arith))

fill_next : (m : List ℕ) (i : ℕ) → i < 16 → set (filled m i) (codeword i) (codeword (get_or m i 0)) ≡ filled m (i + 1)
fill_next m i h =
    let long = entries-length (filled_entry m i) 0 64 in
    all_entries (filled_entry m (i + 1)) 64 _ (length-set (filled m i) (codeword i) _ ∙ long) (λ k g. at k g (ℕ_discrete k (codeword i)))
  where
    at : (k : ℕ) → k < 64 → Dec (k ≡ codeword i) → get_or (set (filled m i) (codeword i) (codeword (get_or m i 0))) k 0 ≡ filled_entry m (i + 1) k
    at k g (yes e) = rw e (get_or-set_same (filled m i) (codeword i) _ 0 (omega (arith, (coding i h).six_bits, entries-length (filled_entry m i) 0 64)) ∙ own_entry m i h)
    at k g (no n) = get_or-set_other (filled m i) (codeword i) k _ 0 n ∙ entry_at (filled_entry m i) 64 k g ∙ other_entry m i k h n

-- one turn of the loop, and its end; what was called answers c and v
pub fill_turn : (m t : List ℕ) (i c v : ℕ) → t ≡ filled m i → i < 16 → c ≡ codeword i → v ≡ codeword (get_or m i 0) → set t c v ≡ filled m (i + 1)
fill_turn m t i c v e h p q = rw (e, p, q) (fill_next m i h)

pub fill_end : (m t : List ℕ) (i : ℕ) → t ≡ filled m i → i ≡ 16 → t ≡ map_table m
fill_end m t i e q = e ∙ ap (filled m) q ∙ all_filled m

-- ---- the answers of `map_table`

pub not_sixteen : (m : List ℕ) → (length m ≡ 16 → ⊥) → outcome (refused 27 0) (replicate 64 0 ∷ []) ≡ map_outcome m
unfolding map_outcome
not_sixteen m h = rw (ne_eqb _ _ h)

pub value_above : (m : List ℕ) (i : ℕ) → length m ≡ 16 → i ≡ first_above m → i < 16 → outcome (refused 27 i) (replicate 64 0 ∷ []) ≡ map_outcome m
unfolding map_outcome
value_above m i e q h = rw (q, eq-eqb _ _ e, lt-ltb (first_above m) 16 (omega arith))

pub map-right : (m t : List ℕ) (i : ℕ) → length m ≡ 16 → i ≡ first_above m → 16 ≤ i → t ≡ map_table m → outcome (counted 64) (t ∷ []) ≡ map_outcome m
unfolding map_outcome
map-right m t i e q h w = rw (eq-eqb _ _ e, le-ltb (first_above m) 16 (omega arith), w)
