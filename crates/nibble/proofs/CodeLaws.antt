-- The code: what is finite is one test over the sixteen nibbles, or over the words of six bits.
-- Assumes nothing.
use mathlib.Core.Path.{◌≡◌, refl, sym, ap, ◌∙◌}
use mathlib.Core.Bool.{Bool, true, false, cond, ◌&&◌, false≢true}
use mathlib.Core.List.{List, [], ◌∷◌}
use Prim.Native.Nat.{ℕ, ◌+◌, ◌<◌}
use native.Mathlib.Omega.{arith}
use borrow.Author.Tests.{ne_eqb, lt-ltb, le-ltb}
use lib.Count.{ones}
use lib.Dec.{T, eqb, ltb, eqb→eq, ltb→lt}
use lib.ListN.{get_or-eq_default}
use Rattle.model.proofs.TestLaws.{and_both, all_below, all_below_lem, below}
use Rattle.nibble.specs.Nibbles.{codewords, codeword, nibble_from, decoded, in_code}
use Rattle.nibble.specs.Claims.{Coding, Decoding}

-- ---- coding

abbrev right : ℕ → Bool
right n = ltb (codeword n) 64 && (eqb (ones (codeword n)) 3 && eqb (decoded (codeword n)) n)

all_right : T (all_below right 16)
unfolding all_below codeword decoded ones
all_right = tt

pub coding : Coding
coding n h =
    let w = and_both (ltb (codeword n) 64) _ (all_below_lem right 16 n all_right h) in
    let v = and_both (eqb (ones (codeword n)) 3) (eqb (decoded (codeword n)) n) w.1 in
    record { six_bits = ltb→lt (codeword n) 64 w.0; three_ones = eqb→eq _ _ v.0; back = eqb→eq _ _ v.1 }

pub above_15 : (n : ℕ) → 15 < n → 0 ≡ codeword n
unfolding codeword
above_15 n h = sym (get_or-eq_default codewords 0 h)

-- C(n) has six bits, also above 15
pub six-bits : (n : ℕ) → codeword n < 64
six-bits n = below n 16 (λ h. (coding n h).six_bits) (λ h. let z = above_15 n (omega arith) in omega arith)

pub nibble_inside : (n : ℕ) → n < 16 → in_code (codeword n) ≡ true
nibble_inside n h = rw (coding n h).back (lt-ltb n 16 h)

-- ---- decoding

abbrev back : ℕ → Bool
back c = cond (in_code c) (eqb (codeword (decoded c)) c) (eqb (decoded c) 255)

all_back : T (all_below back 64)
unfolding all_below codeword decoded
all_back = tt

abbrev six_bits : List ℕ → Bool
six_bits [] = true
six_bits (w ∷ ws) = ltb w 64 && six_bits ws

not_among : (n : ℕ) (ws : List ℕ) (c : ℕ) → T (six_bits ws) → 63 < c → nibble_from n ws c ≡ 255
unfolding nibble_from
not_among n [] c t h = refl
not_among n (w ∷ ws) c t h =
    let p = and_both (ltb w 64) (six_bits ws) t in
    let l : w < 64 = ltb→lt w 64 p.0 in
    rw (ne_eqb c w (λ e. omega arith)) (not_among (n + 1) ws c p.1 h)

-- any word above 63 is outside the code
pub above_63 : (c : ℕ) → 63 < c → decoded c ≡ 255
unfolding decoded
above_63 c h = not_among 0 codewords c tt h

outside_63 : (c : ℕ) → 63 < c → in_code c ≡ false
outside_63 c h = rw (above_63 c h)

pub decoding : Decoding
decoding c =
    record {
      inside = λ e. below c 64 (λ h. eqb→eq (codeword (decoded c)) c (rw e at (all_below_lem back 64 c all_back h))) (λ h. absurd (false≢true (sym (outside_63 c h) ∙ e)));
      outside = λ e. below c 64 (λ h. eqb→eq (decoded c) 255 (rw e at (all_below_lem back 64 c all_back h))) (λ h. above_63 c h);
      above63 = λ h. outside_63 c h;
    }

-- a word whose nibble is n is its codeword
pub only_codeword : (c n : ℕ) → n < 16 → decoded c ≡ n → c ≡ codeword n
only_codeword c n h e = sym ((decoding c).inside (rw e (lt-ltb n 16 h))) ∙ ap codeword e

-- ---- there and back, of any word

pub coded_again : (n : ℕ) → decoded (codeword n) ≡ cond (ltb n 16) n 255
unfolding decoded
coded_again n = below n 16 (λ h. (coding n h).back ∙ rw (lt-ltb n 16 h)) (λ h. ap decoded (sym (above_15 n h)) ∙ rw (le-ltb n 16 h))

pub decoded_again : (c : ℕ) → codeword (decoded c) ≡ cond (in_code c) c 0
unfolding codeword
decoded_again c = go (in_code c) refl
  where
    go : (t : Bool) → in_code c ≡ t → codeword (decoded c) ≡ cond t c 0
    go true e = (decoding c).inside e
    go false e = ap codeword ((decoding c).outside e)
