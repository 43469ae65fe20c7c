-- The claims of request 10: a result is the codeword of a nibble, or 0, which is none.
-- Assumes nothing.
use mathlib.Core.Path.{◌≡◌, refl, sym, ap, ◌∙◌}
use mathlib.Core.Bool.{Bool, true, false, cond, not, ◌&&◌, false≢true}
use mathlib.Core.List.{List, [], ◌∷◌}
use Prim.Native.Nat.{ℕ, zero, suc, ◌+◌, ◌/◌, ◌%◌, ◌<◌, ◌≤◌}
use native.Mathlib.Nat.{mul_comm}
use native.Mathlib.Omega.{arith}
use borrow.Author.Tests.{ltb-true, lt-ltb, le-ltb, eqb-true, ltb-false}
use lib.Bits.{bit_xor, xor_lt}
use lib.Count.{ones, ones_cat}
use lib.Dec.{eqb, ltb}
use lib.ListN.{length, get_or, replicate, get_or-replicate}
use Rattle.model.specs.Answers.{done, counted, refused}
use Rattle.model.proofs.OutcomeLaws.{never_done}
use Rattle.model.proofs.TestLaws.{below}
use Rattle.nibble.specs.Nibbles.{codeword, decoded, in_code, xor_entry, xor_table, map_entry, map_table, result_of, pair_result, first_above, map_check, handed_back, map_outcome}
use Rattle.nibble.specs.Claims.{Result, XorEntries, MapEntries, Maps, XorResults, MapResults, SameWeights}
use Rattle.nibble.proofs.CodeLaws.{coding, nibble_inside, decoding}
use Rattle.nibble.proofs.MapLaws.{none_above, not_sixteen, value_above, map-right}
use Rattle.nibble.proofs.TableLaws.{entry_at, entries-length, xor_at, past_63, within_63, first_past_63, second_past_63, both_within_63}

-- the codeword of n, or 0
coded_or_0 : (inside : Bool) (n : ℕ) → (inside ≡ true → n < 16) → Result inside n (cond inside (codeword n) 0)
unfolding ones
coded_or_0 false n h = record { outside = λ e. refl; exactly = λ e. refl; three_ones = λ e. absurd (false≢true e); nibble = λ e. absurd (false≢true e) }
coded_or_0 true n h =
    let w = coding n (h refl) in
    record {
      outside = λ e. absurd (false≢true (sym e));
      exactly = λ e. let q : ◌≡◌ {A = ℕ} 0 3 = ap ones (sym e) ∙ w.three_ones in absurd (omega arith);
      three_ones = λ e. w.three_ones;
      nibble = λ e. w.back;
    }

-- ---- the exclusive-or table

-- looked up at any two operands
pub xor_looked_up : (x y : ℕ) → pair_result xor_table x y ≡ xor_entry x y
unfolding xor_entry
xor_looked_up x y =
    below x 64
    (λ h. below y 64 (λ g. sym (both_within_63 xor_table x y h g) ∙ xor_at x y h g) (λ g. sym (second_past_63 xor_table x y h g) ∙ neither (in_code x) (in_code y) ((decoding y).above63 g)))
    (λ h. sym (first_past_63 xor_table x y h) ∙ rw ((decoding x).above63 h))
  where
    neither : (s t : Bool) → t ≡ false → 0 ≡ cond (s && t) (codeword (bit_xor (decoded x) (decoded y))) 0
    neither true t e = rw e
    neither false t e = refl

pub xor_results : XorResults
unfolding xor_entry
xor_results x y = rw (xor_looked_up x y) (coded_or_0 (in_code x && in_code y) (bit_xor (decoded x) (decoded y)) (λ e. both (in_code x) (in_code y) e refl refl))
  where
    both : (s t : Bool) → (s && t) ≡ true → in_code x ≡ s → in_code y ≡ t → bit_xor (decoded x) (decoded y) < 16
    both true true e p q = xor_lt 4 (decoded x) (decoded y) (ltb-true _ _ p) (ltb-true _ _ q)
    both true false e p q = absurd (false≢true e)
    both false t e p q = absurd (false≢true e)

xor_coded : (a b : ℕ) → a < 16 → b < 16 → xor_entry (codeword a) (codeword b) ≡ codeword (bit_xor a b)
unfolding xor_entry
xor_coded a b h g = rw ((coding a h).back, (coding b g).back, lt-ltb a 16 h, lt-ltb b 16 g)

pub xor_entries : XorEntries
unfolding xor_entry
xor_entries =
    record {
      long = entries-length (λ k. xor_entry (k / 64) (k % 64)) 0 4096;
      right = λ a b h g. xor_at (codeword a) (codeword b) (coding a h).six_bits (coding b g).six_bits ∙ xor_coded a b h g;
      wrong = λ x y h g e. xor_at x y h g ∙ rw e;
    }

pub same_weights : SameWeights
same_weights a b h g =
    let v = coding a h in
    let w = coding b g in
    let inside : (in_code (codeword a) && in_code (codeword b)) ≡ true = rw (nibble_inside a h) (nibble_inside b g) in
    record {
      first = v.three_ones;
      second = w.three_ones;
      index = ap (λ (k : ℕ). ones (k + codeword b)) (mul_comm 64 (codeword a)) ∙ ones_cat 6 (codeword a) (codeword b) w.six_bits ∙ rw (v.three_ones, w.three_ones);
      result = (xor_results (codeword a) (codeword b)).three_ones inside;
    }

-- ---- maps

first_above_lem : (m : List ℕ) (i : ℕ) → i < length m → 15 < get_or m i 0 → ((j : ℕ) → j < i → get_or m j 0 ≤ 15) → first_above m ≡ i
unfolding first_above
first_above_lem [] i l h g = absurd (omega arith)
first_above_lem (v ∷ vs) zero l h g = rw (lt-ltb 15 v h)
first_above_lem (v ∷ vs) (suc i) l h g = rw (le-ltb 15 v (g 0 (omega arith))) (ap suc (first_above_lem vs i (omega arith) h (λ j k. g (suc j) (omega arith))))

no_first : (m : List ℕ) → ((i : ℕ) → i < length m → get_or m i 0 ≤ 15) → first_above m ≡ length m
unfolding first_above
no_first [] g = refl
no_first (v ∷ vs) g = rw (le-ltb 15 v (g 0 (omega arith))) (ap suc (no_first vs (λ i k. g (suc i) (omega arith))))

pub maps : (m : List ℕ) → Maps m
maps m =
    record {
      right = λ e g. sym (map-right m (map_table m) (first_above m) e refl (omega (arith, no_first m (λ i l. g i (omega arith)))) refl);
      other_length = λ e. sym (not_sixteen m e);
      value_above = λ e i h a g. sym (value_above m i e (sym (first_above_lem m i (omega arith) a g)) h);
    }

-- a map that is not refused has no value above 15
accepted : (m vs : List ℕ) → map_check m ≡ done vs → (k : ℕ) → get_or m k 0 ≤ 15
unfolding map_check
accepted m vs e = go (eqb (length m) 16) (ltb (first_above m) 16) refl refl e
  where
    go : (s u : Bool) → eqb (length m) 16 ≡ s → ltb (first_above m) 16 ≡ u → cond (not s) (refused 27 0) (cond u (refused 27 (first_above m)) (counted 64)) ≡ done vs → (k : ℕ) → get_or m k 0 ≤ 15
    go true false p q e = let l = eqb-true (length m) 16 p in let a = ltb-false (first_above m) 16 q in none_above m (omega arith)
    go true true p q e = absurd (never_done e)
    go false u p q e = absurd (never_done e)

-- looked up at any operand
map_looked_up : (m : List ℕ) (x : ℕ) → result_of (map_table m) x ≡ map_entry m x
unfolding map_entry
map_looked_up m x =
    below x 64 (λ h. sym (within_63 (map_table m) x h) ∙ entry_at (map_entry m) 64 x h) (λ h. sym (past_63 (map_table m) x h) ∙ rw ((decoding x).above63 h))

nothing_looked_up : (x : ℕ) → result_of (replicate 64 0) x ≡ 0
nothing_looked_up x = below x 64 (λ h. sym (within_63 (replicate 64 0) x h) ∙ get_or-replicate 64 x 0 0 h) (λ h. sym (past_63 (replicate 64 0) x h))

pub map_results : MapResults
unfolding map_outcome map_entry
map_results m t answer x e =
    let a = ap (λ o. o.answer) e in
    let s : t ≡ handed_back (map_check m) (map_table m) = ap (λ o. get_or o.stores 0 []) e in
    record {
      made = λ vs d.
          let w = sym a ∙ d in
          rw (s, w, map_looked_up m x) (coded_or_0 (in_code x) (get_or m (decoded x) 0) (λ i. let g = accepted m vs w (decoded x) in omega arith));
      turned_down = λ k i d. let w = sym a ∙ d in rw (s, w) (nothing_looked_up x);
    }

pub map-entries : (m : List ℕ) → MapEntries m
unfolding map_entry
map-entries m =
    record {
      long = entries-length (map_entry m) 0 64;
      used = λ a h. entry_at (map_entry m) 64 (codeword a) (coding a h).six_bits ∙ rw ((coding a h).back, lt-ltb a 16 h);
      unused = λ x h e. entry_at (map_entry m) 64 x h ∙ rw e;
    }
