-- Signals against levels and keys: a word's signal is its level less 66,536 for each one, so that words of equally many ones are ranked as their
-- keys are.
-- Assumes nothing.
use mathlib.Core.Path.{◌≡◌, refl, sym, ap, ap₂, ◌∙◌}
use mathlib.Core.Bool.{true, not, ◌&&◌, ◌||◌}
use mathlib.Core.List.{List, [], ◌∷◌}
use Prim.Native.Nat.{ℕ, suc, ◌+◌, ◌-◌, ◌*◌, ◌%◌, ◌/◌, ◌^◌, ◌<◌, ◌≤◌}
use native.Mathlib.Omega.{arith}
use borrow.Author.Tests.{eq-eqb, ne_eqb, lt-ltb, le-ltb}
use lib.Count.{ones, ones_step, ones-le}
use lib.Dec.{ltb, eqb, leb, leb→le}
use lib.IntN.{ℤ, pos, negsuc, sub_ℕ, ◌+ℤ◌}
use lib.ListN.{length}
use lib.Pow.{pow_mono}
use Rattle.model.proofs.TestLaws.{below, and_both, holds, is_true}
use Rattle.codewords.specs.Codewords.{weight_right, weights_right, signal, before}
use Rattle.codewords.specs.Claims.{Word}
use Rattle.codewords.specs.Keys.{raised_right, raised, level, key, word_of, has_ones}
use Rattle.codewords.proofs.Differences.{sub_up, sub_down, sub_same, sub_add, sub_order}
use Rattle.codewords.proofs.RaiseLaws.{right-raised}

weight_is : (a : ℤ) → weight_right a ≡ true → a ≡ sub_ℕ (raised a) 66536
unfolding raised
weight_is a e = rw e (go a e)
  where
    go : (a : ℤ) → weight_right a ≡ true → a ≡ sub_ℕ (raised_right a) 66536
    go (pos n) e = let q : 66536 + n - 66536 ≡ n = omega arith in sym (sub_up (66536 + n) 66536 (omega arith) ∙ ap pos q)
    go (negsuc n) e =
        let l = leb→le n 999 (and_both (leb n 999) true (holds e)).0 in
        let q : 66536 - suc (66535 - n) ≡ n = omega arith in
        sym (sub_down (66535 - n) 66536 (omega arith) ∙ ap negsuc q)

no_ones : ones 0 ≡ 0
unfolding ones
no_ones = refl

-- ---- one bit more

module _ (a : ℤ) (weights : List ℤ) (w : ℕ) (r : weight_right a ≡ true) where
  bit-signal : signal weights (w / 2) ≡ sub_ℕ (level weights (w / 2)) (66536 * ones (w / 2)) → signal (a ∷ weights) w ≡ sub_ℕ (level (a ∷ weights) w) (66536 * ones w)
  unfolding signal level
  bit-signal e =
      below (w % 2) 1
      (λ z.
      let q : w % 2 ≡ 0 = omega arith in
      let p : w % 2 * raised a ≡ 0 = rw q (omega arith) in
      rw (ne_eqb (w % 2) 1 (λ y. omega arith))
      (e ∙ sub_same (level weights (w / 2)) (66536 * ones (w / 2)) (w % 2 * raised a + level weights (w / 2)) (66536 * ones w) (omega (arith, ones_step w))))
      (λ z.
      let q : w % 2 ≡ 1 = omega arith in
      let p : w % 2 * raised a ≡ raised a = rw q (omega arith) in
      rw (eq-eqb (w % 2) 1 q)
      (ap₂ ◌+ℤ◌ (weight_is a r) e ∙ sub_add (raised a) 66536 (level weights (w / 2)) (66536 * ones (w / 2))
      ∙ sub_same (raised a + level weights (w / 2)) (66536 + 66536 * ones (w / 2)) (w % 2 * raised a + level weights (w / 2)) (66536 * ones w) (omega (arith, ones_step w))))

  bit-level : (65536 * ones (w / 2) ≤ level weights (w / 2)) × (level weights (w / 2) ≤ 67536 * ones (w / 2)) → (65536 * ones w ≤ level (a ∷ weights) w) × (level (a ∷ weights) w ≤ 67536 * ones w)
  unfolding level
  bit-level b =
      let s = right-raised a r in
      below (w % 2) 1
      (λ z.
      let q : w % 2 ≡ 0 = omega arith in
      let p : w % 2 * raised a ≡ 0 = rw q (omega arith) in
      (omega (arith, ones_step w), omega (arith, ones_step w)))
      (λ z.
      let q : w % 2 ≡ 1 = omega arith in
      let p : w % 2 * raised a ≡ raised a = rw q (omega arith) in
      (omega (arith, ones_step w, s.low), omega (arith, ones_step w, s.high)))

half_below : (w k : ℕ) → w < 2 ^ suc k → w / 2 < 2 ^ k
half_below w k h = omega arith

signal_is : (weights : List ℤ) (w : ℕ) → weights_right weights ≡ true → w < 2 ^ length weights → signal weights w ≡ sub_ℕ (level weights w) (66536 * ones w)
unfolding signal level weights_right
signal_is [] w r h = let q : w ≡ 0 = omega arith in rw (q, no_ones)
signal_is (a ∷ weights) w r h =
    let b = and_both (weight_right a) (weights_right weights) (holds r) in
    bit-signal a weights w (is_true _ b.0) (signal_is weights (w / 2) (is_true _ b.1) (half_below w (length weights) h))

level-ones : (weights : List ℤ) (w : ℕ) → weights_right weights ≡ true → w < 2 ^ length weights → (65536 * ones w ≤ level weights w) × (level weights w ≤ 67536 * ones w)
unfolding level weights_right
level-ones [] w r h = let q : w ≡ 0 = omega arith in rw (q, no_ones) (omega arith, omega arith)
level-ones (a ∷ weights) w r h =
    let b = and_both (weight_right a) (weights_right weights) (holds r) in
    bit-level a weights w (is_true _ b.0) (level-ones weights (w / 2) (is_true _ b.1) (half_below w (length weights) h))

-- ---- what is read from a key

pub key_word : (weights : List ℤ) (w : ℕ) → w < 256 → word_of (key weights w) ≡ w
unfolding key
key_word weights w h = omega arith

pub key-level : (weights : List ℤ) (w : ℕ) → w < 256 → key weights w / 256 ≡ level weights w
unfolding key
key-level weights w h = omega arith

module _ (n k : ℕ) (weights : List ℤ) (r : weights_right weights ≡ true) (l : length weights ≡ n) (b : n ≤ 8) where
  pub byte : (w : ℕ) → w < 2 ^ n → w < 256
  byte w h = let p : 2 ^ n ≤ 256 = pow_mono b in omega arith

  key-ones : (w : ℕ) → w < 2 ^ n → key weights w / 16777216 ≡ ones w
  unfolding key
  key-ones w h =
      let o = level-ones weights w r (rw (← l) at h) in
      omega (arith, byte w h, ones-le n w h)

  pub key_has : (w : ℕ) → w < 2 ^ n → has_ones k (key weights w) ≡ eqb (ones w) k
  key_has w h = ap (λ (m : ℕ). eqb m k) (key-ones w h)

  pub word_signal : (w : ℕ) → Word n k w → signal weights w ≡ sub_ℕ (level weights w) (66536 * k)
  word_signal w h = signal_is weights w r (rw (← l) at h.bits) ∙ ap (λ (m : ℕ). sub_ℕ (level weights w) (66536 * m)) h.many

  -- words of equally many ones are ranked by their keys
  pub word_order : (x y : ℕ) → Word n k x → Word n k y → before weights x y ≡ ltb (key weights x) (key weights y)
  unfolding key
  word_order x y h g =
      rw (word_signal x h, word_signal y g, sub_order (level weights x) (level weights y) (66536 * k), sub_order (level weights y) (level weights x) (66536 * k))
      (by_key (level weights x) (level weights y) (byte x h.bits) (byte y g.bits))
    where
      by_key : (a b : ℕ) → x < 256 → y < 256 → (ltb a b || (not (ltb b a) && ltb x y)) ≡ ltb (256 * a + x) (256 * b + y)
      by_key a b p q =
          below a b (λ h. rw (lt-ltb a b h) (sym (lt-ltb (256 * a + x) (256 * b + y) (omega arith))))
          (λ h. rw (le-ltb a b h)
          (below b a (λ g. rw (lt-ltb b a g) (sym (le-ltb (256 * a + x) (256 * b + y) (omega arith))))
          (λ g. rw (le-ltb b a g)
          (below x y (λ z. lt-ltb x y z ∙ sym (lt-ltb (256 * a + x) (256 * b + y) (omega arith)))
          (λ z. le-ltb x y z ∙ sym (le-ltb (256 * a + x) (256 * b + y) (omega arith)))))))
