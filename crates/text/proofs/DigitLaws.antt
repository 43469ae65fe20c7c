-- Decimal numbers as the reader tests them: one step at a position of the text, and what is read is the model's spelling of the number.
-- Assumes nothing.
use Prim.Native.Nat.{ℕ, ◌+◌, ◌-◌, ◌*◌, ◌≤◌, ◌<◌}
use mathlib.Core.Bool.{Bool, true, false, cond}
use mathlib.Core.Path.{◌≡◌, refl, sym, ap, ◌∙◌}
use mathlib.Core.List.{List, [], ◌∷◌}
use mathlib.Core.Logic.{◌⊎◌, inl, inr, ⊎_elim}
use native.Mathlib.Omega.{arith}
use native.Mathlib.Nat.{mul-le-mul}
use native.Mathlib.Numerals.{add-one}
use lib.ListN.{length, get_or, drop}
use lib.Seq.{drop-cons}
use lib.Dec.{ltb, leb, eqb}
use borrow.Author.Tests.{ne_eqb, lt-ltb, le-ltb, le-leb, lt-leb, ltb-true, ltb-false, leb-false, eqb-true, eqb-false}
use Rattle.model.specs.Text.{decimal}
use Rattle.model.proofs.DecimalLaws.{value_from, Digits, value_grows, decimal-value, decimal_digit, digits_decimal, decimal_digits, decimal_lead, decimal_some}
use Rattle.text.specs.Fields.{digits_from, read_number}
use Rattle.std.specs.Prelude.{Option as Field, Some, None}

module _ (n v : ℕ) (s : List ℕ) (i : ℕ) (h : i < length s) where
  low : get_or s i 0 < 48 → digits_from n v (drop i s) ≡ None
  unfolding digits_from
  low l = rw (drop-cons s i 0 h, lt-ltb _ _ l)

  high : 48 ≤ get_or s i 0 → 57 < get_or s i 0 → digits_from n v (drop i s) ≡ None
  unfolding digits_from
  high l m = rw (drop-cons s i 0 h, le-ltb _ _ l, lt-ltb _ _ m)

  pub no_digit : (get_or s i 0 < 48) ⊎ ((48 ≤ get_or s i 0) × (57 < get_or s i 0)) → digits_from n v (drop i s) ≡ None
  no_digit x = ⊎_elim low (λ y. high y.0 y.1) x

  pub over : 48 ≤ get_or s i 0 → get_or s i 0 ≤ 57 → n ≤ 10 * v + (get_or s i 0 - 48) → digits_from n v (drop i s) ≡ None
  unfolding digits_from
  over l m o = rw (drop-cons s i 0 h, le-ltb _ _ l, le-ltb _ _ m, le-leb _ _ o)

  pub next : 48 ≤ get_or s i 0 → get_or s i 0 ≤ 57 → 10 * v + (get_or s i 0 - 48) < n → digits_from n v (drop i s) ≡ digits_from n (10 * v + (get_or s i 0 - 48)) (drop (i + 1) s)
  unfolding digits_from
  next l m o = rw (drop-cons s i 0 h, le-ltb _ _ l, le-ltb _ _ m, lt-leb _ _ o, add-one)

pub never : {k : ℕ} → None ≡ Some k → ⊥
never e = let z : ◌≡◌ {A = ℕ} 0 1 = cc in omega arith

-- the tests that a digit passes
record Flags (t u o : Bool) (x : Field ℕ) (k : ℕ) : Type 0 where
  low : t ≡ false
  high : u ≡ false
  over : o ≡ false
  is : x ≡ Some k

flags : (t u o : Bool) (x : Field ℕ) (k : ℕ) → cond t None (cond u None (cond o None x)) ≡ Some k → Flags t u o x k
flags true u o x k e = absurd (never e)
flags false true o x k e = absurd (never e)
flags false false true x k e = absurd (never e)
flags false false false x k e = record { low = refl; high = refl; over = refl; is = e }

module _ (n v b : ℕ) (s : List ℕ) (k : ℕ) (e : digits_from n v (b ∷ s) ≡ Some k) where
  step : Flags (ltb b 48) (ltb 57 b) (leb n (10 * v + (b - 48))) (digits_from n (10 * v + (b - 48)) s) k
  unfolding digits_from
  step = flags (ltb b 48) (ltb 57 b) (leb n (10 * v + (b - 48))) (digits_from n (10 * v + (b - 48)) s) k e

digits_below : (n v : ℕ) (s : List ℕ) (k : ℕ) → v < n → digits_from n v s ≡ Some k → k < n
unfolding digits_from
digits_below n v [] k h e = let q : v ≡ k = cc in omega arith
digits_below n v (b ∷ s) k h e = let f = step n v b s k e in digits_below n (10 * v + (b - 48)) s k (leb-false _ _ f.over) f.is

number_cases : (t u o : Bool) (x : Field ℕ) (k : ℕ) → cond t None (cond u (cond o (Some 0) None) x) ≡ Some k
    → (t ≡ false) × (((u ≡ true) × ((o ≡ true) × (k ≡ 0))) ⊎ ((u ≡ false) × (x ≡ Some k)))
number_cases true u o x k e = absurd (never e)
number_cases false true true x k e = (refl, inl (refl, (refl, cc)))
number_cases false true false x k e = absurd (never e)
number_cases false false o x k e = (refl, inr (refl, e))

pub number_below : (n : ℕ) (s : List ℕ) (k : ℕ) → 0 < n → read_number n s ≡ Some k → k < n
unfolding read_number
number_below n s k h e =
    let w = number_cases (eqb (length s) 0) (eqb (get_or s 0 0) 48) (eqb (length s) 1) (digits_from n 0 s) k e in
    ⊎_elim (λ z. let q : k ≡ 0 = z.1.1 in omega arith) (λ z. digits_below n 0 s k h z.1) w.1

-- a base and an offset together
pub indirect_below : (w b k : ℕ) (s t : List ℕ) → 0 < w → w ≤ 256 → read_number 32 s ≡ Some b → read_number w t ≡ Some k → w * b + k < 8192
indirect_below w b k s t hw h p q =
    let base : b < 32 = number_below 32 s b (omega arith) p in
    let product : w * b ≤ 256 * 31 = mul-le-mul {n₂ = 256} {m₂ = 31} h (omega arith) in
    omega (arith, product, number_below w t k hw q)

-- ---- what is spelled is read

digits_there : (n v : ℕ) (s : List ℕ) → Digits s → value_from v s < n → digits_from n v s ≡ Some (value_from v s)
unfolding digits_from value_from
digits_there n v [] d h = refl
digits_there n v (b ∷ s) d h =
    let w : ℕ = 10 * v + (b - 48) in
    rw (le-ltb b 48 d.0, le-ltb 57 b d.1, lt-leb n (10 * v + (b - 48)) (omega (arith, value_grows (10 * v + (b - 48)) s)))
    (digits_there n (10 * v + (b - 48)) s d.2 h)

pub number_decimal : (n k : ℕ) → k < n → n ≤ 100000 → read_number n (decimal k) ≡ Some k
unfolding read_number
number_decimal n k h u = by (ltb 0 k) refl
  where
    by : (t : Bool) → ltb 0 k ≡ t → read_number n (decimal k) ≡ Some k
    by true e =
        let lead : 48 < get_or (decimal k) 0 0 = decimal_lead k (ltb-true 0 k e) (omega arith) in
        let value : value_from 0 (decimal k) ≡ k = decimal-value k (omega arith) in
        rw (ne_eqb (length (decimal k)) 0 (λ x. omega (arith, decimal_some k)), ne_eqb (get_or (decimal k) 0 0) 48 (λ x. omega arith))
        (digits_there n 0 (decimal k) (decimal_digits k) (omega arith) ∙ ap Some value)
    by false e =
        let z : k ≡ 0 = omega (arith, ltb-false 0 k e) in
        rw (z, decimal_digit 0 (omega arith))

-- ---- what is read is so spelled

record Digital (v : ℕ) (s : List ℕ) (k : ℕ) : Type 0 where
  digits : Digits s
  value : value_from v s ≡ k

digits_back : (n v : ℕ) (s : List ℕ) (k : ℕ) → digits_from n v s ≡ Some k → Digital v s k
unfolding digits_from value_from
digits_back n v [] k e = record { digits = tt; value = cc }
digits_back n v (b ∷ s) k e =
    let f = step n v b s k e in
    let r = digits_back n (10 * v + (b - 48)) s k f.is in
    record { digits = (ltb-false b 48 f.low, ltb-false 57 b f.high, r.digits); value = r.value }

single : (s : List ℕ) → length s ≡ 1 → s ≡ get_or s 0 0 ∷ []
single [] e = absurd (omega arith)
single (a ∷ []) e = refl
single (a ∷ b ∷ s) e = absurd (omega arith)

first_digit : (n : ℕ) (s : List ℕ) (k : ℕ) → 0 < n → n ≤ 100000 → (length s ≡ 0 → ⊥) → (get_or s 0 0 ≡ 48 → ⊥) → digits_from n 0 s ≡ Some k → decimal k ≡ s
first_digit n [] k p u l m e = absurd (l refl)
first_digit n (b ∷ s) k p u l m e =
    let r = digits_back n 0 (b ∷ s) k e in
    let low : 48 ≤ b = r.digits.0 in
    let high : b ≤ 57 = r.digits.1 in
    let few : k < n = digits_below n 0 (b ∷ s) k p e in
    ap decimal (sym r.value) ∙ digits_decimal b s (omega arith) high r.digits.2 (omega (arith, r.value))

pub decimal_number : (n : ℕ) (s : List ℕ) (k : ℕ) → 0 < n → n ≤ 100000 → read_number n s ≡ Some k → decimal k ≡ s
unfolding read_number
decimal_number n s k p u e =
    let w = number_cases (eqb (length s) 0) (eqb (get_or s 0 0) 48) (eqb (length s) 1) (digits_from n 0 s) k e in
    ⊎_elim
    (λ z. ap decimal z.1.1 ∙ decimal_digit 0 (omega arith) ∙ ap (λ (x : ℕ). x ∷ []) (sym (eqb-true _ _ z.0)) ∙ sym (single s (eqb-true _ _ z.1.0)))
    (λ z. first_digit n s k p u (eqb-false _ _ w.0) (eqb-false _ _ z.0) z.1)
    w.1
