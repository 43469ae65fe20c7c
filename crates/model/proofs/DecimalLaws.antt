-- Decimal spellings: the digits of a number below 100,000 give it back, and digits without a leading zero are a number's spelling.
-- Assumes nothing.
use Prim.Native.Nat.{ℕ, ◌+◌, ◌-◌, ◌*◌, ◌/◌, ◌%◌, ◌≤◌, ◌<◌}
use mathlib.Core.Path.{◌≡◌, refl, sym, ap, ◌∙◌}
use mathlib.Core.List.{List, [], ◌∷◌, ◌++◌, append_assoc, append-nil}
use mathlib.Core.Logic.{◌↔◌}
use native.Mathlib.Omega.{arith}
use lib.ListN.{length, get_or, length-append}
use borrow.Author.Tests.{lt-ltb, le-ltb}
use Rattle.model.specs.Text.{digit_at, decimal}
use Rattle.model.proofs.TestLaws.{below}

digit_high : (p n : ℕ) → n < p → digit_at p n ≡ []
unfolding digit_at
digit_high p n h = rw (lt-ltb _ _ h)

digit_low : (p n : ℕ) → p ≤ n → digit_at p n ≡ (48 + n / p % 10) ∷ []
unfolding digit_at
digit_low p n h = rw (le-ltb _ _ h)

-- ---- the number of some digits, begun with v

unfoldable pub value_from : ℕ → List ℕ → ℕ
value_from v [] = v
value_from v (b ∷ s) = value_from (10 * v + (b - 48)) s

pub value-append : (v : ℕ) (s t : List ℕ) → value_from v (s ++ t) ≡ value_from (value_from v s) t
unfolding value_from
value-append v [] t = refl
value-append v (b ∷ s) t = value-append (10 * v + (b - 48)) s t

-- a digit more
digit_value : (p n v w : ℕ) → (n < p → v ≡ w) → (p ≤ n → 10 * v + n / p % 10 ≡ w) → value_from v (digit_at p n) ≡ w
unfolding value_from
digit_value p n v w f g =
    below n p (λ l. rw (digit_high p n l) (f l))
    (λ l. let e : 48 + n / p % 10 - 48 ≡ n / p % 10 = omega arith in rw (digit_low p n l, e) (g l))

pub decimal-value : (n : ℕ) → n < 100000 → value_from 0 (decimal n) ≡ n
unfolding decimal value_from
decimal-value n h =
    let last : 48 + n % 10 - 48 ≡ n % 10 = omega arith in
    rw (
      value-append 0 (digit_at 10000 n) (digit_at 1000 n ++ (digit_at 100 n ++ (digit_at 10 n ++ ((48 + n % 10) ∷ [])))),
      digit_value 10000 n 0 (n / 10000) (λ l. omega arith) (λ l. omega arith),
      value-append (n / 10000) (digit_at 1000 n) (digit_at 100 n ++ (digit_at 10 n ++ ((48 + n % 10) ∷ []))),
      digit_value 1000 n (n / 10000) (n / 1000) (λ l. omega arith) (λ l. omega arith),
      value-append (n / 1000) (digit_at 100 n) (digit_at 10 n ++ ((48 + n % 10) ∷ [])),
      digit_value 100 n (n / 1000) (n / 100) (λ l. omega arith) (λ l. omega arith),
      value-append (n / 100) (digit_at 10 n) ((48 + n % 10) ∷ []),
      digit_value 10 n (n / 100) (n / 10) (λ l. omega arith) (λ l. omega arith),
      last,
    )
    (omega arith)

-- ---- a digit more: the spelling of ten times v and a digit

-- the digits of two numbers at two powers of ten
digit_same : (p q n m : ℕ) → (n < p → m < q) → (p ≤ n → q ≤ m) → n / p ≡ m / q → digit_at p n ≡ digit_at q m
digit_same p q n m f g e =
    below n p (λ l. digit_high p n l ∙ sym (digit_high q m (f l)))
    (λ l. digit_low p n l ∙ ap (λ (k : ℕ). (48 + k % 10) ∷ []) e ∙ sym (digit_low q m (g l)))

pub decimal_snoc : (v d : ℕ) → d < 10 → 1 ≤ v → 10 * v + d < 100000 → decimal (10 * v + d) ≡ decimal v ++ ((48 + d) ∷ [])
unfolding decimal
decimal_snoc v d h l m =
    let n : ℕ = 10 * v + d in
    let tens : 48 + n / 10 % 10 ≡ 48 + v % 10 = omega arith in
    let ones : n % 10 ≡ d = omega arith in
    rw (
      digit_same 10000 1000 n v (λ g. omega arith) (λ g. omega arith) (omega arith),
      digit_same 1000 100 n v (λ g. omega arith) (λ g. omega arith) (omega arith),
      digit_same 100 10 n v (λ g. omega arith) (λ g. omega arith) (omega arith),
      digit_low 10 n (omega arith),
      tens,
      ones,
      digit_high 10000 v (omega arith),
    )
    (simp append_assoc)

pub decimal_digit : (d : ℕ) → d < 10 → decimal d ≡ (48 + d) ∷ []
unfolding decimal
decimal_digit d h =
    let ones : d % 10 ≡ d = omega arith in
    rw (digit_high 10000 d (omega arith), digit_high 1000 d (omega arith), digit_high 100 d (omega arith), digit_high 10 d h, ones)

-- ---- digits without a leading zero are the spelling of their number

abbrev pub Digits : List ℕ → Type 0
Digits [] = Unit {0}
Digits (b ∷ s) = (48 ≤ b) × (b ≤ 57) × Digits s

pub digits_append : (s t : List ℕ) → Digits s → Digits t → Digits (s ++ t)
digits_append [] t h g = g
digits_append (b ∷ s) t h g = (h.0, h.1, digits_append s t h.2 g)

pub value_grows : (v : ℕ) (s : List ℕ) → v ≤ value_from v s
unfolding value_from
value_grows v [] = omega arith
value_grows v (b ∷ s) = omega (arith, value_grows (10 * v + (b - 48)) s)

pub digits_after : (v : ℕ) (s : List ℕ) → Digits s → 1 ≤ v → value_from v s < 100000 → decimal (value_from v s) ≡ decimal v ++ s
unfolding value_from
digits_after v [] h l m = sym (append-nil (decimal v))
digits_after v (b ∷ s) h l m =
    let low : 48 ≤ b = h.0 in
    let high : b ≤ 57 = h.1 in
    let q : 48 + (b - 48) ≡ b = omega arith in
    let w : ℕ = 10 * v + (b - 48) in
    digits_after w s h.2 (omega arith) m
    ∙ ap (λ (t : List ℕ). t ++ s) (decimal_snoc v (b - 48) (omega arith) l (omega (arith, value_grows w s)) ∙ ap (λ (x : ℕ). decimal v ++ (x ∷ [])) q)
    ∙ append_assoc (decimal v) (b ∷ []) s

pub digits_decimal : (b : ℕ) (s : List ℕ) → 48 < b → b ≤ 57 → Digits s → value_from 0 (b ∷ s) < 100000 → decimal (value_from 0 (b ∷ s)) ≡ b ∷ s
unfolding value_from
digits_decimal b s l h d m =
    let z : 10 * 0 + (b - 48) ≡ b - 48 = omega arith in
    let q : 48 + (b - 48) ≡ b = omega arith in
    rw (z, digits_after (b - 48) s d (omega arith) (rw z at m), decimal_digit (b - 48) (omega arith), q)

-- and a number's spelling is such
digit_digits : (p n : ℕ) → Digits (digit_at p n)
digit_digits p n = below n p (λ l. rw (digit_high p n l) tt) (λ l. rw (digit_low p n l) (omega arith, omega arith, tt))

pub decimal_digits : (n : ℕ) → Digits (decimal n)
unfolding decimal
decimal_digits n =
    let ones : Digits ((48 + n % 10) ∷ []) = (omega arith, omega arith, tt) in
    digits_append (digit_at 10000 n) _ (digit_digits 10000 n)
    (digits_append (digit_at 1000 n) _ (digit_digits 1000 n)
    (digits_append (digit_at 100 n) _ (digit_digits 100 n)
    (digits_append (digit_at 10 n) ((48 + n % 10) ∷ []) (digit_digits 10 n) ones)))

pub decimal_lead : (n : ℕ) → 1 ≤ n → n < 100000 → 48 < get_or (decimal n) 0 0
unfolding decimal
decimal_lead n l h =
    below n 10000 (λ a.
    let e = digit_high 10000 n a in
    below n 1000 (λ b.
    let f = digit_high 1000 n b in
    below n 100 (λ c.
    let g = digit_high 100 n c in
    below n 10 (λ d. rw (e, f, g, digit_high 10 n d) (omega arith)) (λ d. rw (e, f, g, digit_low 10 n d) (omega arith)))
    (λ c. rw (e, f, digit_low 100 n c) (omega arith)))
    (λ b. rw (e, digit_low 1000 n b) (omega arith)))
    (λ a. rw (digit_low 10000 n a) (omega arith))

pub decimal_some : (n : ℕ) → 0 < length (decimal n)
unfolding decimal
decimal_some n = simp length-append (omega arith)

-- digits, at least one, and the first no zero where there are more
pub record Numeral (s : List ℕ) : Type 0 where
  pub digits : Digits s
  pub filled : 0 < length s
  pub lead : 1 < length s → 48 < get_or s 0 0

pub numeral_decimal : (s : List ℕ) → Numeral s → value_from 0 s < 100000 → decimal (value_from 0 s) ≡ s
unfolding value_from
numeral_decimal [] n m = absurd (omega (arith, n.filled))
numeral_decimal (b ∷ []) n m =
    let low : 48 ≤ b = n.digits.0 in
    let high : b ≤ 57 = n.digits.1 in
    let z : 10 * 0 + (b - 48) ≡ b - 48 = omega arith in
    let q : 48 + (b - 48) ≡ b = omega arith in
    rw (z, decimal_digit (b - 48) (omega arith), q)
numeral_decimal (b ∷ c ∷ s) n m = digits_decimal b (c ∷ s) (n.lead (omega arith)) n.digits.1 n.digits.2 m

pub decimal_numeral : (n : ℕ) → n < 100000 → Numeral (decimal n)
decimal_numeral n h =
    record {
      digits = decimal_digits n;
      filled = decimal_some n;
      lead = λ l. below 0 n (λ g. decimal_lead n g h) (λ g. let z : n ≡ 0 = omega arith in absurd (omega (arith, ap length (ap decimal z ∙ decimal_digit 0 (omega arith)))));
    }

-- THE SPELLING OF A NUMBER: a text is it exactly when it is a numeral of this value
pub decimal_exactly : (s : List ℕ) (n : ℕ) → n < 100000 → (decimal n ≡ s) ↔ (Numeral s × (value_from 0 s ≡ n))
decimal_exactly s n h = (
  λ e. rw (← e) (decimal_numeral n h, decimal-value n h),
  λ w. let v : value_from 0 s ≡ n = w.1 in ap decimal (sym v) ∙ numeral_decimal s w.0 (omega arith),
)

-- ---- how long a spelling is

module _ (p n : ℕ) where
  digit_one : length (digit_at p n) ≤ 1
  digit_one = below n p (λ l. rw (digit_high p n l) (omega arith)) (λ l. rw (digit_low p n l) (omega arith))

pub decimal_5 : (n : ℕ) → length (decimal n) ≤ 5
unfolding decimal
decimal_5 n = simp length-append (omega (arith, digit_one 10000 n, digit_one 1000 n, digit_one 100 n, digit_one 10 n))

pub decimal_3 : (n : ℕ) → n < 1000 → length (decimal n) ≤ 3
unfolding decimal
decimal_3 n h = rw (digit_high 10000 n (omega arith), digit_high 1000 n h) (simp length-append (omega (arith, digit_one 100 n, digit_one 10 n)))

pub decimal_2 : (n : ℕ) → n < 100 → length (decimal n) ≤ 2
unfolding decimal
decimal_2 n h = rw (digit_high 10000 n (omega arith), digit_high 1000 n (omega arith), digit_high 100 n h) (simp length-append (omega (arith, digit_one 10 n)))
