-- Cutting a text at a byte and joining it again: what stands before the byte, the byte, and what stands after it are the text.
-- Assumes nothing.
use Prim.Native.Nat.{ℕ, suc, ◌+◌, ◌≤◌, ◌<◌}
use mathlib.Core.Bool.{Bool, true, false, cond}
use mathlib.Core.Path.{◌≡◌, refl, ap, ◌∙◌}
use mathlib.Core.List.{List, [], ◌∷◌, ◌++◌}
use native.Mathlib.Omega.{arith}
use lib.ListN.{length}
use lib.Dec.{eqb}
use borrow.Author.Tests.{eq-eqb, ne_eqb, eqb-true}
use Rattle.model.specs.Text.{up_to, past, count_of, comma, skip}
use Rattle.model.proofs.TestLaws.{below}
use Rattle.model.proofs.DecimalLaws.{Digits}

-- ---- how often a byte stands in a text

count_step : (t : Bool) (a b d : ℕ) → a ≡ b + d → cond t (suc a) a ≡ cond t (suc b) b + d
count_step true a b d e = omega arith
count_step false a b d e = e

pub count-append : (c : ℕ) (x y : List ℕ) → count_of c (x ++ y) ≡ count_of c x + count_of c y
unfolding count_of
count-append c [] y = omega arith
count-append c (b ∷ x) y = count_step (eqb b c) (count_of c (x ++ y)) (count_of c x) (count_of c y) (count-append c x y)

pub count_other : (c b : ℕ) (x : List ℕ) → (b ≡ c → ⊥) → count_of c (b ∷ x) ≡ count_of c x
unfolding count_of
count_other c b x h = rw (ne_eqb b c h)

pub count_it : (c : ℕ) (x : List ℕ) → count_of c (c ∷ x) ≡ suc (count_of c x)
unfolding count_of
count_it c x = rw (eq-eqb c c refl)

-- no byte below the digits stands among digits
pub digits_clean : (c : ℕ) (s : List ℕ) → c < 48 → Digits s → count_of c s ≡ 0
unfolding count_of
digits_clean c [] h d = refl
digits_clean c (b ∷ s) h d = let low : 48 ≤ b = d.0 in count_other c b s (λ e. omega arith) ∙ digits_clean c s h d.2

-- ---- cutting what is joined

clean_step : (t : Bool) (a : ℕ) → cond t (suc a) a ≡ 0 → (t ≡ false) × (a ≡ 0)
clean_step true a e = absurd (omega arith)
clean_step false a e = (refl, e)

module _ (c : ℕ) where
  pub up_to_clean : (x y : List ℕ) → count_of c x ≡ 0 → up_to c (x ++ (c ∷ y)) ≡ x
  unfolding up_to count_of
  up_to_clean [] y e = rw (eq-eqb c c refl)
  up_to_clean (b ∷ x) y e =
      let w = clean_step (eqb b c) (count_of c x) e in
      rw w.0 (ap (λ (l : List ℕ). b ∷ l) (up_to_clean x y w.1))

  pub past_clean : (x y : List ℕ) → count_of c x ≡ 0 → past c (x ++ (c ∷ y)) ≡ y
  unfolding past count_of
  past_clean [] y e = rw (eq-eqb c c refl)
  past_clean (b ∷ x) y e =
      let w = clean_step (eqb b c) (count_of c x) e in
      rw w.0 (past_clean x y w.1)

  pub up_to_all : (s : List ℕ) → count_of c s ≡ 0 → up_to c s ≡ s
  unfolding up_to count_of
  up_to_all [] e = refl
  up_to_all (b ∷ s) e =
      let w = clean_step (eqb b c) (count_of c s) e in
      rw w.0 (ap (λ (l : List ℕ). b ∷ l) (up_to_all s w.1))

  pub past_none : (s : List ℕ) → count_of c s ≡ 0 → past c s ≡ []
  unfolding past count_of
  past_none [] e = refl
  past_none (b ∷ s) e =
      let w = clean_step (eqb b c) (count_of c s) e in
      rw w.0 (past_none s w.1)

-- ---- joining what is cut

join_step : (t : Bool) (b c : ℕ) (s x y : List ℕ) → (t ≡ true → b ≡ c) → (t ≡ false → s ≡ x ++ (c ∷ y)) → b ∷ s ≡ cond t [] (b ∷ x) ++ (c ∷ cond t s y)
join_step true b c s x y f g = ap (λ (k : ℕ). k ∷ s) (f refl)
join_step false b c s x y f g = ap (λ (l : List ℕ). b ∷ l) (g refl)

some_step : (t : Bool) (a : ℕ) → 0 < cond t (suc a) a → t ≡ false → 0 < a
some_step true a h e = let z : ◌≡◌ {A = ℕ} 0 1 = cc in omega arith
some_step false a h e = h

pub rejoin : (c : ℕ) (s : List ℕ) → 0 < count_of c s → s ≡ up_to c s ++ (c ∷ past c s)
unfolding up_to past count_of
rejoin c [] h = absurd (omega arith)
rejoin c (b ∷ s) h =
    join_step (eqb b c) b c s (up_to c s) (past c s) (eqb-true b c) (λ e. rejoin c s (some_step (eqb b c) (count_of c s) h e))

-- a text that is longer than what stands before c has a c
pub has_byte : (c : ℕ) (s : List ℕ) → length (up_to c s) < length s → 0 < count_of c s
has_byte c s h = below 0 (count_of c s) (λ l. l) (λ l. absurd (omega (arith, ap length (up_to_all c s (omega arith)))))

-- one c fewer stands after the first
past_step : (t : Bool) (c : ℕ) (s y : List ℕ) (n : ℕ) → cond t (suc (count_of c s)) (count_of c s) ≡ suc n → (t ≡ false → count_of c s ≡ suc n → count_of c y ≡ n) → count_of c (cond t s y) ≡ n
past_step true c s y n e f = omega arith
past_step false c s y n e f = f refl e

pub count_past : (c : ℕ) (s : List ℕ) (n : ℕ) → count_of c s ≡ suc n → count_of c (past c s) ≡ n
unfolding past count_of
count_past c [] n e = absurd (omega arith)
count_past c (b ∷ s) n e = past_step (eqb b c) c s (past c s) n e (λ q r. count_past c s n r)

-- ---- five commas part a line into its six fields

-- six fields joined by commas
abbrev pub join_fields : List ℕ → List ℕ → List ℕ → List ℕ → List ℕ → List ℕ → List ℕ
join_fields m o d a b t = m ++ (comma ∷ (o ++ (comma ∷ (d ++ (comma ∷ (a ++ (comma ∷ (b ++ (comma ∷ t)))))))))

pub fields_joined : (s : List ℕ) → count_of comma s ≡ 5
    → join_fields (up_to comma s) (up_to comma (skip 1 s)) (up_to comma (skip 2 s)) (up_to comma (skip 3 s)) (up_to comma (skip 4 s)) (skip 5 s) ≡ s
fields_joined s e =
    let c1 = count_past comma s 4 e in
    let c2 = count_past comma (skip 1 s) 3 c1 in
    let c3 = count_past comma (skip 2 s) 2 c2 in
    let c4 = count_past comma (skip 3 s) 1 c3 in
    rw (← rejoin comma (skip 4 s) (omega arith), ← rejoin comma (skip 3 s) (omega arith), ← rejoin comma (skip 2 s) (omega arith), ← rejoin comma (skip 1 s) (omega arith), ← rejoin comma s (omega arith))

pub cut_count : (c : ℕ) (x y : List ℕ) → count_of c x ≡ 0 → count_of c (x ++ (c ∷ y)) ≡ suc (count_of c y)
cut_count c x y e = omega (arith, count-append c x (c ∷ y), count_it c y)

pub other_count : (c d : ℕ) (x y : List ℕ) → (d ≡ c → ⊥) → count_of c x ≡ 0 → count_of c y ≡ 0 → count_of c (x ++ (d ∷ y)) ≡ 0
other_count c d x y h p q = omega (arith, count-append c x (d ∷ y), count_other c d y h)

-- six fields without a comma
module _ (m o d a b t : List ℕ) (cm : count_of comma m ≡ 0) (co : count_of comma o ≡ 0) (cd : count_of comma d ≡ 0) (ca : count_of comma a ≡ 0) (cb : count_of comma b ≡ 0) (ct : count_of comma t ≡ 0) where
  pub joined-count : count_of comma (join_fields m o d a b t) ≡ 5
  joined-count =
      let t4 : List ℕ = b ++ (comma ∷ t) in
      let t3 : List ℕ = a ++ (comma ∷ t4) in
      let t2 : List ℕ = d ++ (comma ∷ t3) in
      let t1 : List ℕ = o ++ (comma ∷ t2) in
      omega (arith, cut_count comma m t1 cm, cut_count comma o t2 co, cut_count comma d t3 cd, cut_count comma a t4 ca, cut_count comma b t cb)
