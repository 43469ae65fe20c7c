-- In a list whose levels rise, `size` distinct members span at least the levels of some run of `size`.
-- Assumes nothing.
use mathlib.Core.Path.{◌≡◌, refl, sym, ap}
use mathlib.Core.Bool.{Bool, true, false, cond, ◌||◌, false≢true}
use mathlib.Core.List.{List, [], ◌∷◌}
use Prim.Native.Nat.{ℕ, zero, suc, ◌+◌, ◌<◌, ◌≤◌}
use native.Mathlib.Omega.{arith}
use borrow.Author.Tests.{eqb-true, eqb-false, ne_eqb}
use lib.Dec.{eqb}
use lib.ListN.{length, get_or}
use Rattle.codewords.specs.Claims.{Every, among, Distinct}
use Rattle.codewords.proofs.Lists.{every_at, every-among}

-- each level is at most all that follow
abbrev pub Rising : (ℕ → ℕ) → List ℕ → Type 0
Rising f [] = Unit {0}
Rising f (x ∷ xs) = Every (λ y. f x ≤ f y) xs × Rising f xs

pub rising_at : (f : ℕ → ℕ) (l : List ℕ) (i j : ℕ) → Rising f l → i ≤ j → j < length l → f (get_or l i 0) ≤ f (get_or l j 0)
rising_at f [] i j r h g = absurd (omega arith)
rising_at f (x ∷ l) zero zero r h g = omega arith
rising_at f (x ∷ l) zero (suc j) r h g = every_at (λ y. f x ≤ f y) l j r.0 (omega arith)
rising_at f (x ∷ l) (suc i) zero r h g = absurd (omega arith)
rising_at f (x ∷ l) (suc i) (suc j) r h g = rising_at f l i j r.1 (omega arith) (omega arith)

-- ---- a list without y

unfoldable without : ℕ → List ℕ → List ℕ
without y [] = []
without y (x ∷ l) = cond (eqb y x) (without y l) (x ∷ without y l)

without_none : (y : ℕ) (l : List ℕ) → among y l ≡ false → without y l ≡ l
unfolding without
without_none y [] m = refl
without_none y (x ∷ l) m = go (eqb y x) m (λ n. without_none y l n)
  where
    go : (t : Bool) → (t || among y l) ≡ false → (among y l ≡ false → without y l ≡ l) → cond t (without y l) (x ∷ without y l) ≡ x ∷ l
    go true m ih = absurd (false≢true (sym m))
    go false m ih = ap (λ (r : List ℕ). x ∷ r) (ih m)

without-every : (P : ℕ → Type 0) (y : ℕ) (l : List ℕ) → Every P l → Every P (without y l)
unfolding without
without-every P y [] e = tt
without-every P y (x ∷ l) e = go (eqb y x) (without-every P y l e.1)
  where
    go : (t : Bool) → Every P (without y l) → Every P (cond t (without y l) (x ∷ without y l))
    go true r = r
    go false r = (e.0, r)

without_not : (z y : ℕ) (l : List ℕ) → among z l ≡ false → among z (without y l) ≡ false
unfolding without
without_not z y [] m = refl
without_not z y (x ∷ l) m = go (eqb y x) (eqb z x) refl m (λ n. without_not z y l n)
  where
    go : (t u : Bool) → eqb z x ≡ u → (u || among z l) ≡ false → (among z l ≡ false → among z (without y l) ≡ false) → among z (cond t (without y l) (x ∷ without y l)) ≡ false
    go t true e m ih = absurd (false≢true (sym m))
    go true false e m ih = ih m
    go false false e m ih = rw e (ih m)

without-distinct : (y : ℕ) (l : List ℕ) → Distinct l → Distinct (without y l)
unfolding without
without-distinct y [] d = tt
without-distinct y (x ∷ l) d = go (eqb y x) (without-distinct y l d.1)
  where
    go : (t : Bool) → Distinct (without y l) → Distinct (cond t (without y l) (x ∷ without y l))
    go true r = r
    go false r = (without_not x y l d.0, r)

-- a distinct list loses one member at most
without-length : (y : ℕ) (l : List ℕ) → Distinct l → length l ≤ suc (length (without y l))
unfolding without
without-length y [] d = omega arith
without-length y (x ∷ l) d = go (eqb y x) refl (without-length y l d.1)
  where
    go : (t : Bool) → eqb y x ≡ t → length l ≤ suc (length (without y l)) → suc (length l) ≤ suc (length (cond t (without y l) (x ∷ without y l)))
    go true e r = let q : without y l ≡ l = without_none y l (rw (← (eqb-true y x e)) at d.0) in rw q (omega arith)
    go false e r = omega arith

without_rest : (y : ℕ) (l s : List ℕ) → Every (λ x. among x (y ∷ l) ≡ true) s → Every (λ x. among x l ≡ true) (without y s)
unfolding without
without_rest y l [] e = tt
without_rest y l (x ∷ s) e = go (eqb y x) refl (without_rest y l s e.1)
  where
    go : (t : Bool) → eqb y x ≡ t → Every (λ x. among x l ≡ true) (without y s) → Every (λ x. among x l ≡ true) (cond t (without y s) (x ∷ without y s))
    go true q r = r
    go false q r = (rw (ne_eqb x y (λ z. eqb-false y x q (sym z))) at e.0, r)

-- ---- m places on, a rising list is not above m + 1 distinct members

module _ (f : ℕ → ℕ) (hi : ℕ) where
  nobody : (m : ℕ) (s : List ℕ) → Every (λ x. among x [] ≡ true) s → m < length s → ⊥
  nobody m [] a h = omega arith
  nobody m (x ∷ s) a h = false≢true a.0

  at_head : (y : ℕ) (l s : List ℕ) → Every (λ z. f y ≤ f z) l → Every (λ x. among x (y ∷ l) ≡ true) s → 0 < length s → Every (λ x. f x ≤ hi) s → f y ≤ hi
  at_head y l [] r a h t = absurd (omega arith)
  at_head y l (x ∷ s) r a h t =
      let g : f y ≤ f x = every-among (λ z. f y ≤ f z) (y ∷ l) x (omega arith, r) a.0 in
      let u = t.0 in
      omega arith

  pub reach : (l : List ℕ) (m : ℕ) (s : List ℕ) → Rising f l → Distinct s → Every (λ x. among x l ≡ true) s → m < length s → Every (λ x. f x ≤ hi) s
      → (m < length l) × (f (get_or l m 0) ≤ hi)
  reach [] m s r d a h t = absurd (nobody m s a h)
  reach (y ∷ l) zero s r d a h t = (omega arith, at_head y l s r.0 a h t)
  reach (y ∷ l) (suc m) s r d a h t =
      let n = without-length y s d in
      let w = reach l m (without y s) r.1 (without-distinct y s d) (without_rest y l s a) (omega arith) (without-every (λ x. f x ≤ hi) y s t) in
      (omega arith, w.1)

-- ---- so some run of as many lies between their bounds

pub record Between (f : ℕ → ℕ) (l : List ℕ) (lo hi m : ℕ) : Type 0 where
  pub place : ℕ
  pub inside : place + m < length l
  pub low : lo ≤ f (get_or l place 0)
  pub high : f (get_or l (place + m) 0) ≤ hi

pub some_run : (f : ℕ → ℕ) (lo hi m : ℕ) (l s : List ℕ) → Rising f l → Distinct s → Every (λ x. among x l ≡ true) s → m < length s → Every (λ x. lo ≤ f x) s → Every (λ x. f x ≤ hi) s
    → Between f l lo hi m
some_run f lo hi m [] s r d a h b t = absurd (omega (arith, (reach f hi [] m s tt d a h t).0))
some_run f lo hi m (y ∷ l) s r d a h b t = go (among y s) refl (λ e. some_run f lo hi m l s r.1 d e h b t)
  where
    go : (u : Bool) → among y s ≡ u → (Every (λ x. among x l ≡ true) s → Between f l lo hi m) → Between f (y ∷ l) lo hi m
    go true e ih =
        let w = reach f hi (y ∷ l) m s r d a h t in
        let q : 0 + m ≡ m = omega arith in
        record { place = 0; inside = rw q w.0; low = every-among (λ x. lo ≤ f x) s y b e; high = rw q w.1 }
    go false e ih =
        let w = ih (rw (without_none y s e) at (without_rest y l s a)) in
        let q : suc w.place + m ≡ suc (w.place + m) = omega arith in
        record { place = suc w.place; inside = rw q (omega (arith, w.inside)); low = w.low; high = rw q w.high }
