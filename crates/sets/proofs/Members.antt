-- Sets as lists: what is in them, each value once, and how many there are.
-- Assumes nothing.
use mathlib.Core.Path.{◌≡◌, refl, sym, ap, ◌∙◌}
use mathlib.Core.Bool.{Bool, true, false, not, cond, ◌||◌}
use mathlib.Core.List.Memᴰ
use mathlib.Core.List.{List, [], ◌∷◌, ◌++◌, map, Memᴰ}
use mathlib.Core.Logic.{◌⊎◌, inl, inr, ⊎_elim}
use Prim.Native.Nat.{ℕ, suc, ◌≤◌, ◌<◌}
use native.Mathlib.Omega.{arith}
use borrow.Author.Tests.{eqb-true, eqb-false, le-ltb}
use lib.Dec.{T, eqb, nltb→le}
use lib.ListN.{length, get_or}
use Rattle.sets.specs.Walk.{member, insert, insert_all, distinct, several}
use Rattle.sets.specs.Claims.{In, Once}

-- ---- members

pub first_in : (xs : List ℕ) → 0 < length xs → In (get_or xs 0 0) xs
first_in [] h = absurd (omega arith)
first_in (x ∷ xs) h = inl refl

pub in_some : (x : ℕ) (xs : List ℕ) → In x xs → 0 < length xs
in_some x [] m = absurd m
in_some x (y ∷ xs) m = omega arith

-- in the library's form, and back
pub in_mem : (x : ℕ) (xs : List ℕ) → In x xs → Memᴰ x xs
in_mem x [] h = absurd h
in_mem x (y ∷ ys) (inl q) = Memᴰ.head q
in_mem x (y ∷ ys) (inr m) = Memᴰ.tail (in_mem x ys m)

pub mem_in : {x : ℕ} {xs : List ℕ} → Memᴰ x xs → In x xs
mem_in (Memᴰ.head q) = inl q
mem_in (Memᴰ.tail m) = inr (mem_in m)

-- by whether a value is in a list
pub by_member : (P : Bool → Type 0) (x : ℕ) (xs : List ℕ) → (In x xs → P true) → ((In x xs → ⊥) → P false) → P (member x xs)
unfolding member
by_member P x [] f g = g (λ m. m)
by_member P x (y ∷ ys) f g = go (λ f g. by_member P x ys f g) (eqb x y) refl
  where
    go : ((In x ys → P true) → ((In x ys → ⊥) → P false) → P (member x ys)) → (b : Bool) → eqb x y ≡ b → P (b || member x ys)
    go rest true e = f (inl (eqb-true x y e))
    go rest false e = rest (λ m. f (inr m)) (λ n. g (λ m. ⊎_elim (eqb-false x y e) n m))

-- ---- distinct has the members of a list

-- what is in a list with one value more at its end
behind : (y x : ℕ) (xs : List ℕ) → In y (xs ++ x ∷ []) → In y xs ⊎ (y ≡ x)
behind y x xs m = go (Memᴰ.append_cases xs (in_mem y (xs ++ x ∷ []) m))
  where
    go : Memᴰ y xs ⊎ Memᴰ y (x ∷ []) → In y xs ⊎ (y ≡ x)
    go (inl m) = inl (mem_in m)
    go (inr m) = inr (Memᴰ.eq_of_singleton m)

insert_in : (y x : ℕ) (xs : List ℕ) → In y (insert xs x) → In y xs ⊎ (y ≡ x)
unfolding insert
insert_in y x xs = by_member (λ b. In y (cond b xs (xs ++ x ∷ [])) → In y xs ⊎ (y ≡ x)) x xs (λ h m. inl m) (λ n m. behind y x xs m)

pub in_insert : (y x : ℕ) (xs : List ℕ) → In y xs ⊎ (y ≡ x) → In y (insert xs x)
unfolding insert
in_insert y x xs (inl m) = by_member (λ b. In y (cond b xs (xs ++ x ∷ []))) x xs (λ h. m) (λ n. mem_in (Memᴰ.append_left (x ∷ []) (in_mem y xs m)))
in_insert y x xs (inr q) = by_member (λ b. In y (cond b xs (xs ++ x ∷ []))) x xs (λ h. rw q h) (λ n. mem_in (Memᴰ.append_right xs (Memᴰ.head q)))

all_in : (y : ℕ) (xs ys : List ℕ) → In y (insert_all xs ys) → In y xs ⊎ In y ys
unfolding insert_all
all_in y xs [] m = inl m
all_in y xs (x ∷ ys) m = go (all_in y (insert xs x) ys m)
  where
    go : In y (insert xs x) ⊎ In y ys → In y xs ⊎ In y (x ∷ ys)
    go (inl h) = ⊎_elim (λ k. inl k) (λ q. inr (inl q)) (insert_in y x xs h)
    go (inr h) = inr (inr h)

in_all : (y : ℕ) (xs ys : List ℕ) → In y xs ⊎ In y ys → In y (insert_all xs ys)
unfolding insert_all
in_all y xs [] (inl m) = m
in_all y xs [] (inr m) = absurd m
in_all y xs (x ∷ ys) (inl m) = in_all y (insert xs x) ys (inl (in_insert y x xs (inl m)))
in_all y xs (x ∷ ys) (inr (inl q)) = in_all y (insert xs x) ys (inl (in_insert y x xs (inr q)))
in_all y xs (x ∷ ys) (inr (inr m)) = in_all y (insert xs x) ys (inr m)

pub distinct_in : (x : ℕ) (xs : List ℕ) → In x (distinct xs) → In x xs
distinct_in x xs m = ⊎_elim (λ h. absurd h) (λ h. h) (all_in x [] xs m)

pub in_distinct : (x : ℕ) (xs : List ℕ) → In x xs → In x (distinct xs)
in_distinct x xs m = in_all x [] xs (inr m)

-- ---- and each of them once

once_behind : (x : ℕ) (xs : List ℕ) → (In x xs → ⊥) → Once xs → Once (xs ++ x ∷ [])
unfolding Once
once_behind x [] n o = ((λ m. m), tt)
once_behind x (y ∷ xs) n o = ((λ m. ⊎_elim o.0 (λ q. n (inl (sym q))) (behind y x xs m)), once_behind x xs (λ m. n (inr m)) o.1)

once_all : (xs ys : List ℕ) → Once xs → Once (insert_all xs ys)
unfolding insert_all insert
once_all xs [] o = o
once_all xs (y ∷ ys) o = once_all (insert xs y) ys (by_member (λ b. Once (cond b xs (xs ++ y ∷ []))) y xs (λ h. o) (λ n. once_behind y xs n o))

pub once_distinct : (xs : List ℕ) → Once (distinct xs)
unfolding Once
once_distinct xs = once_all [] xs tt

-- ---- how many

-- a list without the first x
unfoldable without : ℕ → List ℕ → List ℕ
without x [] = []
without x (y ∷ ys) = cond (eqb x y) ys (y ∷ without x ys)

without-length : (x : ℕ) (q : List ℕ) → In x q → suc (length (without x q)) ≤ length q
unfolding without
without-length x [] h = absurd h
without-length x (y ∷ ys) h = go (λ m. without-length x ys m) (eqb x y) refl h
  where
    go : (In x ys → suc (length (without x ys)) ≤ length ys) → (b : Bool) → eqb x y ≡ b → (x ≡ y) ⊎ In x ys
        → suc (length (cond b ys (y ∷ without x ys))) ≤ suc (length ys)
    go rest true e h = omega arith
    go rest false e (inl q) = absurd (eqb-false x y e q)
    go rest false e (inr m) = omega (arith, rest m)

in_without : (x z : ℕ) (q : List ℕ) → (z ≡ x → ⊥) → In z q → In z (without x q)
unfolding without
in_without x z [] n h = h
in_without x z (y ∷ ys) n h = go (λ m. in_without x z ys n m) (eqb x y) refl h
  where
    go : (In z ys → In z (without x ys)) → (b : Bool) → eqb x y ≡ b → (z ≡ y) ⊎ In z ys → In z (cond b ys (y ∷ without x ys))
    go rest true e (inl q) = absurd (n (q ∙ sym (eqb-true x y e)))
    go rest true e (inr m) = m
    go rest false e (inl q) = inl q
    go rest false e (inr m) = inr (rest m)

-- a set whose values are all in a list has at most as many
pub few : (xs q : List ℕ) → Once xs → ((x : ℕ) → In x xs → In x q) → length xs ≤ length q
unfolding Once
few [] q o h = omega arith
few (x ∷ xs) q o h =
    let others : (y : ℕ) → In y xs → In y (without x q) = λ y m. in_without x y q (λ r. o.0 (rw r at m)) (h y (inr m)) in
    omega (arith, few xs (without x q) o.1 others, without-length x q (h x (inl refl)))

-- ---- what a function makes of the members

pub in_map : (f : ℕ → ℕ) (y : ℕ) (xs : List ℕ) → In y xs → In (f y) (map f xs)
in_map f y xs m = mem_in (Memᴰ.map f (in_mem y xs m))

pub map_in : (f : ℕ → ℕ) (x : ℕ) (xs : List ℕ) → In x (map f xs) → (y : ℕ) × In y xs × (x ≡ f y)
map_in f x xs m = let r = Memᴰ.of_map f xs (in_mem x (map f xs) m) in (r.0, mem_in r.1, sym r.2)

-- ---- several values, or one

pub single : (xs : List ℕ) (v : ℕ) → Once xs → ((x : ℕ) → In x xs → x ≡ v) → T (not (several xs))
single xs v o h = rw (le-ltb 1 (length xs) (few xs (v ∷ []) o (λ x m. inl (h x m)))) tt

-- of members of one value alone a function makes one
pub single_map : (f : ℕ → ℕ) (xs : List ℕ) (v : ℕ) → ((x : ℕ) → In x xs → x ≡ v) → T (not (several (distinct (map f xs))))
single_map f xs v h =
    single (distinct (map f xs)) (f v) (once_distinct (map f xs))
    (λ x m. let r = map_in f x xs (distinct_in x (map f xs) m) in r.2 ∙ ap f (h r.0 r.1))

pub settled : (x y : ℕ) (xs : List ℕ) → T (not (several xs)) → In x xs → In y xs → x ≡ y
settled x y [] h a b = absurd a
settled x y (z ∷ []) h (inl p) (inl q) = p ∙ sym q
settled x y (z ∷ []) h (inl p) (inr b) = absurd b
settled x y (z ∷ []) h (inr a) b = absurd a
settled x y (z ∷ w ∷ xs) h a b = absurd (omega (arith, nltb→le 1 (length (z ∷ w ∷ xs)) h))
