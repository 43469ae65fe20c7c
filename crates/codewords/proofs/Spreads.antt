-- The spread of a list of words, by their levels.
-- Assumes nothing.
use mathlib.Core.Path.{◌≡◌, ap, ◌∙◌}
use mathlib.Core.Bool.{true}
use mathlib.Core.List.{List, [], ◌∷◌}
use Prim.Native.Nat.{ℕ, suc, ◌-◌, ◌*◌, ◌<◌, ◌≤◌, max, min}
use native.Mathlib.Omega.{arith}
use lib.IntN.{ℤ, pos, sub_ℕ}
use lib.ListN.{length, get_or}
use Rattle.codewords.specs.Codewords.{weights_right, largest, smallest, spread}
use Rattle.codewords.specs.Claims.{Word, Every}
use Rattle.codewords.specs.Keys.{level}
use Rattle.codewords.proofs.Differences.{sub_gap, sub_max, sub_min}
use Rattle.codewords.proofs.Signals.{word_signal}
use Rattle.codewords.proofs.Lists.{every_map, every_at}

unfoldable top : (ℕ → ℕ) → ℕ → List ℕ → ℕ
top f w [] = f w
top f w (x ∷ xs) = max (f w) (top f x xs)

unfoldable bottom : (ℕ → ℕ) → ℕ → List ℕ → ℕ
bottom f w [] = f w
bottom f w (x ∷ xs) = min (f w) (bottom f x xs)

top_all : (f : ℕ → ℕ) (w : ℕ) (ws : List ℕ) → Every (λ x. f x ≤ top f w ws) (w ∷ ws)
unfolding top
top_all f w [] = (omega arith, tt)
top_all f w (x ∷ xs) = (omega arith, every_map (λ y. f y ≤ top f x xs) (λ y. f y ≤ max (f w) (top f x xs)) (x ∷ xs) (λ y h. omega arith) (top_all f x xs))

bottom_all : (f : ℕ → ℕ) (w : ℕ) (ws : List ℕ) → Every (λ x. bottom f w ws ≤ f x) (w ∷ ws)
unfolding bottom
bottom_all f w [] = (omega arith, tt)
bottom_all f w (x ∷ xs) = (omega arith, every_map (λ y. bottom f x xs ≤ f y) (λ y. min (f w) (bottom f x xs) ≤ f y) (x ∷ xs) (λ y h. omega arith) (bottom_all f x xs))

top_most : (f : ℕ → ℕ) (hi w : ℕ) (ws : List ℕ) → Every (λ x. f x ≤ hi) (w ∷ ws) → top f w ws ≤ hi
unfolding top
top_most f hi w [] e = e.0
top_most f hi w (x ∷ xs) e = let h = top_most f hi x xs e.1 in let g = e.0 in omega arith

bottom_least : (f : ℕ → ℕ) (lo w : ℕ) (ws : List ℕ) → Every (λ x. lo ≤ f x) (w ∷ ws) → lo ≤ bottom f w ws
unfolding bottom
bottom_least f lo w [] e = e.0
bottom_least f lo w (x ∷ xs) e = let h = bottom_least f lo x xs e.1 in let g = e.0 in omega arith

module _ (n k : ℕ) (weights : List ℤ) (r : weights_right weights ≡ true) (l : length weights ≡ n) (b : n ≤ 8) where
  largest_is : (w : ℕ) (ws : List ℕ) → Every (Word n k) (w ∷ ws) → largest weights w ws ≡ sub_ℕ (top (level weights) w ws) (66536 * k)
  unfolding largest top
  largest_is w [] e = word_signal n k weights r l b w e.0
  largest_is w (x ∷ xs) e = rw (largest_is x xs e.1, word_signal n k weights r l b w e.0) (sub_max (level weights w) (top (level weights) x xs) (66536 * k))

  smallest_is : (w : ℕ) (ws : List ℕ) → Every (Word n k) (w ∷ ws) → smallest weights w ws ≡ sub_ℕ (bottom (level weights) w ws) (66536 * k)
  unfolding smallest bottom
  smallest_is w [] e = word_signal n k weights r l b w e.0
  smallest_is w (x ∷ xs) e = rw (smallest_is x xs e.1, word_signal n k weights r l b w e.0) (sub_min (level weights w) (bottom (level weights) x xs) (66536 * k))

  spread_is : (w : ℕ) (ws : List ℕ) → Every (Word n k) (w ∷ ws) → spread weights (w ∷ ws) ≡ pos (top (level weights) w ws - bottom (level weights) w ws)
  unfolding spread
  spread_is w ws e =
      let h = (top_all (level weights) w ws).0 in
      let g = (bottom_all (level weights) w ws).0 in
      rw (largest_is w ws e, smallest_is w ws e) (sub_gap (bottom (level weights) w ws) (top (level weights) w ws) (66536 * k) (omega arith))

  -- the levels between which a list lies, as far apart as its spread
  pub record Bounds (ws : List ℕ) : Type 0 where
    pub lo : ℕ
    pub hi : ℕ
    pub apart : spread weights ws ≡ pos (hi - lo)
    pub above : Every (λ x. lo ≤ level weights x) ws
    pub under : Every (λ x. level weights x ≤ hi) ws

  pub bounds : (ws : List ℕ) → 0 < length ws → Every (Word n k) ws → Bounds ws
  bounds [] h e = absurd (omega arith)
  bounds (w ∷ ws) h e =
      record {
        lo = bottom (level weights) w ws;
        hi = top (level weights) w ws;
        apart = spread_is w ws e;
        above = bottom_all (level weights) w ws;
        under = top_all (level weights) w ws;
      }

  -- the spread of a list whose first word has the lowest level and whose last has the highest
  pub spread_rises : (lo hi : ℕ) (ws : List ℕ) → 0 < length ws → Every (Word n k) ws → Every (λ x. lo ≤ level weights x) ws → Every (λ x. level weights x ≤ hi) ws
      → level weights (get_or ws 0 0) ≡ lo → level weights (get_or ws (length ws - 1) 0) ≡ hi → spread weights ws ≡ pos (hi - lo)
  spread_rises lo hi [] h e a u f g = absurd (omega arith)
  spread_rises lo hi (w ∷ ws) h e a u f g =
      let p = top_most (level weights) hi w ws u in
      let q = bottom_least (level weights) lo w ws a in
      let s = every_at (λ x. level weights x ≤ top (level weights) w ws) (w ∷ ws) (length ws) (top_all (level weights) w ws) (omega arith) in
      let t = (bottom_all (level weights) w ws).0 in
      let d : suc (length ws) - 1 ≡ length ws = omega arith in
      let z : level weights (get_or (w ∷ ws) (length ws) 0) ≡ hi = rw d at g in
      spread_is w ws e ∙ ap pos (omega arith)
