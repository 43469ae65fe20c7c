-- The starts, added up one line after the other, and looked up.
-- Assumes nothing.
use mathlib.Core.Path.{◌≡◌, refl, sym, ap, ◌∙◌}
use mathlib.Core.List.{List, [], ◌∷◌}
use mathlib.Core.Logic.{◌≢◌}
use Prim.Native.Nat.{ℕ, ◌+◌, ◌≤◌, ◌<◌}
use native.Mathlib.Numerals.{add-one}
use native.Mathlib.Decide.{ℕ_discrete}
use native.Mathlib.Omega.{arith}
use borrow.Author.Tests.{lt-ltb, le-ltb}
use Rattle.std.proofs.lemmas.List.{get_or_past}
use Rattle.model.proofs.TestLaws.{below}
use lib.ListN.{length, get_or, set}
use lib.Seq.{get_or-set_same, get_or-set_other}
use Rattle.model.specs.declared.Layout.{Layout}
use Rattle.model.specs.declared.Line.{Line}
use Rattle.model.specs.Limits.{max_accepted}
use Rattle.model.specs.Stored.{line_count, line_at, lines}
use Rattle.model.specs.Expansion.{size, start, expand}
use Rattle.model.proofs.Parts.{start_suc}
use Rattle.model.proofs.StoredLaws.{get_line, length-lines}
use Rattle.model.proofs.Acceptance.{accepted_right}
use Rattle.model.proofs.ExpansionLaws.{expand-length, joined_same}
use Rattle.expander.specs.Starts.{looked_up, Starts, LookedUp}

pub start-zero : (L : Layout) (p : List Line) → start L p 0 ≡ 0
unfolding start
start-zero L [] = refl
start-zero L (l ∷ p) = refl

pub start-next : (L : Layout) (p : List ℕ) (i sum x : ℕ) → i < line_count p → sum ≡ start L (lines p) i → x ≡ size L (line_at p i) → sum + x ≡ start L (lines p) (i + 1)
start-next L p i sum x h e w = rw (add-one i, start_suc L (lines p) i (line_at p i) (get_line p i h), e, w)

-- the starts of the first n lines and of the one after them stand
abbrev pub UpTo : Layout → List ℕ → List Line → ℕ → Type 0
UpTo L s p n = (t : ℕ) → t ≤ n → get_or s t 0 ≡ start L p t

pub up_to_none : (L : Layout) (s : List ℕ) (p : List Line) → 0 < length s → UpTo L (set s 0 0) p 0
up_to_none L s p h t g =
    let e : t ≡ 0 = omega arith in
    rw (e, start-zero L p) (get_or-set_same s 0 0 0 h)

pub up_to_next : (L : Layout) (s : List ℕ) (p : List Line) (i v : ℕ) → i + 1 < length s → UpTo L s p i → v ≡ start L p (i + 1) → UpTo L (set s (i + 1) v) p (i + 1)
up_to_next L s p i v h b e t g = go (ℕ_discrete t (i + 1))
  where
    go : Dec (t ≡ i + 1) → get_or (set s (i + 1) v) t 0 ≡ start L p t
    go (yes q) = rw (q, get_or-set_same s (i + 1) v 0 h) e
    go (no n) = get_or-set_other s (i + 1) t v 0 n ∙ b t (below n)
      where
        below : t ≢ (i + 1) → t ≤ i
        below n = omega arith

found : (s : List ℕ) (t : ℕ) → t ≤ max_accepted → looked_up s t ≡ get_or s t 0
found s t h = rw (lt-ltb t (max_accepted + 1) (omega arith))

pub looked_up_any : (s : List ℕ) (t : ℕ) → length s ≡ max_accepted + 1 → looked_up s t ≡ get_or s t 0
looked_up_any s t h = below t (max_accepted + 1) (λ l. rw (lt-ltb t (max_accepted + 1) l)) (λ g. rw (le-ltb t (max_accepted + 1) g, get_or_past s t 0 (omega arith)))

-- all of them are those of the lines and of the end
pub starts_all : (L : Layout) (s p : List ℕ) (i : ℕ) → line_count p ≤ max_accepted → i ≡ line_count p → UpTo L s (lines p) i → Starts L s (lines p)
starts_all L s p i h e b = record {
  line = λ t g. found s t (omega (arith, n)) ∙ b t (omega (arith, n));
  end = found s (length (lines p)) (omega (arith, n)) ∙ b (length (lines p)) (omega (arith, n)) ∙ sym (expand-length L (lines p) (length (lines p)) refl);
}
  where
    n : length (lines p) ≡ line_count p
    n = length-lines p

-- at and before the end
starts_found : (L : Layout) (s : List ℕ) (p : List Line) → Starts L s p → (t : ℕ) → t ≤ length p → looked_up s t ≡ start L p t
starts_found L s p S t h = go (ℕ_discrete t (length p))
  where
    go : Dec (t ≡ length p) → looked_up s t ≡ start L p t
    go (yes q) = rw q (S.end ∙ expand-length L p (length p) refl)
    go (no n) = S.line t (omega (arith, n))

pub looked_up_lem : LookedUp
unfolding LookedUp expand
looked_up_lem L s p A S = joined_same L (looked_up s) (start L p) (length p) (starts_found L s p S) p (accepted_right p A).right

-- the last start, which is the expansion's length
pub starts_last : (L : Layout) (s p : List ℕ) → line_count p ≤ max_accepted → Starts L s (lines p) → get_or s (line_count p) 0 ≡ length (expand L (lines p))
starts_last L s p h S = ap (λ (n : ℕ). get_or s n 0) (sym (length-lines p)) ∙ sym (found s (length (lines p)) (omega (arith, length-lines p))) ∙ S.end
