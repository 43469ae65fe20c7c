-- The parts joined, one line of the program after the other.
-- Assumes nothing.
use mathlib.Core.Path.{◌≡◌, refl, sym, ap, ap₂, ◌∙◌}
use mathlib.Core.List.{List, [], ◌∷◌, ◌++◌, append_assoc, append-nil}
use Prim.Native.Nat.{ℕ, zero, suc, ◌+◌, ◌*◌, ◌≤◌, ◌<◌}
use native.Mathlib.Numerals.{add-one}
use native.Mathlib.Omega.{arith}
use lib.ListN.{length, take, drop, length-append}
use lib.Seq.{take_all}
use Rattle.model.specs.declared.Layout.{Layout}
use Rattle.model.specs.declared.Line.{Line}
use Rattle.model.specs.Stored.{line_count, line_at, lines}
use Rattle.model.specs.Expansion.{part, size, start, joined}
use Rattle.model.proofs.Parts.{part-size, start_suc}
use Rattle.model.proofs.StoredLaws.{drop_line, get_line, length-lines}
use Rattle.model.proofs.ExpansionLaws.{start_within}
use Rattle.pieces.specs.Writes.{put, Wrote}
use Rattle.pieces.proofs.StoreWrites.{wrote_none, wrote_then}

joined-next : (L : Layout) (f : ℕ → ℕ) (p r : List Line) (l : Line) (i : ℕ) → drop i p ≡ l ∷ r → joined L f (take (suc i) p) ≡ joined L f (take i p) ++ part L f l
unfolding joined
joined-next L f [] r l zero e = let z : ◌≡◌ {A = ℕ} 0 1 = cc in absurd (omega arith)
joined-next L f [] r l (suc i) e = let z : ◌≡◌ {A = ℕ} 0 1 = cc in absurd (omega arith)
joined-next L f (x ∷ p) r l zero e = let q : x ≡ l = cc in rw q (append-nil (part L f l))
joined-next L f (x ∷ p) r l (suc i) e =
    ap (λ (k : List Line). part L f x ++ k) (joined-next L f p r l i e) ∙ sym (append_assoc (part L f x) (joined L f (take i p)) (part L f l))

joined_length : (L : Layout) (f : ℕ → ℕ) (p : List Line) (i : ℕ) → length (joined L f (take i p)) ≡ start L p i
unfolding joined start
joined_length L f [] zero = refl
joined_length L f [] (suc i) = refl
joined_length L f (l ∷ p) zero = refl
joined_length L f (l ∷ p) (suc i) = length-append (part L f l) (joined L f (take i p)) ∙ ap₂ (λ (a b : ℕ). a + b) (part-size L f l) (joined_length L f p i)

-- the parts of the first i lines written, and the next one
module _ (L : Layout) (p out : List ℕ) (f : ℕ → ℕ) where
  pub no_parts : Wrote out out 0 0 (joined L f (take 0 (lines p)))
  unfolding joined
  no_parts = wrote_none out 0 (omega arith)

  pub next-part : {o o' : List ℕ} {at k : ℕ} (i : ℕ) → i < line_count p → Wrote out o 0 at (joined L f (take i (lines p))) → Wrote o o' at k (part L f (line_at p i))
      → Wrote out o' 0 k (joined L f (take (i + 1) (lines p)))
  next-part i h w v = rw (add-one i, joined-next L f (lines p) (drop (i + 1) (lines p)) (line_at p i) i (drop_line p i h)) (wrote_then w v)

  -- there is room for it where there is room for all
  pub part_room : {o : List ℕ} {at : ℕ} (i : ℕ) → 6 * start L (lines p) (line_count p) ≤ length out → i < line_count p
      → Wrote out o 0 at (joined L f (take i (lines p))) → 6 * (at + size L (line_at p i)) ≤ length o
  part_room i room h w =
      omega (
        arith,
        joined_length L f (lines p) i,
        start_suc L (lines p) i (line_at p i) (get_line p i h),
        start_within L (lines p) (suc i) (line_count p) (sym (length-lines p)),
      )

  pub all_parts : {o : List ℕ} {at : ℕ} (i : ℕ) → line_count p ≤ i → Wrote out o 0 at (joined L f (take i (lines p))) → o ≡ put out 0 (joined L f (lines p))
  all_parts i h w = rw (w.holds, take_all i (lines p) (omega (arith, length-lines p)))
