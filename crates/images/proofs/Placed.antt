-- What `placed` makes of a whole state: the way back, where the bits are chosen by whether the code of 1 stands there; and with a layout's table page
-- behind it the image, where the codes are chosen by whether 0 does, and the moved image, where they are chosen by whether the old code of 1
-- does. Assumes nothing.
use mathlib.Core.Path.{◌≡◌, refl, sym, ap, ◌∙◌}
use mathlib.Core.Bool.{Bool, true, false, cond}
use Prim.Native.Nat.{ℕ, zero, suc, ◌<◌}
use native.Mathlib.Nat.{zero-add}
use native.Mathlib.Omega.{arith}
use borrow.Author.Tests.{lt-ltb, ne_eqb}
use lib.Dec.{ltb, eqb}
use borrow.Rule.Slice.PartMut.{put_mid}
use lib.ListN.{length, get_or, take, drop}
use Rattle.model.specs.declared.Layout.{Layout}
use Rattle.model.specs.declared.Kind.{Kind}
use Rattle.model.specs.declared.Kind.TheVariants.{Neither, Public, Sensitive}
use Rattle.model.specs.Limits.{state_size}
use Rattle.model.specs.Layouts.{Known}
use Rattle.model.specs.Places.{State, kind}
use Rattle.model.specs.Code.{code}
use Rattle.model.specs.Images.{by_kind, map_at, fixed, image_at, image, back_at, back}
use Rattle.model.proofs.PlaceLaws.{map_at-length, map_at-get_or, table_cell, image-length}
use Rattle.model.proofs.BackLaws.{back-bits}
use Rattle.images.specs.Pages.{paged}
use Rattle.images.specs.Ranges.{placed}
use Rattle.images.specs.Moving.{moved}
use Rattle.images.proofs.TablePage.{with_page}
use Rattle.images.proofs.Moving.{moved-get_or}

pub back-placed : (L : Layout) (v : State) → map_at (placed L.one 1 0) 0 v ≡ back L v
unfolding placed back back_at code
back-placed L v = refl

-- ---- with the table page behind it

not_public : Public ≡ Neither → ⊥
not_public e = let z : ◌≡◌ {A = ℕ} 0 1 = cc in omega arith

not_sensitive : Sensitive ≡ Neither → ⊥
not_sensitive e = let z : ◌≡◌ {A = ℕ} 0 1 = cc in omega arith

-- in front of the page what is fixed is 0
front-fixed : (L : Layout) (i : ℕ) → i < 288 → kind i ≡ Neither → fixed L i ≡ 0
unfolding kind fixed
front-fixed L i h e = rw (go (ltb i 4) (ltb i 16) (ltb i 32) (ltb i 160) (rw (lt-ltb i 288 h) at e))
  where
    go : (a b c d : Bool) → cond a Neither (cond b Public (cond c Sensitive (cond d Public Sensitive))) ≡ Neither → a ≡ true
    go true b c d q = refl
    go false true c d q = absurd (not_public q)
    go false false true d q = absurd (not_sensitive q)
    go false false false true q = absurd (not_public q)
    go false false false false q = absurd (not_sensitive q)

placed-get_or : (key x y : ℕ) (s : State) → length s ≡ state_size → (i : ℕ) → i < state_size
    → get_or (map_at (placed key x y) 0 s) i 0 ≡ by_kind (kind i) 0 (get_or s i 0) (cond (eqb (get_or s i 0) key) x y)
unfolding placed
placed-get_or key x y s h i g = map_at-get_or (placed key x y) 0 s i (omega arith) ∙ ap (λ (j : ℕ). placed key x y j (get_or s i 0)) (zero-add i)

-- in front of the page it is the same whether 0 or what is fixed is written
front_same : (L : Layout) (i b c : ℕ) → i < 288 → (k : Kind) → kind i ≡ k → by_kind (kind i) 0 b c ≡ by_kind (kind i) (fixed L i) b c
front_same L i b c h Neither e = rw (e, front-fixed L i h e)
front_same L i b c h Public e = rw e
front_same L i b c h Sensitive e = rw e

module _ (L : Layout) (K : Known L) (key x y : ℕ) (s w m page : State) (hs : length s ≡ state_size) (hw : length w ≡ state_size)
    (is : (i : ℕ) → i < state_size → get_or w i 0 ≡ by_kind (kind i) (fixed L i) (get_or s i 0) (cond (eqb (get_or s i 0) key) x y))
    (q : m ≡ map_at (placed key x y) 0 s) (e : page ≡ paged L (take 256 (drop 288 m))) where
  place : (i : ℕ) → i < state_size → get_or m i 0 ≡ by_kind (kind i) 0 (get_or s i 0) (cond (eqb (get_or s i 0) key) x y)
  place i h = ap (λ (l : State). get_or l i 0) q ∙ placed-get_or key x y s hs i h

  paged-placed : put_mid 288 256 m page ≡ w
  paged-placed =
      let long : length m ≡ state_size = ap length q ∙ map_at-length (placed key x y) 0 s ∙ hs in
      with_page L K m w page long hw
      (λ i g. place i (omega arith) ∙ front_same L i (get_or s i 0) _ g (kind i) refl ∙ sym (is i (omega arith)))
      (λ i g h. (place i h ∙ rw (table_cell i g), is i h ∙ rw (table_cell i g))) e

-- ---- images

by_code : (L : Layout) (b : ℕ) → code L b ≡ cond (eqb b 0) L.zero L.one
unfolding code
by_code L zero = refl
by_code L (suc b) = rw (ne_eqb (suc b) 0 (λ q. omega arith))

pub image-placed : (L : Layout) → Known L → (s m page : State) → length s ≡ state_size → m ≡ map_at (placed 0 L.zero L.one) 0 s
    → page ≡ paged L (take 256 (drop 288 m)) → put_mid 288 256 m page ≡ image L s
unfolding image image_at
image-placed L K s m page h =
    paged-placed L K 0 L.zero L.one s (image L s) m page h (image-length L s ∙ h)
    (λ i g. map_at-get_or (image_at L) 0 s i (omega arith) ∙ ap (λ (j : ℕ). image_at L j (get_or s i 0)) (zero-add i) ∙ ap (by_kind (kind i) (fixed L i) (get_or s i 0)) (by_code L (get_or s i 0)))

-- ---- moved images

by_old_code : (old new : Layout) (x : ℕ) → code new (cond (eqb x (code old 1)) 1 0) ≡ cond (eqb x (code old 1)) new.one new.zero
unfolding code
by_old_code old new x = go (eqb x old.one)
  where
    go : (t : Bool) → code new (cond t 1 0) ≡ cond t new.one new.zero
    go true = refl
    go false = refl

moves_at : (old new : Layout) (i x : ℕ) (k : Kind) → kind i ≡ k → image_at new i (back_at old i x) ≡ by_kind (kind i) (fixed new i) x (cond (eqb x (code old 1)) new.one new.zero)
unfolding image_at back_at
moves_at old new i x Neither e = rw e
moves_at old new i x Public e = rw e
moves_at old new i x Sensitive e = rw e (by_old_code old new x)

pub moved-placed : (old new : Layout) → Known new → (v m page : State) → length v ≡ state_size → m ≡ map_at (placed old.one new.one new.zero) 0 v
    → page ≡ paged new (take 256 (drop 288 m)) → put_mid 288 256 m page ≡ moved old new v
unfolding code
moved-placed old new K v m page h =
    paged-placed new K old.one new.one new.zero v (moved old new v) m page h (image-length new (back old v) ∙ (back-bits old v h).long)
    (λ i g. moved-get_or old new v h i g ∙ moves_at old new i (get_or v i 0) (kind i) refl)
