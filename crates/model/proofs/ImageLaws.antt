-- A bit state and its image by their places past r3: what a place holds in both, and what a sensitive operand names.
-- Assumes nothing.
use mathlib.Core.Path.{◌≡◌, refl, sym, ap, ◌∙◌}
use mathlib.Core.List.{List}
use Prim.Native.Nat.{ℕ, zero, suc, ◌+◌, ◌-◌, ◌≤◌, ◌<◌}
use native.Mathlib.Omega.{arith}
use borrow.Author.Tests.{le-ltb}
use lib.ListN.{length, get_or, set}
use Rattle.model.specs.declared.Layout.{Layout}
use Rattle.model.specs.declared.Operand.{Operand}
use Rattle.model.specs.declared.Kind.TheVariants.{Public, Sensitive}
use Rattle.model.specs.Places.{State, kind, place, address}
use Rattle.model.specs.Code.{code, page}
use Rattle.model.specs.Images.{Bit, BitState, map_at, image_at, SamePublic}
use Rattle.model.proofs.PlaceLaws.{map_at-length, map_at-get_or, map_at-set, same_sensitive, table_cell}
use Rattle.model.proofs.Operands.{SensitivePlace, steady-place, place_same, address_same, sensitive_of}
use Rattle.model.proofs.Pieces.{held, plus4, Destination}

pub image_public : (L : Layout) (i x : ℕ) → kind i ≡ Public → image_at L i x ≡ x
unfolding image_at
image_public L i x e = rw e

pub image_sensitive : (L : Layout) (i x : ℕ) → kind i ≡ Sensitive → image_at L i x ≡ code L x
unfolding image_at
image_sensitive L i x e = rw e

-- cell 256 + n of the table page, place 288 + n, which is past r3 by 284 + n
pub image-page : (L : Layout) (n x : ℕ) → image_at L (4 + (284 + n)) x ≡ page L n
unfolding image_at
image-page L n x =
    let e : 4 + (284 + n) ≡ 288 + n = omega arith in
    let q : (288 + n) - 288 ≡ n = omega arith in
    rw (e, table_cell (288 + n) (omega arith), le-ltb (288 + n) 4 (omega arith), q)

pub bit_sensitive : (i x : ℕ) → kind i ≡ Sensitive → Bit i x → x ≤ 1
unfolding Bit
bit_sensitive i x e h = rw e at h

pub sensitive_bit : (i x : ℕ) → kind i ≡ Sensitive → x ≤ 1 → Bit i x
unfolding Bit
sensitive_bit i x e h = rw e h

pub public_bit : (i x : ℕ) → kind i ≡ Public → Bit i x
unfolding Bit
public_bit i x e = rw e tt

-- a bit state by its places past r3, and the image's
abbrev pub zeros : List ℕ → State
zeros r = held 0 0 0 r

abbrev pub rails : (L : Layout) → List ℕ → List ℕ
rails L r = map_at (image_at L) 4 r

-- where a sensitive operand points, past r3, and the code of the bit that stands there
pub record Found (L : Layout) (r : List ℕ) (o : Operand) : Type 0 where
  pub at : ℕ
  pub names : place o (zeros r) ≡ plus4 at
  pub sensitive : kind (plus4 at) ≡ Sensitive
  pub bit : get_or r at 0 < 2
  pub holds : get_or (rails L r) at 0 ≡ code L (get_or r at 0)
  pub destination : Destination o (rails L r) at (address o (zeros r))

module _ (L : Layout) (r : List ℕ) (bits : BitState (zeros r)) where
  pub tail_length : length r ≡ 540
  tail_length = omega (arith, bits.long)

  pub rails-length : length (rails L r) ≡ 540
  rails-length = map_at-length (image_at L) 4 r ∙ tail_length

  -- the image agrees with the bit state in the public places, whatever the scratch registers hold
  pub same_held : (x y z : ℕ) → SamePublic (zeros r) (held x y z (rails L r))
  unfolding SamePublic kind
  same_held x y z zero h o = refl
  same_held x y z (suc zero) h o = cc
  same_held x y z (suc (suc zero)) h o = cc
  same_held x y z (suc (suc (suc zero))) h o = cc
  same_held x y z (suc (suc (suc (suc m)))) h o =
      sym (map_at-get_or (image_at L) 4 r m (omega (arith, tail_length)) ∙ image_public L (4 + m) (get_or r m 0) (ap kind four ∙ o))
    where
      four : 4 + m ≡ plus4 m
      four = omega arith

  sensitive_holds : (q : ℕ) → kind (plus4 q) ≡ Sensitive → q < 540 → (get_or r q 0 < 2) × (get_or (rails L r) q 0 ≡ code L (get_or r q 0))
  sensitive_holds q e h = (
    omega (arith, bit_sensitive (plus4 q) (get_or r q 0) e (bits.bits (plus4 q) (omega arith))),
    map_at-get_or (image_at L) 4 r q (omega (arith, tail_length)) ∙ image_sensitive L (4 + q) (get_or r q 0) (ap kind four ∙ e),
  )
    where
      four : 4 + q ≡ plus4 q
      four = omega arith

  pub found : (o : Operand) → SensitivePlace o → Found L r o
  found o h =
      let f = sensitive_of o h (zeros r) in
      let q : ℕ = place o (zeros r) - 4 in
      let e : place o (zeros r) ≡ plus4 q = omega (arith, f.past) in
      let i : kind (plus4 q) ≡ Sensitive = ap kind (sym e) ∙ f.is in
      let g = sensitive_holds q i (omega (arith, f.within, f.past)) in
      record {
        at = q;
        names = e;
        sensitive = i;
        bit = g.0;
        holds = g.1;
        destination = record {
          within = omega (arith, f.within, f.past, rails-length);
          names = λ x y z. sym (place_same (zeros r) (held x y z (rails L r)) (same_held x y z) o (steady-place o h)) ∙ e;
          stands = λ x y z. sym (address_same (zeros r) (held x y z (rails L r)) (same_held x y z) o (steady-place o h));
          names_cleared = λ x y z.
              sym (place_same (zeros r) (held x y z (set (rails L r) q 0)) (same_sensitive (zeros r) (held x y z (rails L r)) (plus4 q) 0 (same_held x y z) i) o (steady-place o h)) ∙ e;
          stands_cleared = λ x y z.
              sym (address_same (zeros r) (held x y z (set (rails L r) q 0)) (same_sensitive (zeros r) (held x y z (rails L r)) (plus4 q) 0 (same_held x y z) i) o (steady-place o h));
        };
      }

  -- a code written at a sensitive place is the image of the bit written there, and a public value its own
  pub write_sensitive : (q c : ℕ) → kind (plus4 q) ≡ Sensitive → set (rails L r) q (code L c) ≡ rails L (set r q c)
  write_sensitive q c e = ap (set (rails L r) q) (sym (image_sensitive L (4 + q) c (ap kind four ∙ e))) ∙ sym (map_at-set (image_at L) 4 r q c)
    where
      four : 4 + q ≡ plus4 q
      four = omega arith

  pub write_public : (q c : ℕ) → kind (plus4 q) ≡ Public → set (rails L r) q c ≡ rails L (set r q c)
  write_public q c e = ap (set (rails L r) q) (sym (image_public L (4 + q) c (ap kind four ∙ e))) ∙ sym (map_at-set (image_at L) 4 r q c)
    where
      four : 4 + q ≡ plus4 q
      four = omega arith
