-- One text written after another. Assumes nothing.
use Prim.Native.Nat.{ℕ, ◌+◌, ◌≤◌}
use mathlib.Core.Path.{◌≡◌, refl, ap, ◌∙◌}
use mathlib.Core.List.{List, [], ◌++◌}
use native.Mathlib.Omega.{arith}
use lib.ListN.{length, length-append}
use lib.Seq.{sets}
use Rattle.printing.specs.Writing.{Wrote}
use Rattle.model.proofs.Overwrites.{sets_append}

module _ {o p : List ℕ} {a b : ℕ} {x : List ℕ} {m : ℕ} (w : Wrote o p a b x m) (y : List ℕ) where
  pub wrote_sets : sets p b y ≡ sets o a (x ++ y)
  wrote_sets = ap (λ (l : List ℕ). sets l b y) w.bytes ∙ ap (λ (i : ℕ). sets (sets o a x) i y) w.after ∙ sets_append o a x y

module _ {o p q : List ℕ} {a b c : ℕ} {x y : List ℕ} {m k : ℕ} where
  pub then : Wrote o p a b x m → Wrote p q b c y k → Wrote o q a c (x ++ y) (m + k)
  then u v =
      record {
        bytes = v.bytes ∙ wrote_sets u y;
        after = omega (arith, u.after, v.after, length-append x y);
        near = omega (arith, u.near, v.near);
      }

pub nothing : (o : List ℕ) (a m : ℕ) → Wrote o o a a [] m
nothing o a m = record { bytes = refl; after = omega arith; near = omega arith }

-- the text or the bound written in another way
pub as_text : {o p : List ℕ} {a b : ℕ} {x y : List ℕ} {m : ℕ} → x ≡ y → Wrote o p a b x m → Wrote o p a b y m
as_text {o} {p} {a} {b} {x} {y} {m} e w =
    record { bytes = w.bytes ∙ ap (sets o a) e; after = w.after ∙ ap (λ (l : List ℕ). a + length l) e; near = w.near }

pub at_most : {o p : List ℕ} {a b : ℕ} {x : List ℕ} {m k : ℕ} → m ≤ k → Wrote o p a b x m → Wrote o p a b x k
at_most h w = record { bytes = w.bytes; after = w.after; near = omega (arith, w.near) }
