-- The order of integers, as tests and as facts.
-- Assumes nothing.
use mathlib.Core.Path.{◌≡◌, sym, ap}
use mathlib.Core.Bool.{true, false, false≢true}
use native.Mathlib.Omega.{arith}
use borrow.Author.Tests.{ltb-true, ltb-false}
use lib.Dec.{T, leb→le, le→leb}
use lib.IntN.{ℤ, pos, negsuc}
use lib.Signed.{lt_z, le_z, ◌≤ℤ◌, le_z_yes, lt_z_no}
use Rattle.model.proofs.TestLaws.{holds}

le_trans : (a b c : ℤ) → T (le_z a b) → T (le_z b c) → T (le_z a c)
le_trans (pos a) (pos b) (pos c) h g = le→leb a c (omega (arith, leb→le a b h, leb→le b c g))
le_trans (pos a) (pos b) (negsuc c) h g = g
le_trans (pos a) (negsuc b) c h g = absurd h
le_trans (negsuc a) b (pos c) h g = tt
le_trans (negsuc a) (pos b) (negsuc c) h g = absurd g
le_trans (negsuc a) (negsuc b) (negsuc c) h g = le→leb c a (omega (arith, leb→le b a h, leb→le c b g))

pub ≤ℤ-trans : (a b c : ℤ) → a ≤ℤ b → b ≤ℤ c → a ≤ℤ c
≤ℤ-trans a b c h g = le_z_yes (le_trans a b c h.le g.le)

-- ---- what a test says

lt_le : (a b : ℤ) → lt_z a b ≡ true → T (le_z a b)
lt_le (pos a) (pos b) e = le→leb a b (omega (arith, ltb-true a b e))
lt_le (pos a) (negsuc b) e = holds e
lt_le (negsuc a) (pos b) e = tt
lt_le (negsuc a) (negsuc b) e = le→leb b a (omega (arith, ltb-true b a e))

pub less : (a b : ℤ) → lt_z a b ≡ true → a ≤ℤ b
less a b e = le_z_yes (lt_le a b e)

pub not_less : (a b : ℤ) → lt_z a b ≡ false → b ≤ℤ a
not_less a b e = lt_z_no (rw e tt)

pub equal : (a b : ℤ) → lt_z a b ≡ false → lt_z b a ≡ false → a ≡ b
equal (pos a) (pos b) p q = let h = ltb-false a b p in let g = ltb-false b a q in ap pos (omega arith)
equal (pos a) (negsuc b) p q = absurd (false≢true (sym q))
equal (negsuc a) (pos b) p q = absurd (false≢true (sym p))
equal (negsuc a) (negsuc b) p q = let h = ltb-false b a p in let g = ltb-false a b q in ap negsuc (omega arith)
