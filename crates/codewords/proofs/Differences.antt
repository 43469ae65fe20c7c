-- An integer as a difference of two numbers, `sub_ℕ`: sums, order and gaps of differences are those of numbers.
-- Assumes nothing.
use mathlib.Core.Path.{◌≡◌, sym, ap, ◌∙◌}
use Prim.Native.Nat.{ℕ, suc, ◌+◌, ◌-◌, ◌<◌, ◌≤◌, max, min}
use native.Mathlib.Omega.{arith}
use borrow.Author.Tests.{lt-ltb, le-ltb}
use lib.Dec.{ltb}
use lib.IntN.{pos, negsuc, neg_ℤ, sub_ℕ, ◌+ℤ◌, ◌-ℤ◌}
use lib.Signed.{lt_z}
use Rattle.model.proofs.TestLaws.{below}
use Rattle.codewords.specs.Codewords.{larger, smaller}

pub sub_up : (m c : ℕ) → c ≤ m → sub_ℕ m c ≡ pos (m - c)
sub_up m c h = rw (le-ltb m c h)

pub sub_down : (m c : ℕ) → m < c → sub_ℕ m c ≡ negsuc (c - suc m)
sub_down m c h = rw (lt-ltb m c h)

pub sub_same : (m c n d : ℕ) → m + d ≡ n + c → sub_ℕ m c ≡ sub_ℕ n d
sub_same m c n d e =
    below m c
    (λ h. let q : c - suc m ≡ d - suc n = omega arith in sub_down m c h ∙ ap negsuc q ∙ sym (sub_down n d (omega arith)))
    (λ h. let q : m - c ≡ n - d = omega arith in sub_up m c h ∙ ap pos q ∙ sym (sub_up n d (omega arith)))

pub sub_add : (m c n d : ℕ) → sub_ℕ m c +ℤ sub_ℕ n d ≡ sub_ℕ (m + n) (c + d)
sub_add m c n d =
    below m c
    (λ h. below n d
    (λ g. let q : suc (c - suc m + (d - suc n)) ≡ c + d - suc (m + n) = omega arith in
    rw (sub_down m c h, sub_down n d g, sub_down (m + n) (c + d) (omega arith), q))
    (λ g. rw (sub_down m c h, sub_up n d g) (sub_same (n - d) (suc (c - suc m)) (m + n) (c + d) (omega arith))))
    (λ h. below n d
    (λ g. rw (sub_up m c h, sub_down n d g) (sub_same (m - c) (suc (d - suc n)) (m + n) (c + d) (omega arith)))
    (λ g. let q : m - c + (n - d) ≡ m + n - (c + d) = omega arith in
    rw (sub_up m c h, sub_up n d g, sub_up (m + n) (c + d) (omega arith), q)))

-- two tests with one outcome
ltb_same : (a b c d : ℕ) → (a < b → c < d) → (b ≤ a → d ≤ c) → ltb a b ≡ ltb c d
ltb_same a b c d f g = below a b (λ h. lt-ltb a b h ∙ sym (lt-ltb c d (f h))) (λ h. le-ltb a b h ∙ sym (le-ltb c d (g h)))

pub sub_order : (m n c : ℕ) → lt_z (sub_ℕ m c) (sub_ℕ n c) ≡ ltb m n
sub_order m n c =
    below m c
    (λ h. below n c
    (λ g. rw (sub_down m c h, sub_down n c g) (ltb_same (c - suc n) (c - suc m) m n (λ w. omega arith) (λ w. omega arith)))
    (λ g. rw (sub_down m c h, sub_up n c g) (sym (lt-ltb m n (omega arith)))))
    (λ h. below n c
    (λ g. rw (sub_up m c h, sub_down n c g) (sym (le-ltb m n (omega arith))))
    (λ g. rw (sub_up m c h, sub_up n c g) (ltb_same (m - c) (n - c) m n (λ w. omega arith) (λ w. omega arith))))

sub_neg : (m c : ℕ) → neg_ℤ (sub_ℕ m c) ≡ sub_ℕ c m
sub_neg m c =
    below m c
    (λ h. let q : suc (c - suc m) ≡ c - m = omega arith in rw (sub_down m c h, q) (sym (sub_up c m (omega arith))))
    (λ h. below c m
    (λ g. let q : m - c ≡ suc (m - suc c) = omega arith in rw (sub_up m c h, q) (sym (sub_down c m g)))
    (λ g. let q : m - c ≡ 0 = omega arith in let r : c - m ≡ 0 = omega arith in rw (sub_up m c h, q) (sym (sub_up c m g ∙ ap pos r))))

pub sub_gap : (m n c : ℕ) → m ≤ n → sub_ℕ n c -ℤ sub_ℕ m c ≡ pos (n - m)
sub_gap m n c h = rw (sub_neg m c, sub_add n c c m) (sub_same (n + c) (c + m) n m (omega arith) ∙ sub_up n m h)

-- the larger and the smaller of two
pub sub_max : (m n c : ℕ) → larger (sub_ℕ m c) (sub_ℕ n c) ≡ sub_ℕ (max m n) c
sub_max m n c =
    rw (sub_order m n c)
    (below m n (λ h. let q : max m n ≡ n = omega arith in rw (lt-ltb m n h, q)) (λ h. let q : max m n ≡ m = omega arith in rw (le-ltb m n h, q)))

pub sub_min : (m n c : ℕ) → smaller (sub_ℕ m c) (sub_ℕ n c) ≡ sub_ℕ (min m n) c
sub_min m n c =
    rw (sub_order n m c)
    (below n m (λ h. let q : min m n ≡ n = omega arith in rw (lt-ltb n m h, q)) (λ h. let q : min m n ≡ m = omega arith in rw (le-ltb n m h, q)))
