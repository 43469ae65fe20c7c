-- Bounds that hold only images of a layout, but for the scratch registers, whose values have equally many ones. The lists of values are
-- what bits can give, so that each number is the model's finite part's. Assumes nothing.
use mathlib.Core.Path.{◌≡◌, refl, sym, ap, ◌∙◌}
use mathlib.Core.List.{List, [], ◌∷◌}
use mathlib.Core.Logic.{inl, inr}
use Prim.Native.Nat.{ℕ, zero, suc, ◌+◌, ◌-◌, ◌≤◌, ◌<◌}
use native.Mathlib.Omega.{arith}
use borrow.Author.Tests.{lt-ltb, le-ltb}
use lib.Dec.{lit<, lit≤}
use lib.ListN.{length, get_or}
use Rattle.model.specs.declared.Layout.{Layout}
use Rattle.model.specs.declared.Mark.TheVariants.{Marked}
use Rattle.model.specs.declared.Operand.{Operand}
use Rattle.model.specs.declared.Operand.TheVariants.{Empty, Literal, Register, Cell, PublicCell, SensitiveCell, TableCell}
use Rattle.model.specs.declared.Kind.TheVariants.{Neither, Public, Sensitive}
use Rattle.model.specs.Limits.{state_size}
use Rattle.model.specs.Layouts.{Known}
use Rattle.model.specs.Places.{State, place, value, address, kind, kind_of}
use Rattle.model.specs.Step.{weight, meaning, argument}
use Rattle.model.specs.Code.{code, page}
use Rattle.model.specs.Images.{by_kind, fixed, SamePublic}
use Rattle.model.proofs.PlaceLaws.{public_register, table_cell}
use Rattle.model.proofs.Operands.{Steady, Of, place_same, address_same}
use Rattle.model.proofs.Finite.{code-weight}
use Rattle.sets.specs.Walk.{base}
use Rattle.sets.specs.Claims.{In}
use Rattle.sets.proofs.Bounds.{Bound, Fits, Sole, sole_past, sole_in}
use Rattle.sets.proofs.Chains.{put, by_put}

-- ---- what two bits can give

abbrev pub of_bits : (ℕ → ℕ → ℕ) → List ℕ
of_bits f = f 1 1 ∷ f 1 0 ∷ f 0 1 ∷ f 0 0 ∷ []

pub each_bits : (f : ℕ → ℕ → ℕ) (P : ℕ → Type 0) → ((a b : ℕ) → a < 2 → b < 2 → P (f a b)) → (x : ℕ) → In x (of_bits f) → P x
each_bits f P h x (inl e) = rw e (h 1 1 (lit< tt) (lit< tt))
each_bits f P h x (inr (inl e)) = rw e (h 1 0 (lit< tt) (lit< tt))
each_bits f P h x (inr (inr (inl e))) = rw e (h 0 1 (lit< tt) (lit< tt))
each_bits f P h x (inr (inr (inr (inl e)))) = rw e (h 0 0 (lit< tt) (lit< tt))
each_bits f P h x (inr (inr (inr (inr m)))) = absurd m

pub in_bits : (f : ℕ → ℕ → ℕ) (a b : ℕ) → a < 2 → b < 2 → In (f a b) (of_bits f)
in_bits f (suc zero) (suc zero) ha hb = inl refl
in_bits f (suc zero) zero ha hb = inr (inl refl)
in_bits f zero (suc zero) ha hb = inr (inr (inl refl))
in_bits f zero zero ha hb = inr (inr (inr (inl refl)))
in_bits f (suc (suc a)) b ha hb = absurd (omega arith)
in_bits f (suc zero) (suc (suc b)) ha hb = absurd (omega arith)
in_bits f zero (suc (suc b)) ha hb = absurd (omega arith)

-- and what one bit can
abbrev pub of_bit : (ℕ → ℕ) → List ℕ
of_bit f = of_bits (λ a b. f a)

abbrev pub codes : Layout → List ℕ
codes L = of_bit (code L)

pub code_in : (L : Layout) (a : ℕ) → a < 2 → In (code L a) (codes L)
code_in L a h = in_bits (λ a b. code L a) a 0 h (lit< tt)

pub sole_of : (x v : ℕ) → In x (v ∷ []) → x ≡ v
sole_of x v (inl e) = e
sole_of x v (inr m) = absurd m

-- ---- equally many ones

pub record Even (X : List ℕ) : Type 0 where
  pub count : ℕ
  pub each : (x : ℕ) → In x X → weight x ≡ count

pub single_even : (v : ℕ) → Even (v ∷ [])
single_even v = record { count = weight v; each = λ x m. ap weight (sole_of x v m) }

pub bits_even : (f : ℕ → ℕ → ℕ) (w : ℕ) → ((a b : ℕ) → a < 2 → b < 2 → weight (f a b) ≡ w) → Even (of_bits f)
bits_even f w h = record { count = w; each = each_bits f (λ x. weight x ≡ w) h }

pub codes_even : (L : Layout) → Known L → Even (codes L)
codes_even L K = bits_even (λ a b. code L a) 1 (λ a b ha hb. code-weight L K a ha)

-- ---- public places

-- the bound leaves a public place the value that it has in U, and no other
pub record Shown (U : State) (B : Bound) : Type 0 where
  pub same : (i : ℕ) → i < state_size → kind i ≡ Public → (x : ℕ) → In x (B i) → get_or U i 0 ≡ x

module _ {U : State} {B : Bound} (S : Shown U B) where
  pub shown-put : (q : ℕ) (Q : List ℕ) → (kind q ≡ Public → ⊥) → Shown U (put q Q B)
  shown-put q Q h = record { same = λ i g e x. by_put q Q B i (λ X. In x X → get_or U i 0 ≡ x) (λ r. absurd (h (ap kind (sym r) ∙ e))) (λ n. S.same i g e x) }

  pub same_of : (s : State) → Fits B s → SamePublic U s
  unfolding SamePublic
  same_of s F i g e = S.same i g e (get_or s i 0) (F.each i g)

  pub place-fixed : (o : Operand) → Steady o → (s : State) → Fits B s → place o s ≡ place o U
  place-fixed o st s F = sym (place_same U s (same_of s F) o st)

  pub address-fixed : (o : Operand) → Steady o → (s : State) → Fits B s → address o s ≡ address o U
  address-fixed o st s F = sym (address_same U s (same_of s F) o st)

  pub sole_public : (i : ℕ) → i < state_size → kind i ≡ Public → Sole B i
  sole_public i g e = sole_in B i (λ x y a b. sym (S.same i g e x a) ∙ S.same i g e y b)

  pub base_sole : (o : Operand) → Steady o → Sole B (base o)
  unfolding base
  base_sole Empty st = sole_past B state_size (lit≤ tt)
  base_sole (Literal n) st = sole_past B state_size (lit≤ tt)
  base_sole (Register n) st = sole_past B state_size (lit≤ tt)
  base_sole (Cell n) st = sole_past B state_size (lit≤ tt)
  base_sole (PublicCell r k) st = sole_public r (omega arith) (public_register r st.0 st.1)
  base_sole (SensitiveCell r k) st = sole_public r (omega arith) (public_register r st.0 st.1)
  base_sole (TableCell r k) st = absurd st

-- ---- images but for r1 to r3

abbrev pub Scratch : ℕ → Type 0
Scratch r = (1 ≤ r) × (r ≤ 3)

pub scratch_kind : (r : ℕ) → Scratch r → kind r ≡ Neither
unfolding kind
scratch_kind r h = rw (lt-ltb r 4 (omega arith))

-- what it holds is read whole
pub scratch_read : (r : ℕ) → Scratch r → (s : State) → argument Marked (Register r) s ≡ get_or s r 0
unfolding argument meaning kind_of value place
scratch_read r h s = rw (scratch_kind r h)

pub scratch_public : (r : ℕ) → Scratch r → kind r ≡ Public → ⊥
scratch_public r h p = let n = scratch_kind r h in let z : ◌≡◌ {A = ℕ} 0 1 = cc in omega arith

-- what may stand at place i of an image, u being its value there where it is public
unfoldable pub Allowed : Layout → ℕ → ℕ → ℕ → Type 0
Allowed L i u x = by_kind (kind i) (x ≡ fixed L i) (u ≡ x) (In x (codes L))

-- U has the public values
pub record Ready (L : Layout) (U : State) (B : Bound) : Type 0 where
  pub long : length U ≡ state_size
  pub only : (i : ℕ) → i < state_size → (Scratch i → ⊥) → (x : ℕ) → In x (B i) → Allowed L i (get_or U i 0) x
  pub even : (r : ℕ) → Scratch r → Even (B r)

module _ {L : Layout} {U : State} {B : Bound} (R : Ready L U B) where
  -- what stands at a place
  pub zero_at : (s : State) → Fits B s → get_or s 0 0 ≡ 0
  unfolding Allowed fixed kind
  zero_at s F = R.only 0 (lit< tt) (λ r. omega arith) (get_or s 0 0) (F.each 0 (lit< tt))

  pub public_in : Shown U B
  unfolding Allowed
  public_in = record { same = λ i h e x m. rw e at (R.only i h (λ r. scratch_public i r e) x m) }

  pub sensitive_in : (i : ℕ) → Of Sensitive i → (x : ℕ) → In x (B i) → In x (codes L)
  unfolding Allowed
  sensitive_in i o x m = rw o.is at (R.only i o.within (λ r. omega (arith, o.past)) x m)

  pub page_in : (i : ℕ) → i < 256 → (x : ℕ) → In x (B (288 + i)) → x ≡ page L i
  unfolding Allowed fixed
  page_in i h x m =
      let e : (288 + i) - 288 ≡ i = omega arith in
      rw (table_cell (288 + i) (omega arith), le-ltb (288 + i) 4 (omega arith), e) at (R.only (288 + i) (omega arith) (λ r. omega arith) x m)

  -- values written that may stand there; W has U's public values but for that place
  pub ready_put : (W : State) (q : ℕ) (Q : List ℕ) → length W ≡ state_size → ((i : ℕ) → (i ≡ q → ⊥) → get_or W i 0 ≡ get_or U i 0)
      → (q < state_size → (Scratch q → ⊥) → (x : ℕ) → In x Q → Allowed L q (get_or W q 0) x) → Even Q → Ready L W (put q Q B)
  ready_put W q Q l g a E =
      record {
        long = l;
        only = λ i h n x. by_put q Q B i (λ X. In x X → Allowed L i (get_or W i 0) x) (λ e. rw e (a (rw e at h) (rw e at n) x)) (λ e m. rw (g i e) (R.only i h n x m));
        even = λ r h. by_put q Q B r Even (λ e. E) (λ e. R.even r h);
      }

  pub ready_scratch : (r : ℕ) (Q : List ℕ) → Scratch r → Even Q → Ready L U (put r Q B)
  ready_scratch r Q h E = ready_put U r Q R.long (λ i n. refl) (λ g n. absurd (n h)) E

  pub ready_sensitive : (q : ℕ) → kind q ≡ Sensitive → Even (codes L) → Ready L U (put q (codes L) B)
  unfolding Allowed
  ready_sensitive q e E = ready_put U q (codes L) R.long (λ i n. refl) (λ g n x m. rw e m) E
