-- The image of the all-zero state, from which the programs run and walk. Assumes nothing.
use mathlib.Core.Path.{◌≡◌, refl, ap, ◌∙◌}
use mathlib.Core.Bool.{Bool, true}
use mathlib.Core.List.{[], ◌∷◌}
use Prim.Native.Nat.{ℕ, zero, suc}
use borrow.Author.Tests.{eq-eqb}
use lib.Dec.{eqb, leb}
use lib.ListN.{length, replicate, length-replicate}
use Rattle.model.specs.declared.Kind.{Kind}
use Rattle.model.specs.declared.Kind.TheVariants.{Neither, Public, Sensitive}
use Rattle.model.specs.Layouts.{neighbours}
use Rattle.model.specs.Limits.{state_size}
use Rattle.model.specs.Answers.{Report, counted, outcome}
use Rattle.model.specs.Places.{State, kind}
use Rattle.model.specs.Images.{by_kind, image, every, bit_right, carried, to_image_outcome}
use Rattle.model.proofs.OutcomeLaws.{first_store}

zero_bit : (k : Kind) → by_kind k (eqb 0 0) true (leb 0 1) ≡ true
zero_bit Neither = refl
zero_bit Public = refl
zero_bit Sensitive = refl

zero_bits : (n i : ℕ) → every bit_right i (replicate n 0) ≡ true
unfolding every bit_right
zero_bits zero i = refl
zero_bits (suc n) i = rw (zero_bit (kind i)) (zero_bits n (suc i))

carried-over : (right : ℕ → ℕ → Bool) (over : State → State) (from into : State) → length from ≡ state_size → length into ≡ state_size → every right 0 from ≡ true
    → carried right over from into ≡ outcome (counted state_size) (over from ∷ [])
unfolding carried
carried-over right over from into h g e = rw (eq-eqb (length from) state_size h, eq-eqb (length into) state_size g, e)

abbrev pub zeros : State
zeros = replicate state_size 0

pub zero-image : (new : State) (r : Report) → outcome r (new ∷ []) ≡ to_image_outcome 0 0 zeros zeros → new ≡ image neighbours zeros
zero-image new r e =
    let h : length zeros ≡ state_size = length-replicate {A = ℕ} state_size 0 in
    ap first_store (e ∙ carried-over bit_right (image neighbours) zeros zeros h h (zero_bits state_size 0))
