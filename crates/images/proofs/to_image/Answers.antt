-- `images::to_image` meets its contract. In the layout that is named, a return for each case of `carried`. Assumes nothing.
use mathlib.Core.Path.{◌≡◌, sym, ◌∙◌}
use mathlib.Core.Bool.{true}
use mathlib.Core.List.{[], ◌∷◌}
use Prim.Native.Nat.{ℕ}
use native.Mathlib.Omega.{arith}
use Rattle.model.specs.declared.Layout.{Layout}
use Rattle.model.specs.Answers.{Outcome}
use Rattle.model.specs.Layouts.{layout_of, is_six}
use Rattle.model.specs.Images.{image, bit_right, image_in, to_image_outcome}
use Rattle.model.specs.Places.{State}
use Rattle.model.proofs.OutcomeLaws.{named_known, in_layout_lem}
use Rattle.images.proofs.Placed.{image-placed}
use Rattle.images.proofs.TablePage.{page_cells}
use Rattle.images.proofs.Carrying.{handed_on, other_size, turned_down, goes_over}
use Rattle.images.proofs.to_image.Goals as goal

in_named : (p n : ℕ) (L : Layout) (bits into : State) (x : Outcome) → (is_six p n ≡ true) × (L ≡ layout_of p n) → x ≡ image_in L bits into → x ≡ to_image_outcome p n bits into
in_named p n L bits into x g w = in_layout_lem p n L g.0 g.1 (into ∷ []) (λ L. image_in L bits into) x w

pub returns-in_err-check_sizes : goal.returns-in_err-check_sizes
returns-in_err-check_sizes c =
    let a = c.args in
    let L = c.in_ok-layout.layout in
    handed_on _ c.from_residual-in_err-check_sizes.result c.from_residual-in_err-check_sizes.ensures.1 _ _
    (in_named _ _ L _ _ _ c.in_ok-layout.ensures.ok (other_size bit_right (image L) a.bits.now a.image.now _ c.in_err-check_sizes.ensures.err))

pub returns-then-not-bits_right : goal.returns-then-not-bits_right
returns-then-not-bits_right c =
    let a = c.args in
    let L = c.in_ok-layout.layout in
    in_named _ _ L _ _ _ c.in_ok-layout.ensures.ok (turned_down bit_right (image L) a.bits.now a.image.now c.in_ok-check_sizes.ensures.ok (sym c.bits_right.ensures ∙ c.if-not-bits_right.true))

pub put_page-requires : goal.put_page-requires
put_page-requires c =
    let g = c.in_ok-layout.ensures.ok in
    (named_known _ _ _ g.0 g.1, page_cells c.put_places.new.into (omega (arith, c.in_ok-check_sizes.ensures.ok.1)))

pub returns : goal.returns
returns c =
    let a = c.args in
    let L = c.in_ok-layout.layout in
    let g = c.in_ok-layout.ensures.ok in
    let w = c.in_ok-check_sizes.ensures.ok in
    in_named _ _ L _ _ _ g (goes_over bit_right (image L) a.bits.now a.image.now w _ (sym c.bits_right.ensures ∙ c.if-not-bits_right.false)
    (image-placed L (named_known _ _ _ g.0 g.1) a.bits.now _ _ w.0 c.put_places.ensures c.put_page.ensures))
