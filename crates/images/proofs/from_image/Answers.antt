-- `images::from_image` meets its contract. In the layout that is named, a return for each case of `carried`. Assumes nothing.
use mathlib.Core.Path.{◌≡◌, sym, ◌∙◌}
use mathlib.Core.Bool.{true}
use mathlib.Core.List.{[], ◌∷◌}
use Prim.Native.Nat.{ℕ}
use Rattle.model.specs.declared.Layout.{Layout}
use Rattle.model.specs.Answers.{Outcome}
use Rattle.model.specs.Layouts.{layout_of, is_six}
use Rattle.model.specs.Images.{back, image_right, bits_in, from_image_outcome}
use Rattle.model.specs.Places.{State}
use Rattle.model.proofs.OutcomeLaws.{named_known, in_layout_lem}
use Rattle.images.proofs.Placed.{back-placed}
use Rattle.images.proofs.Carrying.{handed_on, other_size, turned_down, goes_over}
use Rattle.images.proofs.from_image.Goals as goal

in_named : (p n : ℕ) (L : Layout) (image into : State) (x : Outcome) → (is_six p n ≡ true) × (L ≡ layout_of p n) → x ≡ bits_in L image into → x ≡ from_image_outcome p n image into
in_named p n L image into x g w = in_layout_lem p n L g.0 g.1 (into ∷ []) (λ L. bits_in L image into) x w

pub returns-in_err-check_sizes : goal.returns-in_err-check_sizes
returns-in_err-check_sizes c =
    let a = c.args in
    let L = c.in_ok-layout.layout in
    handed_on _ c.from_residual-in_err-check_sizes.result c.from_residual-in_err-check_sizes.ensures.1 _ _
    (in_named _ _ L _ _ _ c.in_ok-layout.ensures.ok (other_size (image_right L) (back L) a.image.now a.bits.now _ c.in_err-check_sizes.ensures.err))

pub page_of-page-requires : goal.page_of-page-requires
page_of-page-requires c = let g = c.in_ok-layout.ensures.ok in named_known _ _ _ g.0 g.1

pub places_right-requires : goal.places_right-requires
places_right-requires c = (c.page_of-page.ensures, c.in_ok-check_sizes.ensures.ok.0)

pub returns-then-not-places_right : goal.returns-then-not-places_right
returns-then-not-places_right c =
    let a = c.args in
    let L = c.in_ok-layout.layout in
    in_named _ _ L _ _ _ c.in_ok-layout.ensures.ok (turned_down (image_right L) (back L) a.image.now a.bits.now c.in_ok-check_sizes.ensures.ok (sym c.places_right.ensures ∙ c.if-not-places_right.true))

pub returns : goal.returns
returns c =
    let a = c.args in
    let L = c.in_ok-layout.layout in
    in_named _ _ L _ _ _ c.in_ok-layout.ensures.ok (goes_over (image_right L) (back L) a.image.now a.bits.now c.in_ok-check_sizes.ensures.ok _ (sym c.places_right.ensures ∙ c.if-not-places_right.false)
    (c.put_places.ensures ∙ back-placed L a.image.now))
