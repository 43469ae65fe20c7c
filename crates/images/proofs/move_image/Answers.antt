-- `images::move_image` meets its contract. Between the layouts that are named, a return for each case of `carried`. Assumes nothing.
use mathlib.Core.Path.{◌≡◌, sym, ◌∙◌}
use mathlib.Core.Bool.{true}
use mathlib.Core.List.{[], ◌∷◌}
use Prim.Native.Nat.{ℕ}
use native.Mathlib.Omega.{arith}
use Rattle.model.specs.declared.Layout.{Layout}
use Rattle.model.specs.Answers.{Outcome}
use Rattle.model.specs.Layouts.{layout_of, is_six, in_layout}
use Rattle.model.specs.Images.{image_right}
use Rattle.model.specs.Places.{State}
use Rattle.model.proofs.OutcomeLaws.{named_known, in_layout_lem}
use Rattle.images.specs.Moving.{moved, moved_in, move_outcome}
use Rattle.images.proofs.Placed.{moved-placed}
use Rattle.images.proofs.TablePage.{page_cells}
use Rattle.images.proofs.Carrying.{handed_on, other_size, turned_down, goes_over}
use Rattle.images.proofs.move_image.Goals as goal

in_named : (p n q m : ℕ) (old new : Layout) (from into : State) (x : Outcome) → (is_six p n ≡ true) × (old ≡ layout_of p n) → (is_six q m ≡ true) × (new ≡ layout_of q m)
    → x ≡ moved_in old new from into → x ≡ move_outcome p n q m from into
in_named p n q m old new from into x g h w =
    in_layout_lem p n old g.0 g.1 (into ∷ []) (λ old. in_layout q m (into ∷ []) (λ new. moved_in old new from into)) x
    (in_layout_lem q m new h.0 h.1 (into ∷ []) (λ new. moved_in old new from into) x w)

pub returns-in_err-check_sizes : goal.returns-in_err-check_sizes
returns-in_err-check_sizes c =
    let a = c.args in
    let old = c.in_ok-old.old in
    let new = c.in_ok-new.new in
    handed_on _ c.from_residual-in_err-check_sizes.result c.from_residual-in_err-check_sizes.ensures.1 _ _
    (in_named _ _ _ _ old new _ _ _ c.in_ok-old.ensures.ok c.in_ok-new.ensures.ok (other_size (image_right old) (moved old new) a.from.now a.into.now _ c.in_err-check_sizes.ensures.err))

pub page_of-page-requires : goal.page_of-page-requires
page_of-page-requires c = let g = c.in_ok-old.ensures.ok in named_known _ _ _ g.0 g.1

pub places_right-requires : goal.places_right-requires
places_right-requires c = (c.page_of-page.ensures, c.in_ok-check_sizes.ensures.ok.0)

pub returns-then-not-places_right : goal.returns-then-not-places_right
returns-then-not-places_right c =
    let a = c.args in
    let old = c.in_ok-old.old in
    let new = c.in_ok-new.new in
    in_named _ _ _ _ old new _ _ _ c.in_ok-old.ensures.ok c.in_ok-new.ensures.ok
    (turned_down (image_right old) (moved old new) a.from.now a.into.now c.in_ok-check_sizes.ensures.ok (sym c.places_right.ensures ∙ c.if-not-places_right.true))

pub put_page-requires : goal.put_page-requires
put_page-requires c =
    let g = c.in_ok-new.ensures.ok in
    (named_known _ _ _ g.0 g.1, page_cells c.put_places.new.into (omega (arith, c.in_ok-check_sizes.ensures.ok.1)))

pub returns : goal.returns
returns c =
    let a = c.args in
    let old = c.in_ok-old.old in
    let new = c.in_ok-new.new in
    let h = c.in_ok-new.ensures.ok in
    let w = c.in_ok-check_sizes.ensures.ok in
    in_named _ _ _ _ old new _ _ _ c.in_ok-old.ensures.ok h (goes_over (image_right old) (moved old new) a.from.now a.into.now w _ (sym c.places_right.ensures ∙ c.if-not-places_right.false)
    (moved-placed old new (named_known _ _ _ h.0 h.1) a.from.now _ _ w.0 c.put_places.ensures c.put_page.ensures))
