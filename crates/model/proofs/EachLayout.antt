-- A test of each of the six layouts, and what it says of every layout that a pair of numbers names. Assumes nothing.
use mathlib.Core.Bool.{Bool}
use lib.Dec.{T, ltb, ltb→lt}
use Rattle.model.specs.declared.Layout.{Layout}
use Rattle.model.specs.Layouts.{layout_of, Known, named}
use Rattle.model.proofs.TestLaws.{and_both, all_below, all_below_lem}

-- a test of each of the six layouts
abbrev pub for_layouts : (Layout → Bool) → Bool
for_layouts f = all_below (λ p. all_below (λ n. f (layout_of p n)) 2) 3

-- the one place where the layouts are told apart
pub for_layouts_lem : (f : Layout → Bool) → T (for_layouts f) → {L : Layout} → Known L → T (f L)
for_layouts_lem f h (named p n w) =
    let b = and_both (ltb p 3) (ltb n 2) w in
    all_below_lem (λ n. f (layout_of p n)) 2 n (all_below_lem (λ p. all_below (λ n. f (layout_of p n)) 2) 3 p h (ltb→lt p 3 b.0)) (ltb→lt n 2 b.1)
