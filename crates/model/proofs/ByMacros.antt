-- Expansions by macros that are spelt out: where they agree with the macros of document 01's layout in every marked line, the expansions are
-- the same. Line by line, then by induction over the program. Assumes nothing.
use mathlib.Core.Path.{◌≡◌, refl, ap, ap₂}
use mathlib.Core.List.{List, [], ◌∷◌, ◌++◌, flat_map}
use Prim.Native.Nat.{ℕ, zero, suc, ◌+◌}
use lib.ListN.{length}
use Rattle.model.specs.declared.Mark.{Mark}
use Rattle.model.specs.declared.Mark.TheVariants.{Unmarked, Marked}
use Rattle.model.specs.declared.Opcode.{Opcode}
use Rattle.model.specs.declared.Operand.{Operand}
use Rattle.model.specs.declared.Target.{Target}
use Rattle.model.specs.declared.Target.TheVariants.{Empty as NoTarget, Line as ToLine}
use Rattle.model.specs.declared.Line.{Line}
use Rattle.model.specs.Lines.{Every}
use Rattle.model.specs.Layouts.{neighbours}
use Rattle.model.specs.Expansion.{coded, macro, new_target, part_of, part, size, start, joined, expand}
use Rattle.model.specs.Before.{Macros, part_by, start_by, expand_by}
use Rattle.model.proofs.Acceptance.{mk}

-- the lines spoken of are those of which Q holds
module _ (macros : Macros) (become : Operand → Operand) (Q : Line → Type 0)
    (agree : (op : Opcode) (d a b : Operand) (t : Target) → Q (mk Marked op d a b t)
    → macro neighbours op d (coded neighbours a) (coded neighbours b) ≡ macros op d (become a) (become b)) where
  -- under starts that are the same
  module _ (f g : ℕ → ℕ) (same : (i : ℕ) → f i ≡ g i) where
    target_by : (t : Target) → new_target f t ≡ new_target g t
    unfolding new_target
    target_by NoTarget = refl
    target_by (ToLine t) = ap ToLine (same t)

    line_by_lem : (m : Mark) (op : Opcode) (d a b : Operand) (t : Target) → Q (mk m op d a b t) → part neighbours f (mk m op d a b t) ≡ part_by macros become m g (mk m op d a b t)
    unfolding part_of part_by
    line_by_lem Unmarked op d a b t h = ap (λ (u : Target). mk Unmarked op d a b u ∷ []) (target_by t)
    line_by_lem Marked op d a b t h = agree op d a b t h

    part_by_lem : (l : Line) → Q l → part neighbours f l ≡ part_by macros become l.mark g l
    part_by_lem l h = line_by_lem l.mark l.opcode l.destination l.first l.second l.target h

    joined_by : (p : List Line) → Every Q p → joined neighbours f p ≡ flat_map (λ l. part_by macros become l.mark g l) p
    unfolding joined
    joined_by [] h = refl
    joined_by (l ∷ p) h = ap₂ (λ (x y : List Line). x ++ y) (part_by_lem l h.0) (joined_by p h.1)

  start_by_lem : (p : List Line) → Every Q p → (k : ℕ) → start neighbours p k ≡ start_by macros become p k
  unfolding start start_by size
  start_by_lem [] h k = refl
  start_by_lem (l ∷ p) h zero = refl
  start_by_lem (l ∷ p) h (suc k) = ap₂ (λ (x y : ℕ). x + y) (ap length (part_by_lem (λ t. t) (λ t. t) (λ i. refl) l h.0)) (start_by_lem p h.1 k)

  pub expand_by_lem : (p : List Line) → Every Q p → expand neighbours p ≡ expand_by macros become p
  unfolding expand expand_by
  expand_by_lem p h = joined_by (start neighbours p) (start_by macros become p) (start_by_lem p h) p h
