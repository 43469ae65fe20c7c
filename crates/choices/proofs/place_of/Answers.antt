-- `choices::place_of` meets its contract: an even number is a base, an odd one what the operand names. Assumes nothing.
use mathlib.Core.Path.{◌≡◌, refl, ap, ◌∙◌}
use mathlib.Core.Bool.{cond}
use mathlib.Core.List.{List}
use Prim.Native.Nat.{ℕ, zero, suc, ◌%◌, ◌<◌}
use native.Mathlib.Omega.{arith}
use lib.Dec.{ltb}
use lib.ListN.{get_or}
use Rattle.model.specs.Places.{State, place}
use Rattle.model.specs.Stored.{operand_of}
use Rattle.sets.specs.Walk.{base, involved}
use Rattle.choices.specs.Gathering.{line_by, argument_places, spot}
use Rattle.choices.proofs.place_of.Goals as goal

-- the number of the argument
abbrev code : List ℕ → ℕ → ℕ
code n level = cond (ltb level 2) (get_or n 3 0) (get_or n 4 0)

even : (n : List ℕ) (level : ℕ) (s : State) → level < argument_places → level % 2 ≡ 0 → base (operand_of (code n level)) ≡ spot (line_by n) level s
unfolding spot involved
even n zero s h e = refl
even n (suc zero) s h e = absurd (omega (arith, e))
even n (suc (suc zero)) s h e = refl
even n (suc (suc (suc zero))) s h e = absurd (omega (arith, e))
even n (suc (suc (suc (suc level)))) s h e = absurd (omega arith)

odd : (n : List ℕ) (level : ℕ) (s : State) → level < argument_places → (level % 2 ≡ 0 → ⊥) → place (operand_of (code n level)) s ≡ spot (line_by n) level s
unfolding spot involved
odd n zero s h e = absurd (e refl)
odd n (suc zero) s h e = refl
odd n (suc (suc zero)) s h e = absurd (e refl)
odd n (suc (suc (suc zero))) s h e = refl
odd n (suc (suc (suc (suc level)))) s h e = absurd (omega arith)

pub returns-then-level-eq0 : goal.returns-then-level-eq0
returns-then-level-eq0 c = c.base_of.ensures ∙ ap (λ (n : ℕ). base (operand_of n)) c.argument_at-code.ensures ∙ even c.args.line.now c.args.level c.args.state.now c.requires c.if-level-eq0.true

pub returns : goal.returns
returns c = c.place_at.ensures ∙ ap (λ (n : ℕ). place (operand_of n) c.args.state.now) c.argument_at-code.ensures ∙ odd c.args.line.now c.args.level c.args.state.now c.requires c.if-level-eq0.false
