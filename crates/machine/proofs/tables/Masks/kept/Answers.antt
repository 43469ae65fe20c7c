-- `machine::tables::Masks::kept` meets its contract: a mask keeps of a byte what a marked line reads of it. Assumes nothing.
use Rattle.std.proofs.Common.{◌≡◌, ℕ, ◌%◌, ◌<◌, Bool, true, false, cond, ◌∙◌, mod-eq_of_lt, arith}
use lib.Bits.{bit_and, and_mask}
use Rattle.model.specs.declared.Mark.TheVariants.{Marked}
use Rattle.model.specs.Places.{kind, is_public}
use Rattle.model.specs.Step.{meaning}
use Rattle.machine.specs.Loop.{read_as, mask}
use Rattle.machine.proofs.tables.Masks.kept.Goals as goal

masked : (i x : ℕ) → x < 256 → bit_and x (mask i) ≡ read_as Marked i x
unfolding meaning
masked i x h = go (is_public (kind i))
  where
    go : (b : Bool) → bit_and x (cond b 1 255) ≡ cond b (x % 2) x
    go true = and_mask x 1
    go false = and_mask x 8 ∙ mod-eq_of_lt h

pub returns : goal.returns
returns c = rw (c.args.self.now.right c.args.at c.requires) (masked c.args.at c.args.byte (omega arith))
