-- `machine::target_line` meets its contract. Assumes nothing.
use Rattle.std.proofs.Common.{◌≡◌, ℕ, zero, suc, ◌-◌, refl, ◌∙◌, arith, ne_eqb}
use Rattle.model.specs.Stored.{target_of}
use Rattle.model.specs.Step.{target_line}
use Rattle.machine.proofs.target_line.Goals as goal

named : (n : ℕ) → n - 1 ≡ target_line (target_of n)
unfolding target_line target_of
named zero = refl
named (suc n) = rw (ne_eqb (suc n) 0 (λ e. omega (arith, e)))

pub returns : goal.returns
returns c = c.saturating_sub.ensures ∙ named c.args.code
