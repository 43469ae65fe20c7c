-- `choices::bytes::is_member` meets its contract. Assumes nothing.
use mathlib.Core.Path.{refl, sym, ◌∙◌}
use native.Mathlib.Omega.{arith}
use borrow.Author.Rules.{rules}
use Rattle.sets.specs.Walk.{set_width, listed}
use Rattle.choices.proofs.SetBytes.{listed-few, listed_at}
use Rattle.choices.proofs.Turns.{none_over, none_next, one_there}
use Rattle.choices.proofs.bytes.is_member.Goals as goal

pub loop-j-init : goal.loop-j-init
loop-j-init c = (omega arith, refl)

pub returns-then-found-j : goal.returns-then-found-j
returns-then-found-j c = let f = c.args.found.now in let s = listed-few f set_width (search rules) c.requires in let j = c.loop-j.j in sym (one_there (listed f) j c.args.x (omega arith) (listed_at f set_width (search rules) j (omega arith) ∙ c.if-found-j.true)) ∙ c.loop-j.invariant.1

pub loop-j-preserved : goal.loop-j-preserved
loop-j-preserved c = let f = c.args.found.now in let s = listed-few f set_width (search rules) c.requires in let j = c.loop-j.j in (omega arith, sym (none_next (listed f) j c.args.x (omega arith) (λ q. c.if-found-j.false (sym (listed_at f set_width (search rules) j (omega arith)) ∙ q))) ∙ c.loop-j.invariant.1)

pub returns : goal.returns
returns c = let f = c.args.found.now in sym (none_over (listed f) c.loop-j.j c.args.x (omega (arith, listed-few f set_width (search rules) c.requires))) ∙ c.loop-j.invariant.1
