-- `expander::sizes::load_size` meets its contract. By whether the argument is a public place. Assumes nothing.
use mathlib.Core.Path.{sym, ap, ◌∙◌}
use Rattle.model.specs.Places.{is_public}
use Rattle.model.proofs.Loads.{coded-kind, load_public, load_other}
use Rattle.expander.proofs.sizes.load_size.Goals as goal

pub returns-then-names_public : goal.returns-then-names_public
returns-then-names_public c = λ L n. sym (load_public n _ (ap is_public (coded-kind L _) ∙ sym c.names_public.ensures ∙ c.if-names_public.true))

pub returns-else-names_public : goal.returns-else-names_public
returns-else-names_public c = λ L n. sym (load_other n _ (ap is_public (coded-kind L _) ∙ sym c.names_public.ensures ∙ c.if-names_public.false))
