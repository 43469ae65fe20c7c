-- `published::labels::Labels::is_within` meets its contract: the three limits, one after the other. Assumes nothing.
use mathlib.Core.Bool.{Bool, ◌&&◌}
use mathlib.Core.Path.{◌≡◌, sym, ap, ◌∙◌}
use lib.Dec.{ltb}
use Rattle.published.specs.Published.{find, is_missing, is_name, max_labels}
use Rattle.published.specs.Table.{entries}
use Rattle.published.proofs.TableLaws.{none_missing, within_is, entries-length}
use Rattle.published.proofs.labels.Labels.is_within.Goals.{Joined-is_name, then-is_name, else-is_name}
use Rattle.published.proofs.labels.Labels.is_within.Goals as goal

-- the first two limits
named : (c : Joined-is_name) → c.if-is_name.value ≡ is_name c.args.name.now && is_missing (find c.args.name.now (entries c.args.self.now.text.now c.args.self.now.table c.args.self.now.count))
named c =
    let labels = entries c.args.self.now.text.now c.args.self.now.table c.args.self.now.count in
    let name = c.args.name.now in
    elim c.if-is_name.branch [
      | then-is_name w ↦ w.value-is ∙ none_missing labels name _ _ w.is_none.ensures w.find.ensures ∙ sym (ap (λ (t : Bool). t && is_missing (find name labels)) (sym c.is_name.ensures ∙ w.if-is_name.true))
      | else-is_name w ↦ w.value-is ∙ w.if-is_name.false ∙ sym (ap (λ (t : Bool). t && is_missing (find name labels)) (sym c.is_name.ensures ∙ w.if-is_name.false))
    ]

pub returns-then-is_none : goal.returns-then-is_none
returns-then-is_none c =
    let at = goal.at.returns-then-is_none c in
    sym (ap (λ (t : Bool). t && ltb c.args.self.now.count max_labels) c.if-is_none.true) ∙ within_is _ c.args.name.now c.if-is_name.value c.args.self.now.count (named at.Joined-is_name) (entries-length c.args.self.now.text.now c.args.self.now.table c.args.self.now.count)

pub returns-else-is_none : goal.returns-else-is_none
returns-else-is_none c =
    let at = goal.at.returns-else-is_none c in
    c.if-is_none.false ∙ sym (ap (λ (t : Bool). t && ltb c.args.self.now.count max_labels) c.if-is_none.false) ∙ within_is _ c.args.name.now c.if-is_name.value c.args.self.now.count (named at.Joined-is_name) (entries-length c.args.self.now.text.now c.args.self.now.table c.args.self.now.count)
