-- `expander::expand` meets its contract. In the layout that is named, a refusal of the mark check is handed on; what it passes is accepted. Assumes nothing.
use mathlib.Core.List.{[], ◌∷◌}
use Rattle.std.proofs.lemmas.Result.{err_from_is_err_and}
use Rattle.model.specs.Expansion.{expansion_in}
use Rattle.model.proofs.OutcomeLaws.{named_known, in_layout_lem}
use Rattle.expander.proofs.Outcomes.{expand_stops, expand_goes_on, accepted_by}
use Rattle.expander.proofs.expand.Goals as goal

pub returns-in_err-check : goal.returns-in_err-check
returns-in_err-check c =
    let a = c.args in
    let g = c.in_ok-layout.ensures.ok in
    let p = err_from_is_err_and c.from_residual-in_err-check.result c.from_residual-in_err-check.ensures.1 in
    rw (p.1, p.2)
    (in_layout_lem a.position a.spacing _ g.0 g.1 (a.out.now ∷ []) (λ L. expansion_in L a.program.now a.out.now) _
    (expand_stops c.in_ok-layout.layout a.program.now a.out.now _ _ c.in_err-check.was c.check.ensures))

pub write_expansion-requires : goal.write_expansion-requires
write_expansion-requires c =
    let g = c.in_ok-layout.ensures.ok in
    (named_known _ _ _ g.0 g.1, accepted_by c.args.program.now c.check.result _ c.check.ensures c.in_ok-check.was)

pub returns : goal.returns
returns c =
    let a = c.args in
    let g = c.in_ok-layout.ensures.ok in
    in_layout_lem a.position a.spacing _ g.0 g.1 (a.out.now ∷ []) (λ L. expansion_in L a.program.now a.out.now) _
    (expand_goes_on c.in_ok-layout.layout a.program.now a.out.now _ c.check.result c.write_expansion.result _ c.check.ensures c.in_ok-check.was c.write_expansion.ensures)
