-- `balance::verdicts::judged_expansion` meets its contract: the promises of `expand` and of `judge`, and the claim about what they give. Assumes
-- nothing.
use mathlib.Core.Path.{refl, sym}
use lib.Seq.{length-take-le}
use Rattle.model.proofs.OutcomeLaws.{never_done}
use Rattle.balance.proofs.VerdictCalls.{counted_call, listing_fits, clear_on}
use Rattle.balance.proofs.verdicts.judged_expansion.Goals as goal

pub slice_bounds-judge-end : goal.slice_bounds-judge-end
slice_bounds-judge-end c =
    let x = c.args in
    let e = c.expand-expanded in
    listing_fits x.position x.spacing x.program.now x.out.now _ e.result e.ensures c.in-Ok.count c.in-Ok.is

pub slice_bounds-judge-end-in-Ok : goal.slice_bounds-judge-end-in-Ok
slice_bounds-judge-end-in-Ok c =
    let x = c.args in
    let e = c.expand-expanded in
    sym (length-take-le _ _ (listing_fits x.position x.spacing x.program.now x.out.now _ e.result e.ensures c.in-Ok.count c.in-Ok.is))

pub returns-in-Ok : goal.returns-in-Ok
returns-in-Ok c =
    let x = c.args in
    let e = c.expand-expanded in
    let j = c.judge-verdict in
    record { out_after = counted_call x.position x.spacing x.program.now x.out.now _ e.result e.ensures c.in-Ok.count c.in-Ok.is; verdict_value = j.ensures; never_alarms = λ k _ I. clear_on x.position x.spacing x.program.now x.out.now _ e.result e.ensures c.in-Ok.count c.in-Ok.is x.sets.now x.budget _ j.ensures I }

pub returns-in-Err : goal.returns-in-Err
returns-in-Err c = record { out_after = c.in-Err.ensures; verdict_value = refl; never_alarms = λ k w I. absurd (never_done w) }
