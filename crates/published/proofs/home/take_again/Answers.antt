-- `published::home::take_again` meets its contract: the promises of the three calls, and the claims about what they give. Assumes nothing.
use Rattle.model.specs.Answers.{report}
use mathlib.Core.Path.{sym, ap, subst, ◌∙◌}
use Prim.Native.Nat.{ℕ}
use lib.Seq.{length-take-le}
use lib.ListN.{take}
use native.Mathlib.Omega.{arith}
use Rattle.published.specs.Claims.{HomeCalls}
use Rattle.published.specs.Published.{send_out_outcome}
use Rattle.published.proofs.HomeCalls.{taken_bytes_lem, accepted_claim}
use Rattle.published.proofs.home.take_again.Goals as goal

pub slice_bounds-come_home-end : goal.slice_bounds-come_home-end
slice_bounds-come_home-end c = omega (arith, c.bytes.ensures, taken_bytes_lem c.args.text.now c.args.taken.now _ (report c.take_in-first.result) c.take_in-first.ensures)

pub slice_bounds-come_home-end-2 : goal.slice_bounds-come_home-end-2
slice_bounds-come_home-end-2 c = sym (length-take-le c.bytes.result _ (omega (arith, c.bytes.ensures, taken_bytes_lem c.args.text.now c.args.taken.now _ (report c.take_in-first.result) c.take_in-first.ensures)))

pub returns : goal.returns
returns c =
    let a = c.args in
    let e = c.take_in-first.ensures in
    let left = c.take_in-first.new.out in
    let trip = c.come_home.result in
    let f = c.come_home.ensures.published_after ∙ ap (λ (n : ℕ). send_out_outcome (take n left) a.published.now) c.bytes.ensures in
    let g = subst (λ (n : ℕ). HomeCalls (take n left) a.again.now (report trip.sent) (report trip.taken) c.come_home.new.home) c.bytes.ensures c.come_home.ensures.home_calls in
    record { taken_after = e; published_after = f; again_after = c.come_home.ensures.home_after; accepted_calls = accepted_claim a.text.now a.taken.now _ (report c.take_in-first.result) a.published.now _ (report trip.sent) e f; home_calls = g }
