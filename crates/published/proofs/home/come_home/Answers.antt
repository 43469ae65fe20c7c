-- `published::home::come_home` meets its contract: the promises of the two calls, and the claim about what they give. Assumes nothing.
use Rattle.model.specs.Answers.{report}
use mathlib.Core.Path.{sym, ap, ◌∙◌}
use Prim.Native.Nat.{ℕ}
use lib.Seq.{length-take-le}
use lib.ListN.{take}
use native.Mathlib.Omega.{arith}
use Rattle.published.specs.Published.{take_in_outcome}
use Rattle.published.proofs.HomeCalls.{sent_bytes_lem, home_claim}
use Rattle.published.proofs.home.come_home.Goals as goal

pub slice_bounds-take_in-end : goal.slice_bounds-take_in-end
slice_bounds-take_in-end c = omega (arith, c.bytes.ensures, sent_bytes_lem c.args.text.now c.args.published.now _ (report c.send_out-sent.result) c.send_out-sent.ensures)

pub slice_bounds-take_in-end-2 : goal.slice_bounds-take_in-end-2
slice_bounds-take_in-end-2 c = sym (length-take-le c.bytes.result _ (omega (arith, c.bytes.ensures, sent_bytes_lem c.args.text.now c.args.published.now _ (report c.send_out-sent.result) c.send_out-sent.ensures)))

pub returns : goal.returns
returns c =
    let a = c.args in
    let e = c.send_out-sent.ensures in
    let f = c.take_in-taken.ensures ∙ ap (λ (n : ℕ). take_in_outcome (take n c.send_out-sent.new.out) a.home.now) c.bytes.ensures in
    record { published_after = e; home_after = f; home_calls = home_claim a.text.now a.published.now _ (report c.send_out-sent.result) a.home.now _ (report c.take_in-taken.result) e f }
