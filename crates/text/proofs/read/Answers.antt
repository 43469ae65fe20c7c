-- `text::read` meets its contract: what is left to read, with the lines so far, always comes to what the whole text comes to.
-- Assumes nothing.
use Prim.Native.Nat.{ℕ, ◌+◌, ◌-◌}
use mathlib.Core.Path.{◌≡◌, refl, sym, ap, ◌∙◌}
use native.Mathlib.Omega.{arith}
use lib.ListN.{drop}
use Rattle.model.specs.Text.{newline}
use Rattle.text.specs.Lines.{meaning, numbers_of}
use Rattle.text.proofs.PartLaws.{after_first}
use Rattle.text.proofs.ReadLaws.{left_same, left_done, left-full, left_room, left_stop, left-next}
use Rattle.text.proofs.read.Goals as goal

pub returns-then-n-ge-MAX_LINES : goal.returns-then-n-ge-MAX_LINES
returns-then-n-ge-MAX_LINES c = left-full c.args.text.now c.args.store.now c.loop-rest.store c.loop-rest.rest.now _ c.loop-rest.n c.loop-rest.invariant c.loop-rest-test.true (omega (arith, c.if-n-ge-MAX_LINES.true))

pub returns-then-room-n : goal.returns-then-room-n
returns-then-room-n c = left_room c.args.text.now c.args.store.now c.loop-rest.store c.loop-rest.rest.now _ c.loop-rest.n c.loop-rest.invariant c.loop-rest-test.true (omega (arith, c.if-n-ge-MAX_LINES.false)) c.if-room-n.true

pub loop-rest-preserved-then-bytes-gt0 : goal.loop-rest-preserved-then-bytes-gt0
loop-rest-preserved-then-bytes-gt0 c =
    let x = c.take-bytes.ensures.1 c.if-bytes-gt0.true in
    let e : c.take-bytes.result - 1 + 1 ≡ c.take-bytes.result = omega (arith, c.if-bytes-gt0.true) in
    left-next c.args.text.now c.args.store.now c.loop-rest.store c.loop-rest.rest.now _ c.loop-rest.n c.loop-rest.invariant c.loop-rest-test.true (omega (arith, c.if-n-ge-MAX_LINES.false)) c.if-room-n.false
    x.line _ _ x.six x.read x.stored (c.beyond-rest.ensures ∙ ap (λ (k : ℕ). drop k c.loop-rest.rest.now) e ∙ x.rest) c.take-bytes.auto.store

pub returns-in_default : goal.returns-in_default
returns-in_default c =
    let l = left_same c.args.text.now c.args.store.now c.loop-rest.store c.loop-rest.rest.now _ c.loop-rest.n c.loop-rest.invariant _ (c.take-bytes.ensures.0 (omega (arith, c.if-bytes-gt0.false))) in
    left_stop c.args.text.now c.args.store.now _ c.loop-rest.rest.now _ c.loop-rest.n l c.loop-rest-test.true (omega (arith, c.if-n-ge-MAX_LINES.false)) c.if-room-n.false _ (sym c.front-got.ensures ∙ ap meaning c.unwrap_err.ensures)

pub loop-rest-preserved : goal.loop-rest-preserved
loop-rest-preserved c =
    let l = left_same c.args.text.now c.args.store.now c.loop-rest.store c.loop-rest.rest.now _ c.loop-rest.n c.loop-rest.invariant _ (c.take-bytes.ensures.0 (omega (arith, c.if-bytes-gt0.false))) in
    left-next c.args.text.now c.args.store.now _ c.loop-rest.rest.now _ c.loop-rest.n l c.loop-rest-test.true (omega (arith, c.if-n-ge-MAX_LINES.false)) c.if-room-n.false
    (numbers_of c.in-Ok.l) _ _ refl (sym c.front-got.ensures ∙ ap meaning c.in-Ok.is) c.keep.ensures (c.beyond-rest-else-bytes-gt0.ensures ∙ after_first newline c.loop-rest.rest.now c.find-end.result c.find-end.ensures.0) c.keep.auto.store

pub returns : goal.returns
returns c = left_done c.args.text.now c.args.store.now c.loop-rest.store c.loop-rest.rest.now _ c.loop-rest.n c.loop-rest.invariant (omega (arith, c.loop-rest-test.false))
