-- `lines::reader::read_lines` meets its contract: what is left to read from the position on, with the lines so far, always
-- comes to what the whole text comes to. Assumes nothing.
use mathlib.Core.Path.{refl, ap, ◌∙◌}
use native.Mathlib.Omega.{arith}
use lib.ListN.{drop}
use Rattle.text.specs.Lines.{meaning, numbers_of}
use Rattle.text.proofs.ReadLaws.{left_done, left-full, left_room, left_stop, left-next}
use Rattle.text.proofs.StoreLaws.{kept_fits}
use Rattle.lines.proofs.ReaderLaws.{taken_end, taken_line, taken_on}
use Rattle.lines.proofs.reader.read_lines.Goals as goal

pub returns-in_default : goal.returns-in_default
returns-in_default c =
    let l = c.loop-got in
    let a = c.args in
    left_done a.text.now a.store.now l.store (drop l.at a.text.now) _ l.n l.invariant (taken_end a.text.now l.at c.take_at-taken.result c.take_at-taken.ensures c.in_default.is)

pub returns-then-n-ge-MAX_LINES : goal.returns-then-n-ge-MAX_LINES
returns-then-n-ge-MAX_LINES c =
    let t = c.in-Some in
    let l = c.loop-got in
    let a = c.args in
    let f = taken_line a.text.now l.at c.take_at-taken.result c.take_at-taken.ensures t.got t.is in
    left-full a.text.now a.store.now l.store (drop l.at a.text.now) _ l.n l.invariant f.filled (omega (arith, c.if-n-ge-MAX_LINES.true))

pub returns-then-room-n : goal.returns-then-room-n
returns-then-room-n c =
    let t = c.in-Some in
    let l = c.loop-got in
    let a = c.args in
    let f = taken_line a.text.now l.at c.take_at-taken.result c.take_at-taken.ensures t.got t.is in
    left_room a.text.now a.store.now l.store (drop l.at a.text.now) _ l.n l.invariant f.filled (omega (arith, c.if-n-ge-MAX_LINES.false)) c.if-room-n.true

pub returns-in_default-got : goal.returns-in_default-got
returns-in_default-got c =
    let t = c.in-Some in
    let l = c.loop-got in
    let a = c.args in
    let f = taken_line a.text.now l.at c.take_at-taken.result c.take_at-taken.ensures t.got t.is in
    left_stop a.text.now a.store.now l.store (drop l.at a.text.now) _ l.n l.invariant f.filled (omega (arith, c.if-n-ge-MAX_LINES.false)) c.if-room-n.false _ (f.front ∙ ap meaning c.unwrap_err.ensures)

pub loop-got-preserved : goal.loop-got-preserved
loop-got-preserved c =
    let q = c.keep_at in
    let g = c.in-Ok in
    let t = c.in-Some in
    let l = c.loop-got in
    let a = c.args in
    let f = taken_line a.text.now l.at c.take_at-taken.result c.take_at-taken.ensures t.got t.is in
    left-next a.text.now a.store.now l.store (drop l.at a.text.now) _ l.n l.invariant f.filled (omega (arith, c.if-n-ge-MAX_LINES.false)) c.if-room-n.false
    (numbers_of g.l) _ _ refl (f.front ∙ ap meaning g.is)
    (q.ensures ∙ kept_fits l.store l.n (numbers_of g.l) (omega (arith, l.invariant.long, l.invariant.room_is, c.if-room-n.false)))
    (taken_on a.text.now l.at c.take_at-taken.result c.take_at-taken.ensures) q.auto.store
