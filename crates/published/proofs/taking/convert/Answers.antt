-- `published::taking::convert` meets its contract: what is left to check gives the answer, what is left to store the lines. Assumes nothing.
use mathlib.Core.Path.{◌≡◌, refl, sym, ap, subst, ◌∙◌}
use Prim.Native.Nat.{ℕ, ◌+◌, ◌*◌, ◌≤◌, ◌<◌}
use mathlib.Core.List.{List}
use lib.ListN.{length, take, drop}
use borrow.Author.Rules.{rules}
use native.Mathlib.Omega.{arith}
use Rattle.published.specs.Passes.{meaning, kept_of}
use Rattle.published.specs.Reading.{trimmed, body_of}
use Rattle.published.specs.Published.{text_lines, none_seen, seen_from}
use Rattle.model.specs.Stored.{Parsed}
use Rattle.model.specs.Limits.{line_width}
use Rattle.published.proofs.TextLaws.{body_trimmed}
use Rattle.model.specs.Answers.{number_of}
use Rattle.model.proofs.CheckAnswers.{holds_some}
use Rattle.published.proofs.ConvertLaws.{broken-fault, converting_none, converting_next, converts, refused_converts, refuses, fault-told, room_is, cut, read_told, all_labels, low_labels}
use Rattle.published.proofs.taking.convert.Goals as goal

pub loop-at-init : goal.loop-at-init
loop-at-init c = converting_none c.args.labels.now.text.now c.args.store.now _ c.requires.0.first_wrong

pub line_at-l-requires : goal.line_at-l-requires
line_at-l-requires c = c.loop-at-test.true

pub body-b-requires : goal.body-b-requires
body-b-requires c = (c.label_size.ensures.0, c.label_size.ensures.1)

pub parse-r-requires : goal.parse-r-requires
parse-r-requires c =
    let text = c.args.labels.now.text.now in
    let l = c.line_at-l.result in
    let code : List ℕ = take l.size (drop l.start text) in
    let b : c.body-b.result.now ≡ body_of code = c.body-b.ensures ∙ ap body_of c.part-s.ensures in
    ap trimmed b ∙ body_trimmed code (cut text c.args.store.now c.loop-at.store c.loop-at.at c.loop-at.i c.loop-at.n _ c.loop-at.invariant c.loop-at-test.true code c.line_at-l.ensures.code l.ended c.line_at-l.ensures.end) ∙ sym b

pub returns-in-Some : goal.returns-in-Some
returns-in-Some c =
    let text = c.args.labels.now.text.now in
    let l = c.line_at-l.result in
    let code : List ℕ = take l.size (drop l.start text) in
    let b : c.body-b.result.now ≡ body_of code = c.body-b.ensures ∙ ap body_of c.part-s.ensures in
    let x = read_told text c.args.labels.now.table c.args.labels.now.count code c.body-b.result.now (meaning c.parse-r.result) (all_labels text c.args.labels.now.heads c.args.labels.now.table c.args.labels.now.count c.args.clean c.requires.0) b (c.parse-r.ensures (seen_from none_seen (text_lines text)).count (low_labels text c.args.labels.now.heads c.args.labels.now.table c.args.labels.now.count c.args.clean c.requires.0)) in
    let f = fault-told text c.args.store.now c.loop-at.store c.loop-at.at c.loop-at.i c.loop-at.n _ c.loop-at.invariant c.loop-at-test.true code c.line_at-l.ensures.code l.ended c.line_at-l.ensures.end c.body-b.result.now (meaning c.parse-r.result) _ _ b x (broken-fault c.parse-r.result c.err.result c.err.ensures.value) c.in-Some.ensures in
    refused_converts text c.args.store.now c.loop-at.store c.loop-at.at c.loop-at.i c.loop-at.n _ c.loop-at.invariant _ (number_of c.in-Some.condition) refl
    (refuses text c.args.store.now c.loop-at.store c.loop-at.at c.loop-at.i c.loop-at.n _ c.loop-at.invariant c.loop-at-test.true code c.line_at-l.ensures.code l.ended c.line_at-l.ensures.end _ f (holds_some c.in-Some.condition refl))

pub keep-n-requires : goal.keep-n-requires
keep-n-requires c =
    let text = c.args.labels.now.text.now in
    let l = c.line_at-l.result in
    let code : List ℕ = take l.size (drop l.start text) in
    let b : c.body-b.result.now ≡ body_of code = c.body-b.ensures ∙ ap body_of c.part-s.ensures in
    let x = read_told text c.args.labels.now.table c.args.labels.now.count code c.body-b.result.now (meaning c.parse-r.result) (all_labels text c.args.labels.now.heads c.args.labels.now.table c.args.labels.now.count c.args.clean c.requires.0) b (c.parse-r.ensures (seen_from none_seen (text_lines text)).count (low_labels text c.args.labels.now.heads c.args.labels.now.table c.args.labels.now.count c.args.clean c.requires.0)) in
    let f = fault-told text c.args.store.now c.loop-at.store c.loop-at.at c.loop-at.i c.loop-at.n _ c.loop-at.invariant c.loop-at-test.true code c.line_at-l.ensures.code l.ended c.line_at-l.ensures.end c.body-b.result.now (meaning c.parse-r.result) _ _ b x (broken-fault c.parse-r.result c.err.result c.err.ensures.value) c.in_default.ensures in
    subst (λ (y : Parsed). line_width * c.loop-at.n + length (kept_of y) ≤ length c.loop-at.store) (sym x)
    (room_is text c.args.store.now c.loop-at.store c.loop-at.at c.loop-at.i c.loop-at.n _ c.loop-at.invariant c.loop-at-test.true code c.line_at-l.ensures.code l.ended c.line_at-l.ensures.end (sym f) c.requires.1)

pub overflow_add-i : goal.overflow_add-i
overflow_add-i c = let long : length c.args.labels.now.text.now < 18446744073709551616 = search rules in omega (arith, c.loop-at.invariant.lines, c.loop-at-test.true, long)

pub loop-at-smaller : goal.loop-at-smaller
loop-at-smaller c = omega (arith, c.line_at-l.ensures.past, c.loop-at-test.true)

pub loop-at-preserved : goal.loop-at-preserved
loop-at-preserved c =
    let text = c.args.labels.now.text.now in
    let l = c.line_at-l.result in
    let code : List ℕ = take l.size (drop l.start text) in
    let b : c.body-b.result.now ≡ body_of code = c.body-b.ensures ∙ ap body_of c.part-s.ensures in
    let x = read_told text c.args.labels.now.table c.args.labels.now.count code c.body-b.result.now (meaning c.parse-r.result) (all_labels text c.args.labels.now.heads c.args.labels.now.table c.args.labels.now.count c.args.clean c.requires.0) b (c.parse-r.ensures (seen_from none_seen (text_lines text)).count (low_labels text c.args.labels.now.heads c.args.labels.now.table c.args.labels.now.count c.args.clean c.requires.0)) in
    let f = fault-told text c.args.store.now c.loop-at.store c.loop-at.at c.loop-at.i c.loop-at.n _ c.loop-at.invariant c.loop-at-test.true code c.line_at-l.ensures.code l.ended c.line_at-l.ensures.end c.body-b.result.now (meaning c.parse-r.result) _ _ b x (broken-fault c.parse-r.result c.err.result c.err.ensures.value) c.in_default.ensures in
    converting_next text c.args.store.now c.loop-at.store c.loop-at.at c.loop-at.i c.loop-at.n _ c.loop-at.invariant c.loop-at-test.true code c.line_at-l.ensures.code l.ended c.line_at-l.ensures.end (sym f)
    _ x c.keep-n.ensures c.line_at-l.ensures.past

pub shape_of-store : goal.shape_of-store
shape_of-store c = c.loop-at.invariant.long

pub returns : goal.returns
returns c = converts c.args.labels.now.text.now c.args.store.now c.loop-at.store c.loop-at.at c.loop-at.i c.loop-at.n _ c.loop-at.invariant c.loop-at-test.false _ refl
