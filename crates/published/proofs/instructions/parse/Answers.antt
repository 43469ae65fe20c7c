-- `published::instructions::parse` meets its contract: the opcode, then its parts. Assumes nothing.
use mathlib.Core.Path.{sym, ap, ◌∙◌}
use Prim.Native.Nat.{ℕ}
use mathlib.Core.List.{List}
use lib.Seq.{length-take-le}
use Rattle.published.specs.Table.{entries}
use Rattle.published.specs.Reading.{trimmed}
use Rattle.published.specs.Published.{words, parts_parsed}
use Rattle.std.proofs.lemmas.Result.{err_from_is_err_and}
use Rattle.text.proofs.FieldAnswers.{right, wrong}
use Rattle.model.specs.Text.{opcode_field}
use Rattle.model.specs.Stored.{opcode_of}
use Rattle.model.specs.Lines.{fills}
use Rattle.model.proofs.SpellingLaws.{opcode_exactly}
use Rattle.published.proofs.WordLaws.{parse_none, parse_there, parse_wrong, next_is, next-trimmed, word_take}
use Rattle.published.proofs.instructions.parse.Goals as goal

pub returns-then-s-eq0 : goal.returns-then-s-eq0
returns-then-s-eq0 c = λ n h. parse_none n (entries c.args.labels.now.text.now c.args.labels.now.table c.args.labels.now.count) c.args.s.now c.if-s-eq0.true

pub slice_bounds-opcode-end : goal.slice_bounds-opcode-end
slice_bounds-opcode-end c = sym (length-take-le c.word-i.result _ c.word-i.ensures.1)

pub returns-in_err-o : goal.returns-in_err-o
returns-in_err-o c =
    λ n h.
    let p = err_from_is_err_and c.from_residual.result c.from_residual.ensures.1 in
    let w = wrong _ _ (c.opcode.ensures ∙ ap (λ (x : List ℕ). (opcode_field x).number) (word_take c.args.s.now c.word-i.result c.word-i.ensures.0)) c.ok_or.ensures.value c.in_err-o.was in
    rw (p.1, p.2, w.condition) (parse_wrong n (entries c.args.labels.now.text.now c.args.labels.now.table c.args.labels.now.count) c.args.s.now c.requires w.missing)

pub after-requires : goal.after-requires
after-requires c = c.word-i.ensures.1

pub filled-requires : goal.filled-requires
filled-requires c =
    let s = c.args.s.now in
    let e = c.after.ensures ∙ next_is s c.word-i.result c.word-i.ensures.0 in
    let k = right _ _ (c.opcode.ensures ∙ ap (λ (x : List ℕ). (opcode_field x).number) (word_take s c.word-i.result c.word-i.ensures.0)) c.ok_or.ensures.value c.in_ok-o.was in
    (((opcode_exactly _ _).0 k).0, ap trimmed e ∙ next-trimmed s ∙ sym e)

pub returns : goal.returns
returns c =
    λ n h.
    let s = c.args.s.now in
    let labels = entries c.args.labels.now.text.now c.args.labels.now.table c.args.labels.now.count in
    let e = c.after.ensures ∙ next_is s c.word-i.result c.word-i.ensures.0 in
    let k = right _ _ (c.opcode.ensures ∙ ap (λ (x : List ℕ). (opcode_field x).number) (word_take s c.word-i.result c.word-i.ensures.0)) c.ok_or.ensures.value c.in_ok-o.was in
    c.filled.ensures n h ∙ ap (λ (x : List ℕ). parts_parsed n labels c.in_ok-o.o (fills (opcode_of c.in_ok-o.o)) (words x)) e ∙ parse_there n labels s _ c.requires k
