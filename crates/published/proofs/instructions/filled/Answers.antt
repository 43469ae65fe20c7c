-- `published::instructions::filled` meets its contract: by the fields that an opcode fills. Assumes nothing.
use mathlib.Core.Path.{◌∙◌}
use native.Mathlib.Omega.{arith}
use Rattle.published.specs.Table.{entries}
use Rattle.published.proofs.WordLaws.{Cut3, right_none, right_jump, right_two, right-three, right_branch, wrong_count}
use Rattle.published.proofs.instructions.filled.Goals.{After-part_count}
use Rattle.published.proofs.instructions.filled.Goals as goal

cuts : (c : After-part_count) → Cut3 c.args.s.now c.after-s2.result.now c.after-s3.result.now c.after-s4.result.now c.word-i.result c.word-j.result c.word-k.result c.part_count.result
cuts c = record {
  start = c.requires.1;
  first = c.word-i.ensures.0;
  rest = c.after-s2.ensures;
  second = c.word-j.ensures.0;
  rest2 = c.after-s3.ensures;
  third = c.word-k.ensures.0;
  rest3 = c.after-s4.ensures;
  there = c.part_count.ensures;
}

pub returns-in-0-eq0 : goal.returns-in-0-eq0
returns-in-0-eq0 c = λ n h. c.operands.ensures n tt ∙ right_none (cuts (goal.at.returns-in-0-eq0 c).After-part_count) n (entries c.args.labels.now.text.now c.args.labels.now.table c.args.labels.now.count) c.args.o (omega arith) (omega arith)

pub returns-in-1-eq1 : goal.returns-in-1-eq1
returns-in-1-eq1 c = λ n h. c.targeted.ensures n h ∙ right_jump (cuts (goal.at.returns-in-1-eq1 c).After-part_count) n (entries c.args.labels.now.text.now c.args.labels.now.table c.args.labels.now.count) c.args.o (omega arith) (omega arith)

pub returns-in-2-to-3-eq2 : goal.returns-in-2-to-3-eq2
returns-in-2-to-3-eq2 c = λ n h. c.operands-in-2-to-3-eq2.ensures n tt ∙ right_two (cuts (goal.at.returns-in-2-to-3-eq2 c).After-part_count) n (entries c.args.labels.now.text.now c.args.labels.now.table c.args.labels.now.count) c.args.o (omega arith) (omega arith) (omega arith)

pub returns-in-4-to-10-eq3 : goal.returns-in-4-to-10-eq3
returns-in-4-to-10-eq3 c = λ n h. c.operands-in-4-to-10-eq3.ensures n tt ∙ right-three (cuts (goal.at.returns-in-4-to-10-eq3 c).After-part_count) n (entries c.args.labels.now.text.now c.args.labels.now.table c.args.labels.now.count) c.args.o (omega arith) (omega arith) (omega arith)

pub returns-in-11-to-65535-eq3 : goal.returns-in-11-to-65535-eq3
returns-in-11-to-65535-eq3 c = λ n h. c.targeted-in-11-to-65535-eq3.ensures n h ∙ right_branch (cuts (goal.at.returns-in-11-to-65535-eq3 c).After-part_count) n (entries c.args.labels.now.text.now c.args.labels.now.table c.args.labels.now.count) c.args.o (omega arith) c.requires.0 (omega arith)

pub returns-in_default : goal.returns-in_default
returns-in_default c = λ n h. wrong_count (cuts (goal.at.returns-in_default c).After-part_count) n (entries c.args.labels.now.text.now c.args.labels.now.table c.args.labels.now.count) c.args.o c.requires.0 (λ a b. omega arith) (λ a b. omega arith) (λ a e b. omega arith) (λ a b. omega arith)

pub returns-in_default-2 : goal.returns-in_default-2
returns-in_default-2 c = λ n h. wrong_count (cuts (goal.at.returns-in_default-2 c).After-part_count) n (entries c.args.labels.now.text.now c.args.labels.now.table c.args.labels.now.count) c.args.o c.requires.0 (λ a b. omega arith) (λ a b. omega arith) (λ a e b. omega arith) (λ a b. omega arith)

pub returns-in_default-3 : goal.returns-in_default-3
returns-in_default-3 c = λ n h. wrong_count (cuts (goal.at.returns-in_default-3 c).After-part_count) n (entries c.args.labels.now.text.now c.args.labels.now.table c.args.labels.now.count) c.args.o c.requires.0 (λ a b. omega arith) (λ a b. omega arith) (λ a e b. omega arith) (λ a b. omega arith)

pub returns-in_default-4 : goal.returns-in_default-4
returns-in_default-4 c = λ n h. wrong_count (cuts (goal.at.returns-in_default-4 c).After-part_count) n (entries c.args.labels.now.text.now c.args.labels.now.table c.args.labels.now.count) c.args.o c.requires.0 (λ a b. omega arith) (λ a b. omega arith) (λ a e b. omega arith) (λ a b. omega arith)

pub returns-in_default-5 : goal.returns-in_default-5
returns-in_default-5 c = λ n h. wrong_count (cuts (goal.at.returns-in_default-5 c).After-part_count) n (entries c.args.labels.now.text.now c.args.labels.now.table c.args.labels.now.count) c.args.o c.requires.0 (λ a b. omega arith) (λ a b. omega arith) (λ a e b. omega arith) (λ a b. omega arith)
