-- `printing::letters` meets its contract: each arm computes to the letters of its opcode. Assumes nothing.
use mathlib.Core.Path.{sym, ap, ◌∙◌}
use borrow.Author.Rules.{rules}
use Rattle.model.specs.Text.{spell_opcode}
use Rattle.printing.proofs.letters.Goals as goal

pub returns-in-Nop : goal.returns-in-Nop
unfolding spell_opcode
returns-in-Nop c = (search rules, ap spell_opcode (sym c.opcode_of.ensures ∙ c.in-Nop.is))

pub returns-in-Jmp : goal.returns-in-Jmp
unfolding spell_opcode
returns-in-Jmp c = (search rules, ap spell_opcode (sym c.opcode_of.ensures ∙ c.in-Jmp.is))

pub returns-in-Not : goal.returns-in-Not
unfolding spell_opcode
returns-in-Not c = (search rules, ap spell_opcode (sym c.opcode_of.ensures ∙ c.in-Not.is))

pub returns-in-Mov : goal.returns-in-Mov
unfolding spell_opcode
returns-in-Mov c = (search rules, ap spell_opcode (sym c.opcode_of.ensures ∙ c.in-Mov.is))

pub returns-in-And : goal.returns-in-And
unfolding spell_opcode
returns-in-And c = (search rules, ap spell_opcode (sym c.opcode_of.ensures ∙ c.in-And.is))

pub returns-in-Orr : goal.returns-in-Orr
unfolding spell_opcode
returns-in-Orr c = (search rules, ap spell_opcode (sym c.opcode_of.ensures ∙ c.in-Orr.is))

pub returns-in-Xor : goal.returns-in-Xor
unfolding spell_opcode
returns-in-Xor c = (search rules, ap spell_opcode (sym c.opcode_of.ensures ∙ c.in-Xor.is))

pub returns-in-Lsl : goal.returns-in-Lsl
unfolding spell_opcode
returns-in-Lsl c = (search rules, ap spell_opcode (sym c.opcode_of.ensures ∙ c.in-Lsl.is))

pub returns-in-Lsr : goal.returns-in-Lsr
unfolding spell_opcode
returns-in-Lsr c = (search rules, ap spell_opcode (sym c.opcode_of.ensures ∙ c.in-Lsr.is))

pub returns-in-Add : goal.returns-in-Add
unfolding spell_opcode
returns-in-Add c = (search rules, ap spell_opcode (sym c.opcode_of.ensures ∙ c.in-Add.is))

pub returns-in-Mul : goal.returns-in-Mul
unfolding spell_opcode
returns-in-Mul c = (search rules, ap spell_opcode (sym c.opcode_of.ensures ∙ c.in-Mul.is))

pub returns-in-Beq : goal.returns-in-Beq
unfolding spell_opcode
returns-in-Beq c = (search rules, ap spell_opcode (sym c.opcode_of.ensures ∙ c.in-Beq.is))

pub returns-in-Bne : goal.returns-in-Bne
unfolding spell_opcode
returns-in-Bne c = (search rules, ap spell_opcode (sym c.opcode_of.ensures ∙ c.in-Bne.is))
