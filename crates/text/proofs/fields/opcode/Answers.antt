-- `text::fields::opcode` meets its contract: a name has three letters. Assumes nothing.
use mathlib.Core.Path.{refl}
use native.Mathlib.Omega.{arith}
use Rattle.model.specs.Text.{spell_opcode}
use Rattle.text.proofs.FieldLaws.{reads}
use Rattle.text.proofs.fields.opcode.Goals as goal

pub returns-in-nop : goal.returns-in-nop
unfolding spell_opcode
returns-in-nop c = reads c.args.s.now 0 _ _ _ refl (omega arith) (omega arith) (omega arith) (omega arith) (omega arith)

pub returns-in-jmp : goal.returns-in-jmp
unfolding spell_opcode
returns-in-jmp c = reads c.args.s.now 1 _ _ _ refl (omega arith) (omega arith) (omega arith) (omega arith) (omega arith)

pub returns-in-not : goal.returns-in-not
unfolding spell_opcode
returns-in-not c = reads c.args.s.now 2 _ _ _ refl (omega arith) (omega arith) (omega arith) (omega arith) (omega arith)

pub returns-in-mov : goal.returns-in-mov
unfolding spell_opcode
returns-in-mov c = reads c.args.s.now 3 _ _ _ refl (omega arith) (omega arith) (omega arith) (omega arith) (omega arith)

pub returns-in-and : goal.returns-in-and
unfolding spell_opcode
returns-in-and c = reads c.args.s.now 4 _ _ _ refl (omega arith) (omega arith) (omega arith) (omega arith) (omega arith)

pub returns-in-orr : goal.returns-in-orr
unfolding spell_opcode
returns-in-orr c = reads c.args.s.now 5 _ _ _ refl (omega arith) (omega arith) (omega arith) (omega arith) (omega arith)

pub returns-in-xor : goal.returns-in-xor
unfolding spell_opcode
returns-in-xor c = reads c.args.s.now 6 _ _ _ refl (omega arith) (omega arith) (omega arith) (omega arith) (omega arith)

pub returns-in-lsl : goal.returns-in-lsl
unfolding spell_opcode
returns-in-lsl c = reads c.args.s.now 7 _ _ _ refl (omega arith) (omega arith) (omega arith) (omega arith) (omega arith)

pub returns-in-lsr : goal.returns-in-lsr
unfolding spell_opcode
returns-in-lsr c = reads c.args.s.now 8 _ _ _ refl (omega arith) (omega arith) (omega arith) (omega arith) (omega arith)

pub returns-in-add : goal.returns-in-add
unfolding spell_opcode
returns-in-add c = reads c.args.s.now 9 _ _ _ refl (omega arith) (omega arith) (omega arith) (omega arith) (omega arith)

pub returns-in-mul : goal.returns-in-mul
unfolding spell_opcode
returns-in-mul c = reads c.args.s.now 10 _ _ _ refl (omega arith) (omega arith) (omega arith) (omega arith) (omega arith)

pub returns-in-beq : goal.returns-in-beq
unfolding spell_opcode
returns-in-beq c = reads c.args.s.now 11 _ _ _ refl (omega arith) (omega arith) (omega arith) (omega arith) (omega arith)

pub returns-in-bne : goal.returns-in-bne
unfolding spell_opcode
returns-in-bne c = reads c.args.s.now 12 _ _ _ refl (omega arith) (omega arith) (omega arith) (omega arith) (omega arith)
