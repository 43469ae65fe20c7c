-- `coding::fault_number` meets its contract: the code makes the tests of the chain that proofs/Faults ties to the definition. Assumes nothing.
use mathlib.Core.Path.{refl, sym, ◌∙◌}
use mathlib.Core.Logic.{inl, inr}
use native.Mathlib.Omega.{arith}
use borrow.Author.Tests.{lt-ltb, le-ltb}
use Rattle.coding.proofs.Faults.{chain, shaped_chain}
use Rattle.coding.proofs.fault_number.Goals as goal

pub returns-then-m-ge-MARKS : goal.returns-then-m-ge-MARKS
returns-then-m-ge-MARKS c = let x = c.args in record { value = sym (chain x.m x.o x.d x.a x.b x.t ∙ rw (le-ltb _ _ c.if-m-ge-MARKS.true)); few = inr (omega arith, omega arith) }

pub returns-then-o-ge-OPCODES : goal.returns-then-o-ge-OPCODES
returns-then-o-ge-OPCODES c = let x = c.args in record { value = sym (chain x.m x.o x.d x.a x.b x.t ∙ rw (lt-ltb _ _ c.if-m-ge-MARKS.false, le-ltb _ _ c.if-o-ge-OPCODES.true)); few = inr (omega arith, omega arith) }

pub returns-then-is_in_range : goal.returns-then-is_in_range
returns-then-is_in_range c = let x = c.args in record { value = sym (shaped_chain x.m x.o x.d x.a x.b x.t c.if-m-ge-MARKS.false c.if-o-ge-OPCODES.false ∙ rw (← c.is_shaped.ensures, c.if-is_shaped.true, ← c.is_in_range.ensures, c.if-is_in_range.true)); few = inl refl }

pub returns-then-is_shaped : goal.returns-then-is_shaped
returns-then-is_shaped c = let x = c.args in record { value = sym (shaped_chain x.m x.o x.d x.a x.b x.t c.if-m-ge-MARKS.false c.if-o-ge-OPCODES.false ∙ rw (← c.is_shaped.ensures, c.if-is_shaped.true, ← c.is_in_range.ensures, c.if-is_in_range.false)); few = inr (omega arith, omega arith) }

pub returns : goal.returns
returns c = let x = c.args in record { value = sym (shaped_chain x.m x.o x.d x.a x.b x.t c.if-m-ge-MARKS.false c.if-o-ge-OPCODES.false ∙ rw (← c.is_shaped.ensures, c.if-is_shaped.false)); few = inr (omega arith, omega arith) }
