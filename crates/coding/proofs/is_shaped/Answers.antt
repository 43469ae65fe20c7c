-- `coding::is_shaped` meets its contract, by its tests. Assumes nothing.
use borrow.Author.Tests.{eq-eqb, ne_eqb, lt-ltb, le-ltb}
use Rattle.coding.specs.Fields.{shaped}
use Rattle.coding.proofs.Shapes.{shape_tests}
use Rattle.coding.proofs.is_shaped.Goals as goal

pub returns-then-o-eq0 : goal.returns-then-o-eq0
unfolding shaped
returns-then-o-eq0 c =
    let x = c.args in
    rw (← shape_tests x.o x.d x.a x.b x.t, eq-eqb _ _ c.if-o-eq0.true)

pub returns-then-o-eq1 : goal.returns-then-o-eq1
unfolding shaped
returns-then-o-eq1 c =
    let x = c.args in
    rw (← shape_tests x.o x.d x.a x.b x.t, ne_eqb _ _ c.if-o-eq0.false, eq-eqb _ _ c.if-o-eq1.true)

pub returns-then-o-lt4 : goal.returns-then-o-lt4
unfolding shaped
returns-then-o-lt4 c =
    let x = c.args in
    rw (← shape_tests x.o x.d x.a x.b x.t, ne_eqb _ _ c.if-o-eq0.false, ne_eqb _ _ c.if-o-eq1.false, lt-ltb _ _ c.if-o-lt4.true)

pub returns-then-o-lt11 : goal.returns-then-o-lt11
unfolding shaped
returns-then-o-lt11 c =
    let x = c.args in
    rw (← shape_tests x.o x.d x.a x.b x.t, ne_eqb _ _ c.if-o-eq0.false, ne_eqb _ _ c.if-o-eq1.false, le-ltb _ _ c.if-o-lt4.false, lt-ltb _ _ c.if-o-lt11.true)

pub returns-then-o-lt-OPCODES : goal.returns-then-o-lt-OPCODES
unfolding shaped
returns-then-o-lt-OPCODES c =
    let x = c.args in
    rw (← shape_tests x.o x.d x.a x.b x.t, ne_eqb _ _ c.if-o-eq0.false, ne_eqb _ _ c.if-o-eq1.false, le-ltb _ _ c.if-o-lt4.false, le-ltb _ _ c.if-o-lt11.false, lt-ltb _ _ c.if-o-lt-OPCODES.true)

pub returns : goal.returns
unfolding shaped
returns c =
    let x = c.args in
    rw (← shape_tests x.o x.d x.a x.b x.t, ne_eqb _ _ c.if-o-eq0.false, ne_eqb _ _ c.if-o-eq1.false, le-ltb _ _ c.if-o-lt4.false, le-ltb _ _ c.if-o-lt11.false, le-ltb _ _ c.if-o-lt-OPCODES.false)
