-- `machine::next_of` meets its contract: whether a line jumps is by its opcode, and where that leaves it open by its arguments. Assumes nothing.
use Rattle.std.proofs.Common.{◌≡◌, ℕ, suc, ◌+◌, Bool, false, cond, T, sym, refl, ap, ◌∙◌, subst, add-one}
use Rattle.model.specs.declared.Mark.{Mark}
use Rattle.model.specs.declared.Opcode.{Opcode}
use Rattle.model.specs.declared.Opcode.TheVariants.{Nop, Jmp, Not, Mov, And, Orr, Xor, Lsl, Lsr, Add, Mul, Beq, Bne}
use Rattle.model.specs.declared.Line.{Line}
use Rattle.model.specs.Places.{State}
use Rattle.model.specs.Stored.{opcode_of, line_of}
use Rattle.model.specs.Step.{taken, target_line, next}
use Rattle.machine.specs.declared.Arguments.{Arguments}
use Rattle.machine.specs.declared.Fetched.{Fetched}
use Rattle.machine.specs.Loop.{fetch_of, arguments_of, jumps}
use Rattle.machine.proofs.NamedPlaces.{arguments_read}
use Rattle.machine.proofs.next_of.Goals as goal

never-taken : (o : Opcode) (x y : ℕ) → jumps o ≡ false → taken o x y ≡ false
unfolding taken
never-taken Nop x y e = refl
never-taken Jmp x y e = e
never-taken Not x y e = refl
never-taken Mov x y e = refl
never-taken And x y e = refl
never-taken Orr x y e = refl
never-taken Xor x y e = refl
never-taken Lsl x y e = refl
never-taken Lsr x y e = refl
never-taken Add x y e = refl
never-taken Mul x y e = refl
never-taken Beq x y e = absurd (subst T e tt)
never-taken Bne x y e = absurd (subst T e tt)

goes_on : (l : Line) (k : ℕ) (s : State) → jumps l.opcode ≡ false → k + 1 ≡ next l k s
unfolding next
goes_on l k s e = rw (never-taken l.opcode _ _ e) (add-one k)

-- where a line goes, over plain values
gone : (l : Line) (k : ℕ) (s : State) (m : Mark) (p : Opcode) (j : Bool) (x y : Fetched) (z : Arguments) (g n : ℕ)
    → m ≡ l.mark → p ≡ l.opcode → x ≡ fetch_of l.first s → y ≡ fetch_of l.second s → z ≡ arguments_of m x y
    → j ≡ taken p z.first z.second → g ≡ target_line l.target → n ≡ cond j g (suc k) → n ≡ next l k s
unfolding next
gone l k s m p j x y z g n em ep ex ey ez ej eg en =
    let ab = arguments_read m l.first l.second s x y z ex ey ez in
    let a = ab.0 in
    let b = ab.1 in
    cc

pub returns-then-not-may_jump : goal.returns-then-not-may_jump
returns-then-not-may_jump c =
    let i = c.if-not-may_jump in
    let w = c.may_jump in
    let p = c.opcode_of-opcode in
    let s = c.args in
    goes_on (line_of s.m s.o 0 s.a s.b s.t) s.counter s.state.now (ap jumps (sym p.ensures) ∙ sym w.ensures ∙ i.true)

pub returns : goal.returns
returns c =
    let n = c.advanced in
    let g = c.target_line in
    let j = c.is_taken-jumps in
    let z = c.read_arguments-args in
    let y = c.fetch-y in
    let x = c.fetch-x in
    let m = c.mark_of-mark in
    let s = c.args in
    gone (line_of s.m s.o 0 s.a s.b s.t) s.counter s.state.now m.result (opcode_of s.o) j.result x.result y.result z.result _ _ m.ensures refl x.ensures y.ensures z.ensures j.ensures g.ensures n.ensures
