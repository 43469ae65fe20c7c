-- `marks::usual_fault` meets its contract. A condition that holds gives its number, one that does not leaves the rest to the next. Assumes nothing.
use mathlib.Core.Path.{refl, ◌∙◌}
use Rattle.model.specs.Marks.{mark_fault}
use Rattle.model.specs.Stored.{line_of}
use Rattle.marks.proofs.MarkWalk.{broken, kept}
use Rattle.marks.proofs.UsualOperands.{usual_10, usual_12}
use Rattle.marks.proofs.usual_fault.Goals as goal

pub returns-then-holds11 : goal.returns-then-holds11
unfolding mark_fault
returns-then-holds11 c = kept _ _ _ _ _ (usual_10 (line_of c.args.m c.args.o c.args.d c.args.a c.args.b c.args.t) c.requires) (refl) (broken _ _ _ _ c.holds11.ensures c.if-holds11.true)

pub returns-then-reads_sensitive : goal.returns-then-reads_sensitive
unfolding mark_fault
returns-then-reads_sensitive c = kept _ _ _ _ _ (usual_10 (line_of c.args.m c.args.o c.args.d c.args.a c.args.b c.args.t) c.requires) (refl) (kept _ _ _ _ _ c.holds11.ensures c.if-holds11.false (broken _ _ _ _ (c.reads_sensitive.ensures ∙ usual_12 (line_of c.args.m c.args.o c.args.d c.args.a c.args.b c.args.t) c.requires) c.if-reads_sensitive.true))

pub returns-then-holds14 : goal.returns-then-holds14
unfolding mark_fault
returns-then-holds14 c = kept _ _ _ _ _ (usual_10 (line_of c.args.m c.args.o c.args.d c.args.a c.args.b c.args.t) c.requires) (refl) (kept _ _ _ _ _ c.holds11.ensures c.if-holds11.false (kept _ _ _ _ _ (c.reads_sensitive.ensures ∙ usual_12 (line_of c.args.m c.args.o c.args.d c.args.a c.args.b c.args.t) c.requires) c.if-reads_sensitive.false (broken _ _ _ _ c.holds14.ensures c.if-holds14.true)))

pub returns-then-holds15 : goal.returns-then-holds15
unfolding mark_fault
returns-then-holds15 c = kept _ _ _ _ _ (usual_10 (line_of c.args.m c.args.o c.args.d c.args.a c.args.b c.args.t) c.requires) (refl) (kept _ _ _ _ _ c.holds11.ensures c.if-holds11.false (kept _ _ _ _ _ (c.reads_sensitive.ensures ∙ usual_12 (line_of c.args.m c.args.o c.args.d c.args.a c.args.b c.args.t) c.requires) c.if-reads_sensitive.false (kept _ _ _ _ _ c.holds14.ensures c.if-holds14.false (broken _ _ _ _ c.holds15.ensures c.if-holds15.true))))

pub returns-then-holds16 : goal.returns-then-holds16
unfolding mark_fault
returns-then-holds16 c = kept _ _ _ _ _ (usual_10 (line_of c.args.m c.args.o c.args.d c.args.a c.args.b c.args.t) c.requires) (refl) (kept _ _ _ _ _ c.holds11.ensures c.if-holds11.false (kept _ _ _ _ _ (c.reads_sensitive.ensures ∙ usual_12 (line_of c.args.m c.args.o c.args.d c.args.a c.args.b c.args.t) c.requires) c.if-reads_sensitive.false (kept _ _ _ _ _ c.holds14.ensures c.if-holds14.false (kept _ _ _ _ _ c.holds15.ensures c.if-holds15.false (broken _ _ _ _ c.holds16.ensures c.if-holds16.true)))))

pub returns : goal.returns
unfolding mark_fault
returns c = kept _ _ _ _ _ (usual_10 (line_of c.args.m c.args.o c.args.d c.args.a c.args.b c.args.t) c.requires) (refl) (kept _ _ _ _ _ c.holds11.ensures c.if-holds11.false (kept _ _ _ _ _ (c.reads_sensitive.ensures ∙ usual_12 (line_of c.args.m c.args.o c.args.d c.args.a c.args.b c.args.t) c.requires) c.if-reads_sensitive.false (kept _ _ _ _ _ c.holds14.ensures c.if-holds14.false (kept _ _ _ _ _ c.holds15.ensures c.if-holds15.false (kept _ _ _ _ _ c.holds16.ensures c.if-holds16.false (refl))))))
