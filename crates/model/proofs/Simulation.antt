-- From one line to whole runs: the expansion's part of a source line does to the image what the line does to the bit state, and what
-- it shows is given by public numbers. By induction over the source's steps. Assumes nothing.
use mathlib.Core.Path.{◌≡◌, refl, sym, ap, ap₂, ◌∙◌, subst, subst₂}
use mathlib.Core.Bool.{Bool, true, false, cond}
use mathlib.Core.List.{List, [], ◌∷◌, ◌++◌}
use mathlib.Core.Option.{Option, none, some}
use Prim.Native.Nat.{ℕ, zero, suc, ◌+◌}
use native.Mathlib.Omega.{arith}
use lib.Dec.{T}
use lib.ListN.{length, get_elem?, drop, length-append}
use Rattle.model.specs.declared.Layout.{Layout}
use Rattle.model.specs.Layouts.{Known}
use Rattle.model.specs.declared.Mark.{Mark}
use Rattle.model.specs.declared.Mark.TheVariants.{Unmarked, Marked}
use Rattle.model.specs.declared.Opcode.{Opcode}
use Rattle.model.specs.declared.Operand.{Operand}
use Rattle.model.specs.declared.Target.{Target}
use Rattle.model.specs.declared.Target.TheVariants.{Empty as NoTarget, Line as ToLine}
use Rattle.model.specs.declared.Line.{Line}
use Rattle.model.specs.Places.{State, value}
use Rattle.model.specs.Step.{Row, row, result, next, after, bus_after, distances, taken, target_line, weight}
use Rattle.model.specs.Run.{Ran, ran, push, run_on}
use Rattle.model.specs.Lines.{correct}
use Rattle.model.specs.Images.{BitState}
use Rattle.model.specs.Expansion.{macro, coded, new_target, part_of, size, start, expand}
use Rattle.model.specs.Marks.{mark_fault}
use Rattle.model.specs.Claims.{span}
use Rattle.model.proofs.Runs.{stopped, step_run, run-zero, run_add, join_runs}
use Rattle.model.proofs.Straight.{exec_at, exec_rows, drop_head, run_straight}
use Rattle.model.proofs.Parts.{part_at, start-zero, start_suc}
use Rattle.model.proofs.Acceptance.{mk, AllRight, line_at, Plain, plain, MarkedOperands, marked_operands}
use Rattle.model.proofs.Pieces.{held}
use Rattle.model.proofs.ImageLaws.{zeros, rails, same_held}
use Rattle.model.proofs.MarkedLines.{Weights, Related, weighed, shown, macro_bus, macro_done, macro_straight, next_marked}
use Rattle.model.proofs.UnmarkedLines.{row_same, next_same, bus_same, held-length, plain_related}

-- what the part of a line shows, the Hamming weights of the scratch registers after it, and the bus after it, β being that before
abbrev pub by_mark {ℓ} : {A : Type ℓ} → Mark → A → A → A
by_mark Unmarked x y = x
by_mark Marked x y = y

unfoldable pub line_rows : (L : Layout) → Line → ℕ → State → Weights → ℕ → List Row
line_rows L l k s w β = by_mark l.mark (row l k s β ∷ []) (shown L l.opcode l.destination l.first l.second k s w β)

unfoldable pub line_weights : Line → Weights → Weights
line_weights l w = by_mark l.mark w (weighed l.opcode w)

unfoldable pub line_bus : Layout → Line → State → ℕ → ℕ
line_bus L l s β = by_mark l.mark (bus_after l s β) (macro_bus L l.opcode l.destination l.first s β)

-- ---- one line

-- source line k done by the expansion from a state v that is related to s, the bus at β
record Lined (L : Layout) (p : List Line) (k : ℕ) (l : Line) (s v : State) (w : Weights) (β : ℕ) : Type 0 where
  steps : length (run_on (expand L p) (size L l) (start L p k) v β).rows ≡ size L l
  stands : (run_on (expand L p) (size L l) (start L p k) v β).at ≡ start L p (next l k s)
  shows : (run_on (expand L p) (size L l) (start L p k) v β).rows ≡ line_rows L l (start L p k) s w β
  leads : (run_on (expand L p) (size L l) (start L p k) v β).bus ≡ line_bus L l s β
  related : Related L (after l s) (run_on (expand L p) (size L l) (start L p k) v β).state (line_weights l w)

line_marked : (L : Layout) (K : Known L) (p : List Line) (k : ℕ) (op : Opcode) (d a b : Operand) (t : Target) → get_elem? p k ≡ some (mk Marked op d a b t) → MarkedOperands op d a b
    → (r : List ℕ) (bits : BitState (zeros r)) (x y z : ℕ) (w : Weights) (β : ℕ) → weight x ≡ w.one → weight y ≡ w.two → weight z ≡ w.three
    → Lined L p k (mk Marked op d a b t) (zeros r) (held x y z (rails L r)) w β
unfolding line_rows line_weights line_bus expand size part_of after result
line_marked L K p k op d a b t e M r bits x y z w β wx wy wz =
    let l = mk Marked op d a b t in
    let ls = macro L op d (coded L a) (coded L b) in
    let v = held x y z (rails L r) in
    let g = run_straight (expand L p) ls (drop (start L p (suc k)) (expand L p)) (start L p k) v β (part_at L (start L p) p k l e) (macro_straight L op d (coded L a) (coded L b)) in
    let D = macro_done L K r bits op d a b M (start L p k) x y z w β wx wy wz in
    record {
      steps = ap (λ (q : Ran). length q.rows) g ∙ exec_rows ls (start L p k) v β;
      stands = ap (λ (q : Ran). q.at) g ∙ exec_at ls (start L p k) v β ∙ sym (start_suc L p k l e) ∙ ap (start L p) (sym (next_marked op d a b t M.able k (zeros r)));
      shows = ap (λ (q : Ran). q.rows) g ∙ D.shows;
      leads = ap (λ (q : Ran). q.bus) g ∙ D.leads;
      related = subst (λ (q : Ran). Related L (after l (zeros r)) q.state (weighed op w)) (sym g) D.related;
    }

goal_moved : (L : Layout) (p : List Line) (t : Target) → target_line (new_target (start L p) t) ≡ start L p (target_line t)
unfolding target_line new_target
goal_moved L p NoTarget = sym (start-zero L p)
goal_moved L p (ToLine t) = refl

pub next-moved : (L : Layout) (p : List Line) (k : ℕ) (op : Opcode) (d a b : Operand) (t : Target) (s : State) → start L p (suc k) ≡ start L p k + 1
    → next (mk Unmarked op d a b (new_target (start L p) t)) (start L p k) s ≡ start L p (next (mk Unmarked op d a b t) k s)
unfolding next
next-moved L p k op d a b t s e = go (taken op (value a s) (value b s))
  where
    go : (c : Bool) → cond c (target_line (new_target (start L p) t)) (suc (start L p k)) ≡ start L p (cond c (target_line t) (suc k))
    go true = goal_moved L p t
    go false = omega (arith, e)

line_plain : (L : Layout) (p : List Line) (k : ℕ) (op : Opcode) (d a b : Operand) (t : Target) → get_elem? p k ≡ some (mk Unmarked op d a b t) → Plain d a b
    → (r : List ℕ) (bits : BitState (zeros r)) (x y z : ℕ) (w : Weights) (β : ℕ) → weight x ≡ w.one → weight y ≡ w.two → weight z ≡ w.three
    → Lined L p k (mk Unmarked op d a b t) (zeros r) (held x y z (rails L r)) w β
unfolding line_rows line_weights line_bus expand size part_of row distances bus_after after result
line_plain L p k op d a b t e P r bits x y z w β wx wy wz =
    let l = mk Unmarked op d a b t in
    let m = mk Unmarked op d a b (new_target (start L p) t) in
    let v = held x y z (rails L r) in
    let h = same_held L r bits x y z in
    let lv = held-length L r bits x y z w wx wy wz in
    let g : run_on (expand L p) 1 (start L p k) v β ≡ ran (next m (start L p k) v) (after m v) (bus_after m v β) (row m (start L p k) v β ∷ []) =
    step_run (expand L p) (start L p k) v β m (drop_head (expand L p) (start L p k) m (drop (start L p (suc k)) (expand L p)) (part_at L (start L p) p k l e)) 0
    ∙ ap (push (row m (start L p k) v β)) (run-zero (expand L p) (next m (start L p k) v) (after m v) (bus_after m v β)) in
    record {
      steps = ap (λ (q : Ran). length q.rows) g;
      stands = ap (λ (q : Ran). q.at) g ∙ sym (next_same (zeros r) v bits.long lv h d a b P op (new_target (start L p) t) (start L p k))
          ∙ next-moved L p k op d a b t (zeros r) (start_suc L p k l e);
      shows = ap (λ (q : Ran). q.rows) g ∙ ap (λ (q : Row). q ∷ []) (sym (row_same (zeros r) v bits.long lv h d a b P op (new_target (start L p) t) (start L p k) β));
      leads = ap (λ (q : Ran). q.bus) g ∙ sym (bus_same (zeros r) v bits.long lv h d a b P op (new_target (start L p) t) β);
      related = subst (λ (q : Ran). Related L (after l (zeros r)) q.state w) (sym g) (plain_related L r bits x y z w wx wy wz op d a b t P);
    }

line_by_lem : (L : Layout) (K : Known L) (p : List Line) (n k : ℕ) (m : Mark) (op : Opcode) (d a b : Operand) (t : Target) → get_elem? p k ≡ some (mk m op d a b t)
    → T (correct (mk m op d a b t)) × (mark_fault n (mk m op d a b t) ≡ 0)
    → (r : List ℕ) (bits : BitState (zeros r)) (x y z : ℕ) (w : Weights) (β : ℕ) → weight x ≡ w.one → weight y ≡ w.two → weight z ≡ w.three
    → Lined L p k (mk m op d a b t) (zeros r) (held x y z (rails L r)) w β
line_by_lem L K p n k Unmarked op d a b t e c r bits x y z w β wx wy wz = line_plain L p k op d a b t e (plain n op d a b t c.0 c.1) r bits x y z w β wx wy wz
line_by_lem L K p n k Marked op d a b t e c r bits x y z w β wx wy wz = line_marked L K p k op d a b t e (marked_operands n op d a b t c.0 c.1) r bits x y z w β wx wy wz

line_done : (L : Layout) (K : Known L) (p : List Line) (n : ℕ) → AllRight n p → (k : ℕ) (l : Line) → get_elem? p k ≡ some l → (s v : State) (w : Weights) (β : ℕ) → Related L s v w → Lined L p k l s v w β
line_done L K p n A k l e s v w β S =
    subst₂ (λ (s v : State). Lined L p k l s v w β) (sym S.source) (sym S.image)
    (line_by_lem L K p n k l.mark l.opcode l.destination l.first l.second l.target e (line_at n p A k l e)
    S.tail S.bits S.x S.y S.z w β S.one S.two S.three)

-- ---- n source steps

-- what they show, by public numbers
unfoldable pub all_rows : (L : Layout) → List Line → ℕ → ℕ → State → Weights → ℕ → List Row
all_rows L p zero k s w β = []
all_rows L p (suc n) k s w β = elim (get_elem? p k) [
  | none ↦ []
  | some l ↦ line_rows L l (start L p k) s w β ++ all_rows L p n (next l k s) (after l s) (line_weights l w) (line_bus L l s β)
]

pub span_none : (L : Layout) (p : List Line) (n k : ℕ) (s : State) → get_elem? p k ≡ none → span L p n k s ≡ 0
unfolding span
span_none L p zero k s e = refl
span_none L p (suc n) k s e = rw (e, span)

pub span_some : (L : Layout) (p : List Line) (n k : ℕ) (s : State) (l : Line) → get_elem? p k ≡ some l → span L p (suc n) k s ≡ size L l + span L p n (next l k s) (after l s)
unfolding span
span_some L p n k s l e = rw (e, span)

pub rows_none : (L : Layout) (p : List Line) (n k : ℕ) (s : State) (w : Weights) (β : ℕ) → get_elem? p k ≡ none → all_rows L p n k s w β ≡ []
unfolding all_rows
rows_none L p zero k s w β e = refl
rows_none L p (suc n) k s w β e = rw (e, all_rows)

pub rows_some : (L : Layout) (p : List Line) (n k : ℕ) (s : State) (w : Weights) (β : ℕ) (l : Line) → get_elem? p k ≡ some l
    → all_rows L p (suc n) k s w β ≡ line_rows L l (start L p k) s w β ++ all_rows L p n (next l k s) (after l s) (line_weights l w) (line_bus L l s β)
unfolding all_rows
rows_some L p n k s w β l e = rw (e, all_rows)

-- the source's own bus, γ before, is told apart: it shows in none of this
pub record Simulated (L : Layout) (p : List Line) (n k : ℕ) (s v : State) (w : Weights) (β γ : ℕ) : Type 0 where
  pub weights : Weights
  pub steps : length (run_on (expand L p) (span L p n k s) (start L p k) v β).rows ≡ span L p n k s
  pub stands : (run_on (expand L p) (span L p n k s) (start L p k) v β).at ≡ start L p (run_on p n k s γ).at
  pub shows : (run_on (expand L p) (span L p n k s) (start L p k) v β).rows ≡ all_rows L p n k s w β
  pub related : Related L (run_on p n k s γ).state (run_on (expand L p) (span L p n k s) (start L p k) v β).state weights

-- nothing done on either side
simulated_none : (L : Layout) (p : List Line) (n k : ℕ) (s v : State) (w : Weights) (β γ : ℕ) → Related L s v w → span L p n k s ≡ 0 → run_on p n k s γ ≡ ran k s γ [] → all_rows L p n k s w β ≡ []
    → Simulated L p n k s v w β γ
simulated_none L p n k s v w β γ S es er ea =
    record {
      weights = w;
      steps = rw (es, run-zero (expand L p) (start L p k) v β);
      stands = rw (es, run-zero (expand L p) (start L p k) v β, er);
      shows = rw (es, run-zero (expand L p) (start L p k) v β, ea);
      related = rw (es, run-zero (expand L p) (start L p k) v β, er) S;
    }

-- a line, and then the others
simulated_some : (L : Layout) (p : List Line) (n k : ℕ) (s v : State) (w : Weights) (β γ : ℕ) (l : Line) → get_elem? p k ≡ some l → Lined L p k l s v w β
    → Simulated L p n (next l k s) (after l s) (run_on (expand L p) (size L l) (start L p k) v β).state (line_weights l w) (line_bus L l s β) (bus_after l s γ) → Simulated L p (suc n) k s v w β γ
simulated_some L p n k s v w β γ l e N I =
    let g = run_on (expand L p) (size L l) (start L p k) v β in
    let m = span L p n (next l k s) (after l s) in
    let f = run_on (expand L p) m (start L p (next l k s)) g.state (line_bus L l s β) in
    let q : run_on (expand L p) (span L p (suc n) k s) (start L p k) v β ≡ join_runs g f =
    ap (λ (i : ℕ). run_on (expand L p) i (start L p k) v β) (span_some L p n k s l e) ∙ run_add (expand L p) (size L l) m (start L p k) v β
    ∙ ap₂ (λ (i c : ℕ). join_runs g (run_on (expand L p) m i g.state c)) N.stands N.leads in
    let y : run_on p (suc n) k s γ ≡ push (row l k s γ) (run_on p n (next l k s) (after l s) (bus_after l s γ)) = step_run p k s γ l e n in
    record {
      weights = I.weights;
      steps = ap (λ (x : Ran). length x.rows) q ∙ length-append g.rows f.rows ∙ ap₂ (λ (x z : ℕ). x + z) N.steps I.steps ∙ sym (span_some L p n k s l e);
      stands = ap (λ (x : Ran). x.at) q ∙ I.stands ∙ ap (λ (x : Ran). start L p x.at) (sym y);
      shows = ap (λ (x : Ran). x.rows) q ∙ ap₂ (λ (x z : List Row). x ++ z) N.shows I.shows ∙ sym (rows_some L p n k s w β l e);
      related = subst₂ (λ (x z : Ran). Related L x.state z.state I.weights) (sym y) (sym q) I.related;
    }

pub simulate : (L : Layout) (K : Known L) (p : List Line) (m : ℕ) → AllRight m p → (n k : ℕ) (s v : State) (w : Weights) (β γ : ℕ) → Related L s v w → Simulated L p n k s v w β γ
unfolding span all_rows
simulate L K p m A zero k s v w β γ S = simulated_none L p zero k s v w β γ S refl (run-zero p k s γ) refl
simulate L K p m A (suc n) k s v w β γ S = go (λ k s v w β γ S. simulate L K p m A n k s v w β γ S) (get_elem? p k) refl
  where
    go : ((k : ℕ) (s v : State) (w : Weights) (β γ : ℕ) → Related L s v w → Simulated L p n k s v w β γ) → (o : Option Line) → get_elem? p k ≡ o → Simulated L p (suc n) k s v w β γ
    go ih none e = simulated_none L p (suc n) k s v w β γ S (span_none L p (suc n) k s e) (stopped p k s γ e (suc n)) (rows_none L p (suc n) k s w β e)
    go ih (some l) e =
        let N = line_done L K p m A k l e s v w β S in
        simulated_some L p n k s v w β γ l e N
        (ih (next l k s) (after l s) (run_on (expand L p) (size L l) (start L p k) v β).state (line_weights l w) (line_bus L l s β) (bus_after l s γ) N.related)
