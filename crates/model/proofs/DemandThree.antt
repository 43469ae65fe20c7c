-- Demand 3, both claims of specs/Claims for every accepted program. (a): what the expansion shows is the same function of two sources
-- that agree in the public places; a budget that ends inside a macro cuts a longer run. (b): the simulation. Assumes nothing.
use mathlib.Core.Path.{◌≡◌, refl, sym, ap, ap₂, ◌∙◌, subst, subst₂}
use mathlib.Core.List.{List, [], ◌∷◌, ◌++◌}
use mathlib.Core.Option.{Option, none, some}
use mathlib.Core.Logic.{◌⊎◌, inl, inr}
use Prim.Native.Nat.{ℕ, zero, suc, ◌+◌, ◌*◌, ◌-◌, ◌≤◌, ◌<◌}
use native.Mathlib.Nat.{add_comm}
use native.Mathlib.Omega.{arith}
use lib.Count.{ones}
use lib.Dec.{T}
use lib.ListN.{length, get_or, get_elem?, length-set}
use Rattle.model.specs.declared.Layout.{Layout}
use Rattle.model.specs.Layouts.{Known}
use Rattle.model.specs.declared.Mark.{Mark}
use Rattle.model.specs.declared.Mark.TheVariants.{Unmarked, Marked}
use Rattle.model.specs.declared.Opcode.{Opcode}
use Rattle.model.specs.declared.Operand.{Operand}
use Rattle.model.specs.declared.Target.{Target}
use Rattle.model.specs.declared.Line.{Line}
use Rattle.model.specs.Limits.{longest}
use Rattle.model.specs.Places.{State, place}
use Rattle.model.specs.Step.{Row, result, next, after, bus_after}
use Rattle.model.specs.Run.{Ran, ran, run_on, run, answer}
use Rattle.model.specs.Lines.{correct}
use Rattle.model.specs.Images.{Bit, BitState, SamePublic, ButScratch, image}
use Rattle.model.specs.Expansion.{coded, part_of, size, start, expand}
use Rattle.model.specs.Marks.{mark_fault}
use Rattle.model.specs.Claims.{span, SameRuns, EqualTraces, Correspondence, DemandThree}
use Rattle.model.proofs.Runs.{stopped, step_run, run-zero, bus_apart, Seen, cut, seen-past}
use Rattle.model.proofs.Parts.{start_end}
use Rattle.model.proofs.PlaceLaws.{same_sym, same_sensitive}
use Rattle.model.proofs.Operands.{sensitive_of}
use Rattle.model.proofs.Acceptance.{mk, AllRight, accepted_right, line_at, plain, marked_operands}
use Rattle.model.proofs.Pieces.{held}
use Rattle.model.proofs.ImageLaws.{zeros, rails}
use Rattle.model.proofs.MarkedLines.{Weights, weights, Related, shown_same, bus_same as marked-bus-same, next_marked, marked_destination}
use Rattle.model.proofs.Lengths.{macro_bounds}
use Rattle.model.proofs.UnmarkedLines.{row_same, bus_same, next_same, after_same}
use Rattle.model.proofs.Simulation.{line_rows, line_weights, line_bus, all_rows, span_none, span_some, rows_none, rows_some, Simulated, simulate}

-- ---- an image is related to its bit state

cleared : Weights
cleared = weights 0 0 0

related_image : (L : Layout) (s : State) → BitState s → Related L s (image L s) cleared
unfolding cleared image Bit ones
related_image L [] b = absurd (omega (arith, b.long))
related_image L (x0 ∷ []) b = absurd (omega (arith, b.long))
related_image L (x0 ∷ x1 ∷ []) b = absurd (omega (arith, b.long))
related_image L (x0 ∷ x1 ∷ x2 ∷ []) b = absurd (omega (arith, b.long))
related_image L (x0 ∷ x1 ∷ x2 ∷ x3 ∷ r) b =
    let e0 : x0 ≡ 0 = b.bits 0 (omega arith) in
    let e1 : x1 ≡ 0 = b.bits 1 (omega arith) in
    let e2 : x2 ≡ 0 = b.bits 2 (omega arith) in
    let e3 : x3 ≡ 0 = b.bits 3 (omega arith) in
    let e : x0 ∷ x1 ∷ x2 ∷ x3 ∷ r ≡ zeros r = rw (e0, e1, e2, e3) in
    record { tail = r; x = 0; y = 0; z = 0; bits = subst BitState e b; source = e; image = refl; one = refl; two = refl; three = refl }

-- ---- two sources that agree in the public places

-- one line shows the same, leaves the bus the same, goes to the same line, and keeps the agreement
record Alike (L : Layout) (l : Line) (s t : State) : Type 0 where
  rows : (k : ℕ) (w : Weights) (β : ℕ) → line_rows L l k s w β ≡ line_rows L l k t w β
  leads : (β : ℕ) → line_bus L l s β ≡ line_bus L l t β
  goes : (k : ℕ) → next l k s ≡ next l k t
  keeps : SamePublic (after l s) (after l t)

alike_by : (L : Layout) (n : ℕ) (m : Mark) (op : Opcode) (d a b : Operand) (g : Target) → T (correct (mk m op d a b g)) × (mark_fault n (mk m op d a b g) ≡ 0)
    → (s t : State) → length s ≡ 544 → length t ≡ 544 → SamePublic s t → Alike L (mk m op d a b g) s t
unfolding line_rows line_bus after
alike_by L n Unmarked op d a b g c s t ls lt h =
    let P = plain n op d a b g c.0 c.1 in
    record {
      rows = λ k w β. ap (λ (q : Row). q ∷ []) (row_same s t ls lt h d a b P op g k β);
      leads = λ β. bus_same s t ls lt h d a b P op g β;
      goes = λ k. next_same s t ls lt h d a b P op g k;
      keeps = after_same s t ls lt h d a b P op g;
    }
alike_by L n Marked op d a b g c s t ls lt h =
    let M = marked_operands n op d a b g c.0 c.1 in
    let o = marked_destination op d a b M in
    let l = mk Marked op d a b g in
    record {
      rows = λ k w β. shown_same L s t h op d a b M k w β;
      leads = λ β. marked-bus-same L s t h op d a b M β;
      goes = λ k. next_marked op d a b g M.able k s ∙ sym (next_marked op d a b g M.able k t);
      keeps = same_sym (after l t) (after l s)
          (same_sensitive (after l t) s (place d s) (result l s) (same_sym s (after l t) (same_sensitive s t (place d t) (result l t) h (sensitive_of d o t).is)) (sensitive_of d o s).is);
    }

alike : (L : Layout) (p : List Line) (n : ℕ) → AllRight n p → (k : ℕ) (l : Line) → get_elem? p k ≡ some l
    → (s t : State) → length s ≡ 544 → length t ≡ 544 → SamePublic s t → Alike L l s t
alike L p n A k l e s t ls lt h = alike_by L n l.mark l.opcode l.destination l.first l.second l.target (line_at n p A k l e) s t ls lt h

after-length : (l : Line) (s : State) → length s ≡ 544 → length (after l s) ≡ 544
unfolding after
after-length l s e = length-set s (place l.destination s) (result l s) ∙ e

-- and so with n steps; γ is the sources' own bus
record AllAlike (L : Layout) (p : List Line) (n k : ℕ) (s t : State) (w : Weights) (β γ : ℕ) : Type 0 where
  rows : all_rows L p n k s w β ≡ all_rows L p n k t w β
  spans : span L p n k s ≡ span L p n k t
  stands : (run_on p n k s γ).at ≡ (run_on p n k t γ).at

all_alike : (L : Layout) (p : List Line) (m : ℕ) → AllRight m p → (n k : ℕ) (s t : State) (w : Weights) (β γ : ℕ) → length s ≡ 544 → length t ≡ 544 → SamePublic s t → AllAlike L p n k s t w β γ
unfolding all_rows span
all_alike L p m A zero k s t w β γ ls lt h = record { rows = refl; spans = refl; stands = rw (run-zero p k s γ, run-zero p k t γ) }
all_alike L p m A (suc n) k s t w β γ ls lt h = go (λ k s t w β γ ls lt h. all_alike L p m A n k s t w β γ ls lt h) (get_elem? p k) refl
  where
    go : ((k : ℕ) (s t : State) (w : Weights) (β γ : ℕ) → length s ≡ 544 → length t ≡ 544 → SamePublic s t → AllAlike L p n k s t w β γ)
        → (o : Option Line) → get_elem? p k ≡ o → AllAlike L p (suc n) k s t w β γ
    go ih none e =
        record {
          rows = rows_none L p (suc n) k s w β e ∙ sym (rows_none L p (suc n) k t w β e);
          spans = span_none L p (suc n) k s e ∙ sym (span_none L p (suc n) k t e);
          stands = rw (stopped p k s γ e (suc n), stopped p k t γ e (suc n));
        }
    go ih (some l) e =
        let N = alike L p m A k l e s t ls lt h in
        let I = ih (next l k s) (after l s) (after l t) (line_weights l w) (line_bus L l s β) (bus_after l s γ) (after-length l s ls) (after-length l t lt) N.keeps in
        record {
          rows = rows_some L p n k s w β l e
              ∙ ap₂ (λ (x y : List Row). x ++ y) (N.rows (start L p k) w β)
              (I.rows ∙ ap₂ (λ (i c : ℕ). all_rows L p n i (after l t) (line_weights l w) c) (N.goes k) (N.leads β))
              ∙ sym (rows_some L p n k t w β l e);
          spans = span_some L p n k s l e ∙ ap (λ (i : ℕ). size L l + i) (I.spans ∙ ap (λ (i : ℕ). span L p n i (after l t)) (N.goes k)) ∙ sym (span_some L p n k t l e);
          stands = ap (λ (x : Ran). x.at) (step_run p k s γ l e n) ∙ I.stands ∙ ap (λ (i : ℕ). (run_on p n i (after l t) (bus_after l s γ)).at) (N.goes k)
              ∙ (bus_apart p n (next l k t) (after l t) (bus_after l s γ) (bus_after l t γ)).at ∙ sym (ap (λ (x : Ran). x.at) (step_run p k t γ l e n));
        }

-- ---- how many steps of the expansion n source steps take

size_by : (L : Layout) (n : ℕ) (m : Mark) (op : Opcode) (d a b : Operand) (g : Target) → T (correct (mk m op d a b g)) × (mark_fault n (mk m op d a b g) ≡ 0)
    → (1 ≤ size L (mk m op d a b g)) × (size L (mk m op d a b g) ≤ longest)
unfolding size part_of
size_by L n Unmarked op d a b g c = omega arith
size_by L n Marked op d a b g c =
    let m = macro_bounds L op d (coded L a) (coded L b) in
    (m.0 (marked_operands n op d a b g c.0 c.1).able, m.1)

size_of : (L : Layout) (p : List Line) (n : ℕ) → AllRight n p → (k : ℕ) (l : Line) → get_elem? p k ≡ some l → (1 ≤ size L l) × (size L l ≤ longest)
size_of L p n A k l e = size_by L n l.mark l.opcode l.destination l.first l.second l.target (line_at n p A k l e)

-- at least one for each and at most `longest`; so n of them, or the source has ended
record Counted (L : Layout) (p : List Line) (n k : ℕ) (s : State) (γ : ℕ) : Type 0 where
  least : length (run_on p n k s γ).rows ≤ span L p n k s
  most : span L p n k s ≤ longest * length (run_on p n k s γ).rows
  ends : (n ≤ span L p n k s) ⊎ (get_elem? p (run_on p n k s γ).at ≡ none)

counted_steps : (L : Layout) (p : List Line) (m : ℕ) → AllRight m p → (n k : ℕ) (s : State) (γ : ℕ) → Counted L p n k s γ
unfolding span
counted_steps L p m A zero k s γ = record { least = rw (run-zero p k s γ) (omega arith); most = rw (run-zero p k s γ) (omega arith); ends = inl (omega arith) }
counted_steps L p m A (suc n) k s γ = go (λ k s γ. counted_steps L p m A n k s γ) (get_elem? p k) refl
  where
    go : ((k : ℕ) (s : State) (γ : ℕ) → Counted L p n k s γ) → (o : Option Line) → get_elem? p k ≡ o → Counted L p (suc n) k s γ
    go ih none e =
        record {
          least = rw (stopped p k s γ e (suc n)) (omega arith);
          most = rw (stopped p k s γ e (suc n), span_none L p (suc n) k s e) (omega arith);
          ends = inr (rw (stopped p k s γ e (suc n)) e);
        }
    go ih (some l) e =
        let I = ih (next l k s) (after l s) (bus_after l s γ) in
        let z = size_of L p m A k l e in
        record {
          least = rw (step_run p k s γ l e n, span_some L p n k s l e) (omega (arith, I.least, z.0));
          most = rw (step_run p k s γ l e n, span_some L p n k s l e) (omega (arith, I.most, z.1));
          ends = more I.ends z;
        }
      where
        more : (n ≤ span L p n (next l k s) (after l s)) ⊎ (get_elem? p (run_on p n (next l k s) (after l s) (bus_after l s γ)).at ≡ none) → (1 ≤ size L l) × (size L l ≤ longest)
            → (suc n ≤ span L p (suc n) k s) ⊎ (get_elem? p (run_on p (suc n) k s γ).at ≡ none)
        more (inl q) z = inl (rw (span_some L p n k s l e) (omega arith))
        more (inr q) z = inr (rw (step_run p k s γ l e n) q)

-- ---- (a)

module _ (L : Layout) (K : Known L) (p : List Line) (A : AllRight (length p) p) (k b : ℕ) (s t : State) (bs : BitState s) (bt : BitState t) (h : SamePublic s t) where
  simulated : Simulated L p b k s (image L s) cleared 0 0
  simulated = simulate L K p (length p) A b k s (image L s) cleared 0 0 (related_image L s bs)

  -- the two runs of b whole source lines
  whole_lines : Seen (run (expand L p) (span L p b k s) (start L p k) (image L s)) (run (expand L p) (span L p b k s) (start L p k) (image L t))
  whole_lines =
      let U = simulate L K p (length p) A b k t (image L t) cleared 0 0 (related_image L t bt) in
      let N = all_alike L p (length p) A b k s t cleared 0 0 bs.long bt.long h in (
        simulated.shows ∙ N.rows ∙ sym (ap (λ (i : ℕ). (run (expand L p) i (start L p k) (image L t)).rows) N.spans ∙ U.shows),
        simulated.stands ∙ ap (start L p) N.stands ∙ sym (ap (λ (i : ℕ). (run (expand L p) i (start L p k) (image L t)).at) N.spans ∙ U.stands),
      )

  -- b steps or more: b source lines take that many, or the source has ended
  longer : (b ≤ span L p b k s) ⊎ (get_elem? p (run p b k s).at ≡ none) → (m : ℕ) × Seen (run (expand L p) (b + m) (start L p k) (image L s)) (run (expand L p) (b + m) (start L p k) (image L t))
  unfolding expand
  longer (inl q) =
      let e : span L p b k s ≡ b + (span L p b k s - b) = omega arith in
      (span L p b k s - b, subst (λ (i : ℕ). Seen (run (expand L p) i (start L p k) (image L s)) (run (expand L p) i (start L p k) (image L t))) e whole_lines)
  longer (inr q) =
      let e : get_elem? (expand L p) (run (expand L p) (span L p b k s) (start L p k) (image L s)).at ≡ none =
      ap (get_elem? (expand L p)) simulated.stands ∙ start_end L (start L p) p (run p b k s).at q in (
        span L p b k s,
        subst (λ (i : ℕ). Seen (run (expand L p) i (start L p k) (image L s)) (run (expand L p) i (start L p k) (image L t))) (add_comm (span L p b k s) b)
            (seen-past (expand L p) (span L p b k s) b (start L p k) (image L s) (image L t) 0 whole_lines e),
      )

  seen : Seen (run (expand L p) b (start L p k) (image L s)) (run (expand L p) b (start L p k) (image L t))
  seen =
      let g = longer (counted_steps L p (length p) A b k s 0).ends in
      cut (expand L p) b g.0 (start L p k) (image L s) (image L t) 0 g.1

  same_runs : SameRuns L p k b s t
  unfolding answer
  same_runs =
      record {
        traces = seen.0;
        answers = ap₂ (λ (r : List Row) (a : ℕ). answer (expand L p) (ran a [] 0 r)) seen.0 seen.1;
      }

pub equal_traces : (L : Layout) (K : Known L) → EqualTraces L
equal_traces L K p A k b s t bs bt h = same_runs L K p (accepted_right p A).right k b s t bs bt h

-- ---- (b)

but_scratch : (L : Layout) (r : List ℕ) (x y z : ℕ) → ButScratch (held x y z (rails L r)) (image L (zeros r))
unfolding ButScratch image
but_scratch L r x y z = (refl, go)
  where
    go : (i : ℕ) → i < length (image L (zeros r)) → ((1 ≤ i) × (i ≤ 3) → ⊥) → get_or (held x y z (rails L r)) i 0 ≡ get_or (image L (zeros r)) i 0
    go zero h n = refl
    go (suc zero) h n = absurd (n (omega arith))
    go (suc (suc zero)) h n = absurd (n (omega arith))
    go (suc (suc (suc zero))) h n = absurd (n (omega arith))
    go (suc (suc (suc (suc i)))) h n = refl

pub correspondence : (L : Layout) (K : Known L) → Correspondence L
correspondence L K p A k n s bs =
    let R = (accepted_right p A).right in
    let S = simulate L K p (length p) R n k s (image L s) cleared 0 0 (related_image L s bs) in
    let C = counted_steps L p (length p) R n k s 0 in
    let E = S.related in
    record {
      steps = S.steps;
      stands = S.stands;
      holds = subst₂ (λ (v s : State). ButScratch v (image L s)) (sym E.image) (sym E.source) (but_scratch L E.tail E.x E.y E.z);
      bits = subst BitState (sym E.source) E.bits;
      least = C.least;
      most = C.most;
    }

pub demand_three : DemandThree
demand_three L K = (equal_traces L K, correspondence L K)
