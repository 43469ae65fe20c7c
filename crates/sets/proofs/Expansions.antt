-- Expansions of accepted programs are balanced or spent: an unmarked line has public operands alone, a marked one its macro, and at every
-- line's start the sets are within a bound of images. By induction over the budget. Assumes nothing.
use mathlib.Core.Path.{◌≡◌, refl, sym, ap, ◌∙◌, subst}
use mathlib.Core.List.{List, [], ◌∷◌}
use mathlib.Core.Option.{Option, none, some}
use mathlib.Core.Logic.{inl, inr}
use Prim.Native.Nat.{ℕ, zero, suc, ◌+◌, ◌%◌, ◌<◌}
use native.Mathlib.Omega.{arith}
use lib.Dec.{T, lit<, lit≤}
use lib.ListN.{length, get_or, set, drop, get_elem?, length-set}
use lib.Seq.{get_or-set_same, get_or-set_other}
use Rattle.model.specs.declared.Layout.{Layout}
use Rattle.model.specs.declared.Mark.{Mark}
use Rattle.model.specs.declared.Mark.TheVariants.{Unmarked, Marked}
use Rattle.model.specs.declared.Opcode.{Opcode}
use Rattle.model.specs.declared.Operand.{Operand}
use Rattle.model.specs.declared.Operand.TheVariants.{Empty, Literal, Register, Cell, PublicCell, SensitiveCell, TableCell}
use Rattle.model.specs.declared.Target.{Target}
use Rattle.model.specs.declared.Line.{Line}
use Rattle.model.specs.declared.Kind.{Kind}
use Rattle.model.specs.declared.Kind.TheVariants.{Neither, Public, Sensitive}
use Rattle.model.specs.Limits.{state_size}
use Rattle.model.specs.Layouts.{Known}
use Rattle.model.specs.Lines.{correct}
use Rattle.model.specs.Places.{State, place, kind}
use Rattle.model.specs.Step.{row, result, next, weight, bus_after}
use Rattle.model.specs.Code.{code}
use Rattle.model.specs.Images.{by_kind, fixed}
use Rattle.model.specs.Marks.{mark_fault, Accepted}
use Rattle.model.specs.Expansion.{coded, new_target, part_of, size, start, expand}
use Rattle.model.proofs.TestLaws.{below}
use Rattle.model.proofs.Straight.{drop_head}
use Rattle.model.proofs.Parts.{part_at, start-zero, start_suc, start_end}
use Rattle.model.proofs.Lengths.{macro_bounds}
use Rattle.model.proofs.Operands.{PublicOperand, steady_public, public_register_of, public_cell_of}
use Rattle.model.proofs.Acceptance.{mk, AllRight, line_at, accepted_right, Plain, plain, MarkedOperands, marked_operands}
use Rattle.model.proofs.UnmarkedLines.{result_same, row_same, bus_same, next_same}
use Rattle.model.proofs.Simulation.{next-moved}
use Rattle.sets.specs.Walk.{Sets, values, sets_of, heads, walk}
use Rattle.sets.specs.Claims.{In, OnlyImage, NoFalseAlarm, Full}
use Rattle.sets.proofs.DrawnStates.{heads_drawn}
use Rattle.sets.proofs.Sound.{Passed}
use Rattle.sets.proofs.Bounds.{Bound, Sole, sole_past, Does, UpTo, up_zero, step_on, up_none}
use Rattle.sets.proofs.Reports.{sized-full, expansion_clear}
use Rattle.sets.proofs.Chains.{put, turn-put, chain_up}
use Rattle.sets.proofs.ImageBounds.{codes, sole_of, single_even, same_of, place-fixed, sole_public, base_sole, scratch_kind, Allowed, Ready, public_in, ready_put}
use Rattle.sets.proofs.Macros.{macro_passes}

-- ---- an unmarked line

-- a public operand's place, where it names one
public_place : (o : Operand) → PublicOperand o → (s : State) → place o s < state_size → kind (place o s) ≡ Public
unfolding place
public_place Empty g s h = absurd (omega arith)
public_place (Literal n) g s h = absurd (omega arith)
public_place (Register n) g s h = (public_register_of n g).is
public_place (Cell n) g s h = (public_cell_of n g).is
public_place (PublicCell r k) g s h = (public_cell_of ((get_or s r 0 + k) % 128) (omega arith)).is
public_place (SensitiveCell r k) g s h = absurd g
public_place (TableCell r k) g s h = absurd g

module _ {L : Layout} {U : State} {B : Bound} (R : Ready L U B) where
  public_sole : (o : Operand) → PublicOperand o → (s : State) → Sole B (place o s)
  public_sole o g s = below (place o s) state_size (λ h. sole_public (public_in R) (place o s) h (public_place o g s h)) (sole_past B (place o s))

  plain_does : (op : Opcode) (d a b : Operand) (t : Target) (k c : ℕ) → Plain d a b
      → let l = mk Unmarked op d a b t in Does B (c ∷ []) l k (place d U) (result l U ∷ []) (row l k U c) (bus_after l U c ∷ []) (next l k U)
  plain_does op d a b t k c P =
      let S = public_in R in
      record {
        aim = base_sole S d (steady_public d P.destination);
        args = λ j s F. ((base_sole S a (steady_public a P.first), public_sole a P.first s), (base_sole S b (steady_public b P.second), public_sole b P.second s));
        dest = λ s F. place-fixed S d (steady_public d P.destination) s F;
        res = λ s F. inl (sym (result_same U s R.long F.long (same_of S s F) d a b P op t));
        shown = λ s F x m. rw (sole_of x c m) (sym (row_same U s R.long F.long (same_of S s F) d a b P op t k c));
        leads = λ s F x m. inl (rw (sole_of x c m) (sym (bus_same U s R.long F.long (same_of S s F) d a b P op t c)));
        goes = λ s F. sym (next_same U s R.long F.long (same_of S s F) d a b P op t k);
        count = lit≤ tt;
      }

  ready_public : (d : Operand) → PublicOperand d → (v : ℕ) → Ready L (set U (place d U) v) (put (place d U) (v ∷ []) B)
  unfolding Allowed
  ready_public d g v =
      let q = place d U in
      ready_put R (set U q v) q (v ∷ []) (length-set U q v ∙ R.long) (λ i n. get_or-set_other U q i v 0 n)
      (λ h n x m. rw (public_place d g U h, get_or-set_same U q v 0 (omega (arith, R.long))) (sym (sole_of x v m))) (single_even v)

-- ---- whole programs

module _ (L : Layout) (K : Known L) (p : List Line) where
  -- with every budget up to n the walk passes from every line's start, every bound of images and every value of the bus
  abbrev Starts : ℕ → Type 0
  Starts n = (k : ℕ) (U : State) (B : Bound) (c : ℕ) → Ready L U B → UpTo (expand L p) n (start L p k) B (c ∷ [])

  module _ (n : ℕ) (ih : Starts n) (k : ℕ) (op : Opcode) (d a b : Operand) (t : Target) (U : State) (B : Bound) (c : ℕ) (R : Ready L U B) where
    line_plain : get_elem? p k ≡ some (mk Unmarked op d a b t) → Plain d a b → UpTo (expand L p) (suc n) (start L p k) B (c ∷ [])
    unfolding expand size part_of
    line_plain e P =
        let l = mk Unmarked op d a b t in
        let m = mk Unmarked op d a b (new_target (start L p) t) in
        let v = result m U in
        step_on (expand L p) n (start L p k) B (c ∷ []) (put (place d U) (v ∷ []) B) (bus_after m U c ∷ []) m (place d U) (v ∷ []) (row m (start L p k) U c) (next m (start L p k) U)
        (drop_head (expand L p) (start L p k) m (drop (start L p (suc k)) (expand L p)) (part_at L (start L p) p k l e))
        (plain_does R op d a b (new_target (start L p) t) (start L p k) c P) turn-put
        (rw (next-moved L p k op d a b t U (start_suc L p k l e)) (ih (next l k U) (set U (place d U) v) (put (place d U) (v ∷ []) B) (bus_after m U c) (ready_public R d P.destination v)))

    line_marked : get_elem? p k ≡ some (mk Marked op d a b t) → MarkedOperands op d a b → UpTo (expand L p) (suc n) (start L p k) B (c ∷ [])
    unfolding expand size part_of
    line_marked e M m j le S H =
        let l = mk Marked op d a b t in
        let Q = macro_passes L K U R c op d a b M in
        let led = Q.1.1 in
        chain_up led.chain (expand L p) (drop (start L p (suc k)) (expand L p)) n (start L p k) (part_at L (start L p) p k l e)
        (subst (λ (j : ℕ). UpTo (expand L p) n j Q.0 (Q.1.0 ∷ [])) (start_suc L p k l e) (ih (suc k) U Q.0 Q.1.0 led.ready))
        m j (omega (arith, (macro_bounds L op d (coded L a) (coded L b)).0 M.able)) S H

  line_by_lem : (c n k : ℕ) (m : Mark) (op : Opcode) (d a b : Operand) (t : Target) → Starts n → get_elem? p k ≡ some (mk m op d a b t)
      → T (correct (mk m op d a b t)) × (mark_fault c (mk m op d a b t) ≡ 0) → (U : State) (B : Bound) (x : ℕ) → Ready L U B → UpTo (expand L p) (suc n) (start L p k) B (x ∷ [])
  line_by_lem c n k Unmarked op d a b t ih e h U B x R = line_plain n ih k op d a b t U B x R e (plain c op d a b t h.0 h.1)
  line_by_lem c n k Marked op d a b t ih e h U B x R = line_marked n ih k op d a b t U B x R e (marked_operands c op d a b t h.0 h.1)

  starts : (c : ℕ) → AllRight c p → (n : ℕ) → Starts n
  unfolding expand
  starts c A zero k U B x R = up_zero (expand L p) (start L p k) B (x ∷ [])
  starts c A (suc n) k U B x R = go (starts c A n) (get_elem? p k) refl
    where
      go : Starts n → (o : Option Line) → get_elem? p k ≡ o → UpTo (expand L p) (suc n) (start L p k) B (x ∷ [])
      go ih none e = up_none (expand L p) (suc n) (start L p k) B (x ∷ []) (start_end L (start L p) p k e)
      go ih (some l) e = line_by_lem c n k l.mark l.opcode l.destination l.first l.second l.target ih e (line_at c p A k l e) U B x R

-- ---- from sets of images

coded_in : (L : Layout) (x : ℕ) → In x (code L 1 ∷ code L 0 ∷ []) → In x (codes L)
coded_in L x (inl e) = inl e
coded_in L x (inr (inl e)) = inr (inr (inl e))
coded_in L x (inr (inr m)) = absurd m

-- what OnlyImage says of a place's values, of which u is one
image_allowed : (L : Layout) (i u : ℕ) (xs : List ℕ) → OnlyImage L i xs → In u xs → (x : ℕ) → In x xs → Allowed L i u x
unfolding OnlyImage Allowed
image_allowed L i u xs h g x m = go (kind i) h
  where
    go : (k : Kind) → by_kind k ((x : ℕ) → In x xs → x ≡ fixed L i) ((x y : ℕ) → In x xs → In y xs → x ≡ y) ((x : ℕ) → In x xs → In x (code L 1 ∷ code L 0 ∷ []))
        → by_kind k (x ≡ fixed L i) (u ≡ x) (In x (codes L))
    go Neither h = h x m
    go Public h = h u x g m
    go Sensitive h = coded_in L x (h x m)

images_ready : (L : Layout) (S : Sets) → Full S → ((i : ℕ) → i < state_size → OnlyImage L i (values S i)) → Ready L (heads S) (values S)
unfolding OnlyImage
images_ready L S F only =
    let D = heads_drawn S F in
    record {
      long = D.long;
      only = λ i h n. image_allowed L i (get_or (heads S) i 0) (values S i) (only i h) (D.each i h);
      even = λ r h. record { count = weight (fixed L r); each = λ x m. ap weight ((rw (scratch_kind r h) at (only r (omega arith))) x m) };
    }

pub never_leaks : (L : Layout) → Known L → (p : List Line) → Accepted p → (n t : ℕ) (S : Sets) → Full S
    → ((i : ℕ) → i < state_size → OnlyImage L i (values S i)) → Passed (walk (expand L p) n 0 t S (0 ∷ []))
never_leaks L K p A n t S F only =
    subst (λ (k : ℕ). Passed (walk (expand L p) n k t S (0 ∷ []))) (start-zero L p)
    (starts L K p (length p) (accepted_right p A).right n 0 (heads S) (values S) 0 (images_ready L S F only) n t (omega arith) S (record { full = F; within = λ i g x m. m })
    (0 ∷ []) (lit< tt, λ b m. m))

pub no_false_alarm : NoFalseAlarm
no_false_alarm L K p A sets n I = expansion_clear L p sets n K A I (never_leaks L K p A n 0 (sets_of sets) (sized-full sets I.long I.sizes) I.only)
