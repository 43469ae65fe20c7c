-- Req 06, the claims. What the way back takes is an image of the bit state that it gives but for r1 to r3, so a moved image is the image in
-- the new layout of the same bit state, and what is shown of images is shown of it. Assumes nothing.
use mathlib.Core.Path.{◌≡◌, refl, sym, ap, ◌∙◌, subst}
use Prim.Native.Nat.{ℕ, zero, suc, ◌+◌, ◌≤◌, ◌<◌}
use native.Mathlib.Nat.{zero-add, not-suc-le-zero}
use native.Mathlib.Omega.{arith}
use lib.ListN.{length, get_or}
use Rattle.model.specs.declared.Layout.{Layout}
use Rattle.model.specs.declared.Kind.TheVariants.{Neither, Public, Sensitive}
use Rattle.model.specs.Limits.{state_size}
use Rattle.model.specs.Places.{State, kind}
use Rattle.model.specs.Run.{Ran, run}
use Rattle.model.specs.Layouts.{Known}
use Rattle.model.specs.Code.{code}
use Rattle.model.specs.Images.{BitState, SamePublic, ButScratch, fixed, image_at, image, back_at, back, every, image_right}
use Rattle.model.specs.Expansion.{start, expand}
use Rattle.model.specs.Claims.{span}
use Rattle.model.proofs.TestLaws.{is_true}
use Rattle.model.proofs.Finite.{code-back}
use Rattle.model.proofs.PlaceLaws.{map_at-get_or, image-length}
use Rattle.model.proofs.BackLaws.{back-image, image_passes, back-get_or, back-bits, image-back}
use Rattle.model.proofs.Runs.{run_add, bus_apart}
use Rattle.model.proofs.DemandThree.{equal_traces, correspondence}
use Rattle.images.specs.Moving.{StoredImage, moved}
use Rattle.images.specs.Claims.{EachPlace, Cleared, ThereAndBack, old_run, Continued, EqualFromTheMove}

-- ---- states that agree but for r1 to r3

but_self : (v : State) → ButScratch v v
unfolding ButScratch
but_self v = (refl, λ i h q. refl)

but_sym : (v w : State) → ButScratch v w → ButScratch w v
unfolding ButScratch
but_sym v w h = (sym h.0, λ i g q. sym (h.1 i (omega (arith, h.0)) q))

-- an image but for r1 to r3 is a stored image, and moved it is the image in the new layout
module _ (old : Layout) (s v : State) (b : BitState s) (h : ButScratch v (image old s)) where
  pub stored : StoredImage old v
  unfolding ButScratch
  stored = record { long = h.0 ∙ image-length old s ∙ b.long; right = is_true (every (image_right old) 0 v) (image_passes old s v b h) }

  pub moved-image : (new : Layout) → Known old → moved old new v ≡ image new s
  moved-image new K = ap (image new) (back-image old K s v b h)

-- ---- each place

pub moved-get_or : (old new : Layout) (v : State) → length v ≡ state_size → (i : ℕ) → i < state_size → get_or (moved old new v) i 0 ≡ image_at new i (back_at old i (get_or v i 0))
unfolding image
moved-get_or old new v long i h =
    map_at-get_or (image_at new) 0 (back old v) i (omega (arith, (back-bits old v long).long)) ∙ ap (λ (j : ℕ). image_at new j (get_or (back old v) i 0)) (zero-add i)
    ∙ ap (image_at new i) (back-get_or old v long i h)

module _ (old new : Layout) (i x : ℕ) where
  public_stays : kind i ≡ Public → image_at new i (back_at old i x) ≡ x
  unfolding image_at back_at
  public_stays e = rw e

  sensitive_moves : Known old → (b : ℕ) → kind i ≡ Sensitive → b ≤ 1 → x ≡ code old b → image_at new i (back_at old i x) ≡ code new b
  unfolding image_at back_at
  sensitive_moves K b e h w = rw (e, w) (ap (code new) (code-back old K b (omega arith)))

  other_fixed : kind i ≡ Neither → image_at new i (back_at old i x) ≡ fixed new i
  unfolding image_at
  other_fixed e = rw e

pub each_place : EachPlace
each_place old new K v I =
    record {
      long = image-length new (back old v) ∙ (back-bits old v I.long).long;
      public = λ i h e. moved-get_or old new v I.long i h ∙ public_stays old new i (get_or v i 0) e;
      sensitive = λ i b h e l w. moved-get_or old new v I.long i h ∙ sensitive_moves old new i (get_or v i 0) K b e l w;
      others = λ i h e. moved-get_or old new v I.long i h ∙ other_fixed old new i (get_or v i 0) e;
    }

-- ---- there and back

scratch_zero : (L : Layout) (i x : ℕ) → 1 ≤ i → i ≤ 3 → image_at L i x ≡ 0
unfolding image_at kind fixed
scratch_zero L zero x g h = absurd (not-suc-le-zero g)
scratch_zero L (suc zero) x g h = refl
scratch_zero L (suc (suc zero)) x g h = refl
scratch_zero L (suc (suc (suc zero))) x g h = refl
scratch_zero L (suc (suc (suc (suc i)))) x g h = absurd (omega arith)

-- moved to its own layout an image is cleared
own_layout : (L : Layout) (v : State) → StoredImage L v → Cleared v (moved L L v)
own_layout L v I =
    record {
      same = but_sym v (moved L L v) (image-back L v I.long I.right);
      scratch = λ i g h. moved-get_or L L v I.long i (omega arith) ∙ scratch_zero L i (back_at L i (get_or v i 0)) g h;
    }

pub there_and_back : ThereAndBack
there_and_back old new K N v I =
    let s = back old v in
    let b = back-bits old v I.long in
    record {
      taken = stored new s (moved old new v) b (but_self (image new s));
      home = subst (Cleared v) (sym (moved-image new s (moved old new v) b (but_self (image new s)) old N)) (own_layout old v I);
    }

-- ---- runs

pub continued : Continued
continued old new K N p A k n m s b =
    let F = correspondence old K p A k n s b in
    let x = run p n k s in
    let G = correspondence new N p A x.at m x.state F.bits in
    let H = correspondence old K p A k (n + m) s b in
    let v = (old_run old p k n s).state in
    let is : moved old new v ≡ image new x.state = moved-image old x.state v F.bits F.holds new K in
    let apart = bus_apart p m x.at x.state x.bus 0 in
    let whole : (run p (n + m) k s).state ≡ (run p m x.at x.state).state = ap (λ (r : Ran). r.state) (run_add p n m k s 0) ∙ apart.state in
    let there : (run p (n + m) k s).at ≡ (run p m x.at x.state).at = ap (λ (r : Ran). r.at) (run_add p n m k s 0) ∙ apart.at in
    let goes : State → Ran = λ u. run (expand new p) (span new p m x.at x.state) (start new p x.at) u in
    record {
      stood = F.stands;
      taken = stored old x.state v F.bits F.holds;
      image = is;
      follows = G;
      steps = ap (λ (u : State). length (goes u).rows) is ∙ G.steps;
      stands = ap (λ (u : State). (goes u).at) is ∙ G.stands ∙ ap (start new p) (sym there);
      holds =
          subst (λ (u : State). ButScratch (goes (moved old new v)).state u)
          (ap (image new) (sym whole) ∙ sym (moved-image old (run p (n + m) k s).state (old_run old p k (n + m) s).state H.bits H.holds new K))
          (subst (λ (u : State). ButScratch (goes u).state (image new (run p m x.at x.state).state)) (sym is) G.holds);
    }

pub same_back : (one other : Layout) (v w : State) → length v ≡ state_size → length w ≡ state_size → SamePublic v w → SamePublic (back one v) (back other w)
unfolding SamePublic back_at
same_back one other v w hv hw same i h e = back-get_or one v hv i h ∙ rw e (same i h e) ∙ sym (back-get_or other w hw i h)

pub equal_from_the_move : EqualFromTheMove
equal_from_the_move one other new N p A k b v w I J same =
    let R = equal_traces new N p A k b (back one v) (back other w) (back-bits one v I.long) (back-bits other w J.long) (same_back one other v w I.long J.long same) in
    record { traces = R.traces; answers = R.answers }
