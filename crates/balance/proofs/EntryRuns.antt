-- From the claims over the definitions to the calls: a call that was not refused is the definition's expansion, image or run, and a stored
-- expansion is read back as its lines. Assumes nothing.
use mathlib.Core.Path.{◌≡◌, refl, sym, ap, ap₂, ◌∙◌, subst, subst₂}
use mathlib.Core.Bool.{Bool, true, false, cond}
use mathlib.Core.List.{List, [], ◌∷◌, flat_map}
use Prim.Native.Nat.{ℕ, ◌*◌, ◌≤◌}
use native.Mathlib.Omega.{arith}
use lib.Dec.{ltb}
use lib.ListN.{length, take, drop, length-append}
use lib.Seq.{take_at}
use Rattle.model.specs.declared.Layout.{Layout}
use Rattle.model.specs.declared.Line.{Line}
use Rattle.model.specs.Layouts.{layout_of, is_six, Known}
use Rattle.model.specs.Limits.{state_size, line_width, row_width}
use Rattle.model.specs.Answers.{Report, done, counted, Outcome, outcome, at_front}
use Rattle.model.specs.Places.{State}
use Rattle.model.specs.Stored.{codes, line_count, lines, program_check}
use Rattle.model.specs.Run.{Ran, run, answer, run_leaves, run_outcome}
use Rattle.model.specs.Images.{BitState, ButScratch, image, back, every, image_right, image_in, bits_in, from_image_outcome}
use Rattle.model.specs.Expansion.{start, expand, expansion_in}
use Rattle.model.specs.Marks.{mark_check, Accepted}
use Rattle.model.specs.Claims.{span}
use Rattle.model.proofs.TestLaws.{is_true}
use Rattle.model.proofs.PlaceLaws.{image-length}
use Rattle.model.proofs.StoredLaws.{codes-length, CheckAnswer, accepts, refuses, check_answer}
use Rattle.model.proofs.ExpansionLaws.{expansion_check, expansion_lines}
use Rattle.model.proofs.BackLaws.{back-image, image_passes}
use Rattle.model.proofs.OutcomeLaws.{never_done, run_outcome_lem, expansion_written, carried_goes, image-made, inside, within, first_store}
use Rattle.model.proofs.CheckAnswers.{accepted_source}
use Rattle.model.proofs.DemandThree.{equal_traces, correspondence}
use Rattle.balance.specs.EntryClaims.{Expanded, Imaged, listing, SameCalls, EqualTraceStores, FollowingCalls, SourceFollowed, Twin, Followable}

-- ---- a program that `expand` did not refuse is checked and accepted

checked_source : (p vs : List ℕ) → mark_check p ≡ done vs → program_check p ≡ counted (line_count p)
unfolding mark_check
checked_source p vs e = go (check_answer p) refl
  where
    go : {r : Report} → CheckAnswer p r → program_check p ≡ r → program_check p ≡ counted (line_count p)
    go (accepts q) w = w ∙ q
    go (refuses k i q) w = absurd (never_done (rw (w ∙ q) at e))

-- ---- what `expand` wrote is a stored program whose lines are the expansion

pub record Listed (position spacing : ℕ) (p e : List ℕ) (n : ℕ) : Type 0 where
  pub six : is_six position spacing ≡ true
  pub known : Known (layout_of position spacing)
  pub is : listing e n ≡ flat_map codes (expand (layout_of position spacing) (lines p))
  pub fits : line_width * n ≤ length e
  source : program_check p ≡ counted (line_count p)
  pub accepted : Accepted (lines p)
  checked : program_check (listing e n) ≡ counted (length (expand (layout_of position spacing) (lines p)))
  lines_are : lines (listing e n) ≡ expand (layout_of position spacing) (lines p)

pub listed : (position spacing : ℕ) (p e : List ℕ) (n : ℕ) → Expanded position spacing p e n → Listed position spacing p e n
listed position spacing p e n E =
    let L = layout_of position spacing in
    let I = within position spacing (E.lent ∷ []) (λ L. expansion_in L p E.lent) E.call in
    let W = expansion_written L p E.lent n e I.then in
    let A = accepted_source p W.values W.checked in
    let c = flat_map codes (expand L (lines p)) in
    let long : length c ≡ line_width * n = codes-length (expand L (lines p)) ∙ ap (λ (m : ℕ). line_width * m) (sym W.count) in
    let is : listing e n ≡ c = ap (take (line_width * n)) W.listing ∙ take_at c (drop (length c) E.lent) (line_width * n) long in
    record {
      six = I.six;
      known = I.known;
      is = is;
      fits = omega (arith, ap length W.listing, long, length-append c (drop (length c) E.lent));
      source = checked_source p W.values W.checked;
      accepted = A;
      checked = ap program_check is ∙ expansion_check L I.known (lines p) A;
      lines_are = ap lines is ∙ expansion_lines L I.known (lines p) A;
    }

-- ---- what a run leaves

-- the ending, 0 or 1, that an answer begins with
pub ending : List Line → Ran → ℕ
ending p r = cond (ltb r.at (length p)) 1 0

pub answer_is : (p : List Line) (r : Ran) → answer p r ≡ done (ending p r ∷ r.at ∷ length r.rows ∷ [])
unfolding answer ending
answer_is p r = go (ltb r.at (length p))
  where
    go : (t : Bool) → cond t (done (1 ∷ r.at ∷ length r.rows ∷ [])) (done (0 ∷ r.at ∷ length r.rows ∷ [])) ≡ done (cond t 1 0 ∷ r.at ∷ length r.rows ∷ [])
    go true = refl
    go false = refl

pub leaves_is : (p : List Line) (r : Ran) (x : List ℕ)
    → run_leaves p r x ≡ outcome (done (ending p r ∷ r.at ∷ length r.rows ∷ [])) (r.state ∷ at_front (flat_map (λ q. q) r.rows) x ∷ [])
unfolding run_leaves
leaves_is p r x = ap (λ (a : Report). outcome a (r.state ∷ at_front (flat_map (λ q. q) r.rows) x ∷ [])) (answer_is p r)

-- a run on what `expand` wrote leaves what the run of the expansion leaves
pub listed-run : (position spacing : ℕ) (p e : List ℕ) (n : ℕ) → Listed position spacing p e n → (i b : ℕ) (v : State) (x : List ℕ) → length v ≡ state_size → row_width * b ≤ length x
    → let q = expand (layout_of position spacing) (lines p) in
    let r = run q b i v in
    run_outcome (listing e n) i b v x ≡ outcome (done (ending q r ∷ r.at ∷ length r.rows ∷ [])) (r.state ∷ at_front (flat_map (λ z. z) r.rows) x ∷ [])
listed-run position spacing p e n N i b v x h g =
    let q = expand (layout_of position spacing) (lines p) in
    run_outcome_lem (listing e n) i b (length q) v x N.checked h g ∙ ap (λ (a : List Line). run_leaves a (run a b i v) x) N.lines_are ∙ leaves_is q (run q b i v) x

-- so on an image
pub imaged_run : (position spacing : ℕ) (p e : List ℕ) (n : ℕ) → Listed position spacing p e n → (i b : ℕ) (s v : State) (x : List ℕ)
    → BitState s → v ≡ image (layout_of position spacing) s → row_width * b ≤ length x
    → let q = expand (layout_of position spacing) (lines p) in
    let r = run q b i (image (layout_of position spacing) s) in
    run_outcome (listing e n) i b v x ≡ outcome (done (ending q r ∷ r.at ∷ length r.rows ∷ [])) (r.state ∷ at_front (flat_map (λ z. z) r.rows) x ∷ [])
imaged_run position spacing p e n N i b s v x B h g =
    let L = layout_of position spacing in
    ap (λ (a : State). run_outcome (listing e n) i b a x) h ∙ listed-run position spacing p e n N i b (image L s) x (image-length L s ∙ B.long) g

-- ---- what `to_image` left is the image of a bit state

pub imaged : (position spacing : ℕ) (s v : State) → Imaged position spacing s v → BitState s × (v ≡ image (layout_of position spacing) s)
imaged position spacing s v S =
    image-made (layout_of position spacing) s S.lent v _ (within position spacing (S.lent ∷ []) (λ L. image_in L s S.lent) S.call).then

-- ---- (a)

pub equal_trace_stores : EqualTraceStores
equal_trace_stores position spacing p e n E s t v w S U same k b x y hx hy =
    let L = layout_of position spacing in
    let N = listed position spacing p e n E in
    let A = imaged position spacing s v S in
    let B = imaged position spacing t w U in
    let q = expand L (lines p) in
    let i = start L (lines p) k in
    let one = run q b i (image L s) in
    let other = run q b i (image L t) in
    let R = equal_traces L N.known (lines p) N.accepted k b s t A.0 B.0 same in
    let answers : answer q one ≡ answer q other = R.answers in
    let rows : flat_map (λ r. r) other.rows ≡ flat_map (λ r. r) one.rows = ap (flat_map (λ r. r)) (sym R.traces) in
    record {
      values = ending q one ∷ one.at ∷ length one.rows ∷ [];
      rows = flat_map (λ r. r) one.rows;
      state_one = one.state;
      state_other = other.state;
      one_call = imaged_run position spacing p e n N i b s v x A.0 A.1 hx;
      other_call =
          imaged_run position spacing p e n N i b t w y B.0 B.1 hy
          ∙ ap₂ (λ (a : Report) (r : List ℕ). outcome a (other.state ∷ at_front r y ∷ [])) (sym (answer_is q other) ∙ sym answers ∙ answer_is q one) rows;
    }

-- ---- (b)

back_goes : (L : Layout) → Known L → (s v lent : State) → BitState s → ButScratch v (image L s) → length lent ≡ state_size → bits_in L v lent ≡ outcome (counted state_size) (s ∷ [])
unfolding ButScratch
back_goes L K s v lent b h l =
    carried_goes (image_right L) (back L) v lent (h.0 ∙ image-length L s ∙ b.long) l (is_true (every (image_right L) 0 v) (image_passes L s v b h))
    ∙ ap (λ (z : State). outcome (counted state_size) (z ∷ [])) (back-image L K s v b h)

pub source_followed : SourceFollowed
source_followed position spacing p e n E s v S k m x y hx hy =
    let L = layout_of position spacing in
    let N = listed position spacing p e n E in
    let A = imaged position spacing s v S in
    let q = expand L (lines p) in
    let i = start L (lines p) k in
    let b = span L (lines p) m k s in
    let source = run (lines p) m k s in
    let expansion = run q b i (image L s) in
    let F = correspondence L N.known (lines p) N.accepted k m s A.0 in
    record {
      ending = ending (lines p) source;
      counter = source.at;
      steps = length source.rows;
      bits = source.state;
      trace = at_front (flat_map (λ r. r) source.rows) x;
      ending_expanded = ending q expansion;
      state = expansion.state;
      trace_expanded = at_front (flat_map (λ r. r) expansion.rows) y;
      source_call = run_outcome_lem p k m (line_count p) s x N.source A.0.long hx ∙ leaves_is (lines p) source x;
      expansion_call =
          imaged_run position spacing p e n N i b s v y A.0 A.1 hy
          ∙ ap₂ (λ (c l : ℕ). outcome (done (ending q expansion ∷ c ∷ l ∷ [])) (expansion.state ∷ at_front (flat_map (λ r. r) expansion.rows) y ∷ [])) F.stands F.steps;
      image = F.holds;
      back = λ lent l. inside position spacing (lent ∷ []) (λ L. bits_in L expansion.state lent) N.six ∙ back_goes L N.known source.state expansion.state lent F.bits F.holds l;
    }

-- ---- the claims as `twin_runs` and `follow` promise them: of calls whose promises are given

pub twin_claim : (q : List ℕ) (i b : ℕ) (v w : State) (x y : List ℕ) (one other : Outcome)
    → one ≡ run_outcome q i b v x → other ≡ run_outcome q i b w y → Twin q i b v w x y → SameCalls x y one other
twin_claim q i b v w x y one other e f W =
    let C = equal_trace_stores W.position W.spacing W.program W.written W.count W.expanded W.bits W.other_bits v w W.imaged W.other_imaged W.same W.line b x y W.room W.other_room in
    let g : (u : State) (z : List ℕ) → run_outcome q i b u z ≡ run_outcome (listing W.written W.count) (start (layout_of W.position W.spacing) (lines W.program) W.line) b u z =
    λ u z. ap₂ (λ (a : List ℕ) (k : ℕ). run_outcome a k b u z) W.is_listing W.is_start in
    subst₂ (λ (a c : Outcome). SameCalls x y a c) (sym (e ∙ g v x)) (sym (f ∙ g w y)) C

follow_calls : (position spacing : ℕ) (p : List ℕ) (k m : ℕ) (s : State) (x q : List ℕ) (i b : ℕ) (v : State) (y : List ℕ) (lent : State) (source expansion : Outcome)
    → source ≡ run_outcome p k m s x → expansion ≡ run_outcome q i b v y → Followable position spacing p k m s x q i b v y lent → FollowingCalls position spacing p b source expansion
follow_calls position spacing p k m s x q i b v y lent source expansion e f W =
    let L = layout_of position spacing in
    let B : ℕ = span L (lines p) m k s in
    let room : row_width * B ≤ length y = subst (λ (c : ℕ). row_width * c ≤ length y) W.is_span W.listing_room in
    let C = source_followed position spacing p W.written W.count W.expanded s v W.imaged k m x y W.room room in
    let g : run_outcome q i b v y ≡ run_outcome (listing W.written W.count) (start L (lines p) k) B v y =
    ap₂ (λ (a : List ℕ) (j : ℕ). run_outcome a j b v y) W.is_listing W.is_start ∙ ap (λ (c : ℕ). run_outcome (listing W.written W.count) (start L (lines p) k) c v y) W.is_span in
    subst (λ (c : ℕ). FollowingCalls position spacing p c source expansion) (sym W.is_span)
    (subst₂ (λ (a c : Outcome). FollowingCalls position spacing p B a c) (sym e) (sym (f ∙ g)) C)

pub follow_claim : (position spacing : ℕ) (p : List ℕ) (k m : ℕ) (s : State) (x q : List ℕ) (i b : ℕ) (v : State) (y : List ℕ) (lent : State)
    (a : Report) (s' : State) (x' : List ℕ) (c : Report) (v' : State) (y' : List ℕ) (d : Report) (back : State)
    → outcome a (s' ∷ x' ∷ []) ≡ run_outcome p k m s x → outcome c (v' ∷ y' ∷ []) ≡ run_outcome q i b v y → outcome d (back ∷ []) ≡ from_image_outcome position spacing v' lent
    → Followable position spacing p k m s x q i b v y lent → FollowingCalls position spacing p b (outcome a (s' ∷ x' ∷ [])) (outcome c (v' ∷ y' ∷ [])) × (back ≡ s')
follow_claim position spacing p k m s x q i b v y lent a s' x' c v' y' d back e f g W =
    let C = follow_calls position spacing p k m s x q i b v y lent (outcome a (s' ∷ x' ∷ [])) (outcome c (v' ∷ y' ∷ [])) e f W in
    let bits : s' ≡ C.bits = ap first_store C.source_call in
    let state : v' ≡ C.state = ap first_store C.expansion_call in
    (C, ap first_store (g ∙ ap (λ (u : State). from_image_outcome position spacing u lent) state ∙ C.back lent W.long) ∙ sym bits)
