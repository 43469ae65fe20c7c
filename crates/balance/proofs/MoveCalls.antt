-- Request 06 from the claims over the definitions to the calls: a call of `move_image` that was not refused left the moved image of a stored
-- one, which is what `to_image` leaves of the bit state that `from_image` gives. Assumes nothing.
use mathlib.Core.Path.{◌≡◌, refl, sym, ap, ap₂, ◌∙◌, subst, subst₂}
use mathlib.Core.Bool.{true}
use mathlib.Core.List.{List, [], ◌∷◌}
use Prim.Native.Nat.{ℕ, ◌+◌, ◌*◌, ◌≤◌}
use lib.ListN.{length}
use Rattle.model.specs.Layouts.{layout_of, is_six, Known, in_layout}
use Rattle.model.specs.Limits.{state_size, row_width}
use Rattle.model.specs.Answers.{Report, done, counted, Outcome, outcome}
use Rattle.model.specs.Places.{State}
use Rattle.model.specs.Stored.{lines}
use Rattle.model.specs.Run.{Ran, run, run_outcome}
use Rattle.model.specs.Images.{BitState, ButScratch, image, back, bit_right, image_right, image_in, bits_in, to_image_outcome, from_image_outcome}
use Rattle.model.specs.Expansion.{start, expand}
use Rattle.model.specs.Claims.{span}
use Rattle.model.proofs.PlaceLaws.{image-length}
use Rattle.model.proofs.BackLaws.{back-bits, bits_pass}
use Rattle.model.proofs.OutcomeLaws.{inside, within, carried-made, carried_goes, first_store}
use Rattle.model.proofs.DemandThree.{correspondence}
use Rattle.images.specs.Moving.{StoredImage, moved, moved_in, move_outcome}
use Rattle.images.specs.Claims.{Cleared, old_run, new_run}
use Rattle.images.proofs.Moving.{stored, there_and_back, continued, same_back}
use Rattle.balance.specs.EntryClaims.{listing, SameCalls, Twin}
use Rattle.balance.specs.MoveClaims.{state_left, Moved, MovedByBits, MovedHome, Continuing, ContinuedCalls, MovedTwin}
use Rattle.balance.proofs.EntryRuns.{Listed, listed, imaged, ending, listed-run, imaged_run}

-- ---- a move that was not refused

record MovedCall (op os np ns : ℕ) (v w : State) : Type 0 where
  old_six : is_six op os ≡ true
  new_six : is_six np ns ≡ true
  old_known : Known (layout_of op os)
  new_known : Known (layout_of np ns)
  stored : StoredImage (layout_of op os) v
  is : w ≡ moved (layout_of op os) (layout_of np ns) v

moved_call : (op os np ns : ℕ) (v w : State) → Moved op os np ns v w → MovedCall op os np ns v w
moved_call op os np ns v w M =
    let lent = M.lent in
    let I = within op os (lent ∷ []) (λ old. in_layout np ns (lent ∷ []) (λ new. moved_in old new v lent)) M.call in
    let J = within np ns (lent ∷ []) (λ new. moved_in (layout_of op os) new v lent) I.then in
    let c = carried-made (image_right (layout_of op os)) (moved (layout_of op os) (layout_of np ns)) v lent w _ J.then in
    record { old_six = I.six; new_six = J.six; old_known = I.known; new_known = J.known; stored = record { long = c.long; right = c.passes }; is = c.made }

move_goes : (op os np ns : ℕ) → is_six op os ≡ true → is_six np ns ≡ true → (v lent : State) → StoredImage (layout_of op os) v → length lent ≡ state_size
    → move_outcome op os np ns v lent ≡ outcome (counted state_size) (moved (layout_of op os) (layout_of np ns) v ∷ [])
move_goes op os np ns e f v lent I h =
    inside op os (lent ∷ []) (λ old. in_layout np ns (lent ∷ []) (λ new. moved_in old new v lent)) e ∙ inside np ns (lent ∷ []) (λ new. moved_in (layout_of op os) new v lent) f
    ∙ carried_goes (image_right (layout_of op os)) (moved (layout_of op os) (layout_of np ns)) v lent I.long h I.right

-- the image in the new layout of the bit state that the way back gives
image_goes : (op os np ns : ℕ) (v w : State) → MovedCall op os np ns v w → (other : State) → length other ≡ state_size
    → to_image_outcome np ns (back (layout_of op os) v) other ≡ outcome (counted state_size) (w ∷ [])
image_goes op os np ns v w C other h =
    let s = back (layout_of op os) v in
    let b = back-bits (layout_of op os) v C.stored.long in
    inside np ns (other ∷ []) (λ L. image_in L s other) C.new_six ∙ carried_goes bit_right (image (layout_of np ns)) s other b.long h (bits_pass s b)
    ∙ ap (λ (z : State). outcome (counted state_size) (z ∷ [])) (sym C.is)

pub moved_by_bits : MovedByBits
moved_by_bits op os np ns v w M lent other hl ho =
    let C = moved_call op os np ns v w M in
    let old = layout_of op os in
    record {
      bits = back old v;
      back_call = inside op os (lent ∷ []) (λ L. bits_in L v lent) C.old_six ∙ carried_goes (image_right old) (back old) v lent C.stored.long hl C.stored.right;
      image_call = image_goes op os np ns v w C other ho;
    }

pub by_bits_claim : (op os np ns : ℕ) (v lent w lent' bits other image : State) (a c d : Report) → outcome a (w ∷ []) ≡ move_outcome op os np ns v lent
    → outcome c (bits ∷ []) ≡ from_image_outcome op os v lent' → outcome d (image ∷ []) ≡ to_image_outcome np ns bits other
    → a ≡ counted state_size → length lent' ≡ state_size → length other ≡ state_size → (c ≡ counted state_size) × (d ≡ counted state_size) × (image ≡ w)
by_bits_claim op os np ns v lent w lent' bits other image a c d e f g h hl ho =
    let B = moved_by_bits op os np ns v w (record { lent = lent; call = sym e ∙ ap (λ (z : Report). outcome z (w ∷ [])) h }) lent' other hl ho in
    let back = f ∙ B.back_call in
    let made = g ∙ ap (λ (s : State). to_image_outcome np ns s other) (ap first_store back) ∙ B.image_call in
    (ap (λ (o : Outcome). o.answer) back, ap (λ (o : Outcome). o.answer) made, ap first_store made)

-- what a move answered, and a run from the state that it left
pub answered : (a : Report) (w : State) (o : Outcome) → outcome a (w ∷ []) ≡ o → a ≡ o.answer
answered a w o e = ap (λ (z : Outcome). z.answer) e

pub from-left : (q : List ℕ) (i b : ℕ) (x : List ℕ) (a : Report) (w : State) (o ran : Outcome) → outcome a (w ∷ []) ≡ o → ran ≡ run_outcome q i b w x → ran ≡ run_outcome q i b (state_left o) x
from-left q i b x a w o ran e f = f ∙ ap (λ (z : Outcome). run_outcome q i b (state_left z) x) e

-- ---- there and back

pub moved_home : MovedHome
moved_home op os np ns v w M lent h =
    let C = moved_call op os np ns v w M in
    let old = layout_of op os in
    let new = layout_of np ns in
    let T = there_and_back old new C.old_known C.new_known v C.stored in
    record {
      home = moved new old w;
      call = move_goes np ns op os C.new_six C.old_six w lent (subst (StoredImage new) (sym C.is) T.taken) h;
      cleared = subst (λ (u : State). Cleared v (moved new old u)) (sym C.is) T.home;
    }

pub home_claim : (op os np ns : ℕ) (v lent w lent' home : State) (a r : Report) → outcome a (w ∷ []) ≡ move_outcome op os np ns v lent → outcome r (home ∷ []) ≡ move_outcome np ns op os w lent'
    → a ≡ counted state_size → length lent' ≡ state_size → (r ≡ counted state_size) × Cleared v home
home_claim op os np ns v lent w lent' home a r e f g h =
    let H = moved_home op os np ns v w (record { lent = lent; call = sym e ∙ ap (λ (z : Report). outcome z (w ∷ [])) g }) lent' h in
    let is = f ∙ H.call in
    (ap (λ (o : Outcome). o.answer) is, subst (Cleared v) (sym (ap first_store is)) H.cleared)

-- ---- a run continued

-- a call on what `expand` wrote, over n whole source lines from the image of s, and the call that moves what it leaves
record OldCalls (position spacing np ns : ℕ) (p : List ℕ) (k n : ℕ) (s : State) (b : ℕ) (ran moved' : Report) (w : State) : Type 0 where
  ends : ℕ
  answer : ran ≡ done (ends ∷ start (layout_of position spacing) (lines p) (run (lines p) n k s).at ∷ b ∷ [])
  went : moved' ≡ counted state_size
  is : w ≡ moved (layout_of position spacing) (layout_of np ns) (old_run (layout_of position spacing) (lines p) k n s).state

old_calls : (op os np ns : ℕ) → is_six np ns ≡ true → (p e : List ℕ) (count : ℕ) → Listed op os p e count → (s : State) → BitState s → (k n b : ℕ) → b ≡ span (layout_of op os) (lines p) n k s
    → (x x' lent v w : State) (a c : Report) → row_width * b ≤ length x → length lent ≡ state_size
    → outcome a (v ∷ x' ∷ []) ≡ run_outcome (listing e count) (start (layout_of op os) (lines p) k) b (image (layout_of op os) s) x → outcome c (w ∷ []) ≡ move_outcome op os np ns v lent
    → OldCalls op os np ns p k n s b a c w
old_calls op os np ns six p e count N s B k n b eb x x' lent v w a c room long er em =
    let L = layout_of op os in
    let q = expand L (lines p) in
    let r = old_run L (lines p) k n s in
    let F = correspondence L N.known (lines p) N.accepted k n s B in
    let ran = er ∙ imaged_run op os p e count N (start L (lines p) k) b s (image L s) x B refl room in
    let there : run q b (start L (lines p) k) (image L s) ≡ r = ap (λ (m : ℕ). run q m (start L (lines p) k) (image L s)) eb in
    let state : v ≡ r.state = ap first_store ran ∙ ap (λ (z : Ran). z.state) there in
    let go = em ∙ move_goes op os np ns N.six six v lent (subst (StoredImage L) (sym state) (stored L (run (lines p) n k s).state r.state F.bits F.holds)) long in
    record {
      ends = ending q r;
      answer =
          ap (λ (o : Outcome). o.answer) ran ∙ ap (λ (z : Ran). done (ending q z ∷ z.at ∷ length z.rows ∷ [])) there
          ∙ ap₂ (λ (l m : ℕ). done (ending q r ∷ l ∷ m ∷ [])) F.stands (F.steps ∙ sym eb);
      went = ap (λ (o : Outcome). o.answer) go;
      is = ap first_store go ∙ ap (moved L (layout_of np ns)) state;
    }

pub continued_claim : (op os np ns : ℕ) (q : List ℕ) (i b : ℕ) (v : State) (x : List ℕ) (lent : State) (r : List ℕ) (j d : ℕ) (y : List ℕ) (c : ℕ) (u : State) (z : List ℕ) (would : State)
    (a1 a2 a3 a4 a5 : Report) (v1 w w1 u1 would1 : State) (x1 y1 z1 : List ℕ)
    → outcome a1 (v1 ∷ x1 ∷ []) ≡ run_outcome q i b v x → outcome a2 (w ∷ []) ≡ move_outcome op os np ns v1 lent → outcome a3 (w1 ∷ y1 ∷ []) ≡ run_outcome r j d w y
    → outcome a4 (u1 ∷ z1 ∷ []) ≡ run_outcome q i c u z → outcome a5 (would1 ∷ []) ≡ move_outcome op os np ns u1 would
    → (C : Continuing op os np ns q i b v x lent r j d y c u z would) → ContinuedCalls op os np ns C.program C.move_line C.end_line b d c a1 a2 a3 a4 a5 w1 would1
continued_claim op os np ns q i b v x lent r j d y c u z would a1 a2 a3 a4 a5 v1 w w1 u1 would1 x1 y1 z1 e1 e2 e3 e4 e5 C =
    let p = C.program in
    let s = C.bits in
    let old = layout_of op os in
    let new = layout_of np ns in
    let N = listed op os p C.written C.count C.expanded in
    let M = listed np ns p C.new_written C.new_count C.new_expanded in
    let A = imaged op os s v C.imaged in
    let F = continued old new N.known M.known (lines p) N.accepted C.line C.steps C.more s A.0 in
    let named : (m : ℕ) (t : State) (l : List ℕ) → t ≡ v → run_outcome q i m t l ≡ run_outcome (listing C.written C.count) (start old (lines p) C.line) m (image old s) l =
    λ m t l e. ap₂ (λ (f : List ℕ) (k : ℕ). run_outcome f k m t l) C.is_listing C.is_start ∙ ap (λ (h : State). run_outcome (listing C.written C.count) (start old (lines p) C.line) m h l) (e ∙ A.1) in
    let one = old_calls op os np ns M.six p C.written C.count N s A.0 C.line C.steps b C.is_span x x1 lent v1 w a1 a2 C.room C.long (e1 ∙ named b v x refl) e2 in
    let whole = old_calls op os np ns M.six p C.written C.count N s A.0 C.line (C.steps + C.more) c C.is_whole_span z z1 would u1 would1 a4 a5 C.whole_room C.whole_long (e4 ∙ named c u z C.same_image) e5 in
    let at : ℕ = (run (lines p) C.steps C.line s).at in
    let g = expand new (lines p) in
    let n = new_run old new (lines p) C.line C.steps C.more s in
    let first : j ≡ start new (lines p) at = C.is_new_start ∙ ap (start new (lines p)) C.is_move_line in
    let size : d ≡ span new (lines p) C.more at (run (lines p) C.steps C.line s).state =
    C.is_new_span ∙ ap (λ (k : ℕ). span new (lines p) C.more k (run (lines p) C.steps C.line s).state) C.is_move_line in
    let long : length w ≡ state_size = ap length (one.is ∙ F.image) ∙ image-length new (run (lines p) C.steps C.line s).state ∙ (correspondence old N.known (lines p) N.accepted C.line C.steps s A.0).bits.long in
    let ran = e3 ∙ ap₂ (λ (f : List ℕ) (k : ℕ). run_outcome f k d w y) C.is_new_listing first ∙ listed-run np ns p C.new_written C.new_count M (start new (lines p) at) d w y long C.new_room in
    let there : run g d (start new (lines p) at) w ≡ n = ap₂ (λ (m : ℕ) (h : State). run g m (start new (lines p) at) h) size one.is in
    record {
      ending = one.ends;
      new_ending = ending g n;
      whole_ending = whole.ends;
      stood = one.answer ∙ ap (λ (k : ℕ). done (one.ends ∷ start old (lines p) k ∷ b ∷ [])) (sym C.is_move_line);
      went = one.went;
      stands =
          ap (λ (o : Outcome). o.answer) ran ∙ ap (λ (h : Ran). done (ending g h ∷ h.at ∷ length h.rows ∷ [])) there
          ∙ ap₂ (λ (l m : ℕ). done (ending g n ∷ l ∷ m ∷ [])) (F.stands ∙ ap (start new (lines p)) (sym C.is_end_line)) (F.steps ∙ sym size);
      would_stand = whole.answer ∙ ap (λ (k : ℕ). done (whole.ends ∷ start old (lines p) k ∷ c ∷ [])) (sym C.is_end_line);
      would_go = whole.went;
      holds = subst₂ ButScratch (sym (ap first_store ran ∙ ap (λ (h : Ran). h.state) there)) (sym whole.is) F.holds;
    }

-- ---- the traces from the move on

pub moved_twins_claim : (op os tp ts position spacing : ℕ) (v w lent other v1 w1 : State) (a c : Report) (q : List ℕ) (i b : ℕ) (x y : List ℕ) (one two : Outcome)
    → outcome a (v1 ∷ []) ≡ move_outcome op os position spacing v lent → outcome c (w1 ∷ []) ≡ move_outcome tp ts position spacing w other
    → (Twin q i b v1 w1 x y → SameCalls x y one two) → a ≡ counted state_size → c ≡ counted state_size → MovedTwin position spacing q i b v w x y → SameCalls x y one two
moved_twins_claim op os tp ts position spacing v w lent other v1 w1 a c q i b x y one two e f claim ea ec T =
    let A = moved_call op os position spacing v v1 (record { lent = lent; call = sym e ∙ ap (λ (z : Report). outcome z (v1 ∷ [])) ea }) in
    let B = moved_call tp ts position spacing w w1 (record { lent = other; call = sym f ∙ ap (λ (z : Report). outcome z (w1 ∷ [])) ec }) in
    claim
    record {
      position = position;
      spacing = spacing;
      program = T.program;
      written = T.written;
      count = T.count;
      line = T.line;
      bits = back (layout_of op os) v;
      other_bits = back (layout_of tp ts) w;
      expanded = T.expanded;
      is_listing = T.is_listing;
      is_start = T.is_start;
      imaged = record { lent = v; call = image_goes op os position spacing v v1 A v A.stored.long };
      other_imaged = record { lent = w; call = image_goes tp ts position spacing w w1 B w B.stored.long };
      same = same_back (layout_of op os) (layout_of tp ts) v w A.stored.long B.stored.long T.same;
      room = T.room;
      other_room = T.other_room;
    }
