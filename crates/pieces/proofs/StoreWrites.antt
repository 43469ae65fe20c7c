-- Lines in a store: one after the other is all at once.
-- Assumes nothing.
use mathlib.Core.Path.{◌≡◌, refl, sym, ap, ap₂, ◌∙◌}
use mathlib.Core.List.{List, [], ◌∷◌, ◌++◌, flat_map, append_assoc, append-nil}
use Prim.Native.Nat.{ℕ, ◌+◌, ◌*◌, ◌≤◌}
use native.Mathlib.Numerals.{add-one, add-two, add-three, add-four, add_five}
use native.Mathlib.Omega.{arith}
use lib.ListN.{length, set, take, drop, length-append, take-append-drop, length-drop}
use lib.Seq.{sets-eq, take_at, drop_at, drop-drop, length-take-le}
use Rattle.model.specs.declared.Line.{Line}
use Rattle.model.specs.Stored.{codes}
use Rattle.model.proofs.TestLaws.{is_true}
use Rattle.model.specs.Lines.{AllCorrect}
use Rattle.coding.proofs.Codes.{codes_fit}
use Rattle.pieces.specs.Writes.{encoded, put, Wrote}

stored-length : (ls : List Line) → length (flat_map encoded ls) ≡ 6 * length ls
unfolding flat_map
stored-length [] = refl
stored-length (l ∷ ls) = omega (arith, stored-length ls)

stored-append : (a b : List Line) → flat_map encoded (a ++ b) ≡ flat_map encoded a ++ flat_map encoded b
unfolding flat_map
stored-append [] b = refl
stored-append (l ∷ a) b = ap (λ (r : List ℕ). encoded l ++ r) (stored-append a b) ∙ sym (append_assoc (encoded l) (flat_map encoded a) (flat_map encoded b))

-- the numbers of correct lines are stored as they are
pub stored-correct : (ls : List Line) → AllCorrect ls → flat_map encoded ls ≡ flat_map codes ls
unfolding flat_map
stored-correct [] h = refl
stored-correct (l ∷ ls) h = ap₂ (λ (x y : List ℕ). x ++ y) (codes_fit l (is_true _ h.0)) (stored-correct ls h.1)

-- six stores in a row
six : (t : List ℕ) (k a b c d e f : ℕ) → k + 6 ≤ length t
    → set (set (set (set (set (set t k a) (k + 1) b) (k + 2) c) (k + 3) d) (k + 4) e) (k + 5) f ≡ take k t ++ (a ∷ b ∷ c ∷ d ∷ e ∷ f ∷ []) ++ drop (k + 6) t
six t k a b c d e f h = rw (add-one k, add-two k, add-three k, add-four k, add_five k) (sets-eq (a ∷ b ∷ c ∷ d ∷ e ∷ f ∷ []) t k h)

pub one_line : (out : List ℕ) (at m o d a b t : ℕ) (l : Line) → m ∷ o ∷ d ∷ a ∷ b ∷ t ∷ [] ≡ encoded l → 6 * (at + 1) ≤ length out
    → set (set (set (set (set (set out (6 * at) m) (6 * at + 1) o) (6 * at + 2) d) (6 * at + 3) a) (6 * at + 4) b) (6 * at + 5) t ≡ put out at (l ∷ [])
unfolding put flat_map
one_line out at m o d a b t l e h =
    let q : 6 * (at + 1) ≡ 6 * at + 6 = omega arith in
    rw (← e, q) (six out (6 * at) m o d a b t (omega arith))

pub put_none : (out : List ℕ) (k : ℕ) → put out k [] ≡ out
unfolding put flat_map
put_none out k =
    let q : k + 0 ≡ k = omega arith in
    rw (q, append-nil (take (6 * k) out)) (take-append-drop (6 * k) out)

module _ (out : List ℕ) (k : ℕ) (a : List Line) where
  front : List ℕ
  front = take (6 * k) out ++ flat_map encoded a

  front_length : 6 * k ≤ length out → length front ≡ 6 * (k + length a)
  unfolding front
  front_length h = length-append (take (6 * k) out) (flat_map encoded a) ∙ omega (arith, length-take-le (6 * k) out h, stored-length a)

  pub put-length : 6 * (k + length a) ≤ length out → length (put out k a) ≡ length out
  unfolding put front
  put-length h = length-append front _ ∙ omega (arith, front_length (omega arith), length-drop (6 * (k + length a)) out)

regroup : (a b c d : List ℕ) → ((a ++ b) ++ c) ++ d ≡ (a ++ (b ++ c)) ++ d
regroup a b c d = simp append_assoc

-- b after a
pub put-put : (out : List ℕ) (k : ℕ) (a b : List Line) → 6 * (k + length a) ≤ length out → put (put out k a) (k + length a) b ≡ put out k (a ++ b)
unfolding put front
put-put out k a b h =
    let m : ℕ = 6 * (k + length a) in
    let x : List ℕ = take (6 * k) out ++ flat_map encoded a in
    let n : length x ≡ m = front_length out k a (omega arith) in
    let s : 6 * (k + length a + length b) ≡ m + 6 * length b = omega arith in
    let t : 6 * (k + length (a ++ b)) ≡ m + 6 * length b = omega (arith, length-append a b) in
    let f : take m (x ++ drop m out) ≡ x = take_at x (drop m out) m n in
    let g : drop m (x ++ drop m out) ≡ drop m out = drop_at x (drop m out) m n in
    rw (s, t, f, stored-append a b)
    (ap (λ (r : List ℕ). (x ++ flat_map encoded b) ++ r)
    (sym (drop-drop (6 * length b) m (x ++ drop m out)) ∙ ap (drop (6 * length b)) g ∙ drop-drop (6 * length b) m out)
    ∙ regroup (take (6 * k) out) (flat_map encoded a) (flat_map encoded b) _)

-- ---- lines written, and where they end

pub wrote_none : (out : List ℕ) (at : ℕ) → 6 * at ≤ length out → Wrote out out at at []
wrote_none out at h = record { ends = omega arith; fits = h; long = refl; holds = sym (put_none out at) }

pub wrote_one : {out o : List ℕ} {at n : ℕ} {l : Line} → n ≡ at + 1 → 6 * (at + 1) ≤ length out → o ≡ put out at (l ∷ []) → Wrote out o at n (l ∷ [])
wrote_one {out} {o} {at} {n} {l} q h e = record { ends = omega arith; fits = omega arith; long = ap length e ∙ put-length out at (l ∷ []) h; holds = e }

-- some lines after others
pub wrote_then : {out o o' : List ℕ} {k n m : ℕ} {a b : List Line} → Wrote out o k n a → Wrote o o' n m b → Wrote out o' k m (a ++ b)
wrote_then {out} {o} {o'} {k} {n} {m} {a} {b} w v =
    record {
      ends = omega (arith, length-append a b);
      fits = omega arith;
      long = omega arith;
      holds = rw (v.holds, w.holds, w.ends) (put-put out k a b (omega arith));
    }
