-- The claims of what the entry point reports: from lent bytes to sets, and from the walk's verdict to the answers of runs.
-- Assumes nothing.
use mathlib.Core.Path.{◌≡◌, refl, sym, ap, ◌∙◌, subst}
use mathlib.Core.Bool.{Bool, true, false, cond, ◌&&◌}
use mathlib.Core.List.{List, [], ◌∷◌, flat_map}
use mathlib.Core.Logic.{◌↔◌, inl}
use Prim.Native.Nat.{ℕ, zero, suc, ◌*◌, ◌≤◌, ◌<◌}
use native.Mathlib.Nat.{zero-add}
use native.Mathlib.Omega.{arith}
use borrow.Author.Tests.{eq-eqb}
use lib.Dec.{T, eqb, ltb, leb, eqb→eq, ltb→lt}
use lib.ListN.{length, get_or, take, drop, length-map, length-drop, get_or-map}
use Rattle.model.specs.declared.Layout.{Layout}
use Rattle.model.specs.declared.Line.{Line}
use Rattle.model.specs.Limits.{state_size}
use Rattle.model.specs.Answers.{Report, refused, and_then, counted, halted, spent}
use Rattle.model.specs.Places.{State}
use Rattle.model.specs.Run.{Ran, run, answer}
use Rattle.model.specs.Stored.{codes, lines, program_check}
use Rattle.model.specs.Layouts.{Known}
use Rattle.model.specs.Expansion.{expand}
use Rattle.model.specs.Marks.{Accepted}
use Rattle.model.proofs.TestLaws.{and_both, holds}
use Rattle.model.proofs.CheckAnswers.{CountOrRefusal, counts, refuses, program_answers}
use Rattle.model.proofs.ExpansionLaws.{expansion_check, expansion_lines}
use Rattle.std.specs.Prelude.{Ok, Err}
use Rattle.model.specs.declared.Condition.TheVariants.{TooManyValues, WrongLength}
use Rattle.sets.specs.declared.Verdict.TheVariants.{Balanced, Spent, Leak}
use Rattle.sets.specs.Walk.{Sets, member, insert, insert_all, distinct, values, max_values, set_width, listed, lists_from, sets_of, sized}
use Rattle.sets.specs.Walk.{Judged, refused_by, ended, walk, judged, told, verdict_report}
use Rattle.sets.specs.Claims.{In, Drawn, Clear, Alike, Sound, Images, Full}
use Rattle.sets.proofs.Members.{first_in, in_some, in_distinct, once_distinct}
use Rattle.sets.proofs.Sound.{Passed, Foretold, walk_sound}

-- ---- lent sets are full

pub lists_length : (n : ℕ) (b : List ℕ) → length (lists_from n b) ≡ n
unfolding lists_from
lists_length zero b = refl
lists_length (suc n) b = ap suc (lists_length n (drop set_width b))

some_listed : (b : List ℕ) → set_width ≤ length b → 0 < get_or b 0 0 → 0 < length (listed (take set_width b))
some_listed [] h g = absurd (omega arith)
some_listed (c ∷ []) h g = absurd (omega arith)
some_listed (zero ∷ x ∷ b) h g = absurd (omega arith)
some_listed (suc c ∷ x ∷ b) h g = omega arith

sized-first : (n : ℕ) (b : List ℕ) → T (sized (suc n) b) → (0 < get_or b 0 0) × T (sized n (drop set_width b))
unfolding sized
sized-first n b h =
    let w = and_both (ltb 0 (get_or b 0 0) && leb (get_or b 0 0) max_values) (sized n (drop set_width b)) h in
    (ltb→lt 0 (get_or b 0 0) (and_both (ltb 0 (get_or b 0 0)) (leb (get_or b 0 0) max_values) w.0).0, w.1)

sized_some : (n : ℕ) (b : List ℕ) → set_width * n ≤ length b → T (sized n b) → (i : ℕ) → i < n → 0 < length (get_or (lists_from n b) i (0 ∷ []))
unfolding lists_from
sized_some zero b l h i g = absurd (omega arith)
sized_some (suc n) b l h zero g = some_listed b (omega arith) (sized-first n b h).0
sized_some (suc n) b l h (suc i) g = sized_some n (drop set_width b) (omega (arith, length-drop set_width b)) (sized-first n b h).1 i (omega arith)

pub values_of : (b : List ℕ) (i : ℕ) → values (sets_of b) i ≡ distinct (get_or (lists_from state_size b) i (0 ∷ []))
unfolding insert_all insert member
values_of b i = get_or-map distinct (lists_from state_size b) i (0 ∷ [])

pub sized-full : (b : List ℕ) → length b ≡ set_width * state_size → T (sized state_size b) → Full (sets_of b)
sized-full b l h =
    let list : ℕ → List ℕ = λ i. get_or (lists_from state_size b) i (0 ∷ []) in
    let first-value : (i : ℕ) → i < state_size → In (get_or (list i) 0 0) (distinct (list i)) =
    λ i g. in_distinct (get_or (list i) 0 0) (list i) (first_in (list i) (sized_some state_size b (omega arith) h i g)) in
    record {
      long = length-map (lists_from state_size b) distinct ∙ lists_length state_size b;
      some_in = λ i g. rw (values_of b i) (in_some (get_or (list i) 0 0) (distinct (list i)) (first-value i g));
      once = λ i g. rw (values_of b i) (once_distinct (list i));
    }

-- ---- the verdict is the walk's, where the sets are right

module _ (p : List Line) (sets : List ℕ) (n : ℕ) where
  judged-right : Passed (judged p sets n) → (length sets ≡ set_width * state_size) × T (sized state_size sets)
  unfolding judged
  judged-right h = go (eqb (length sets) (set_width * state_size)) (sized state_size sets) (eqb→eq (length sets) (set_width * state_size)) h
    where
      go : (a b : Bool) → (T a → length sets ≡ set_width * state_size) → Passed (cond a (cond b (walk p n 0 0 (sets_of sets) (0 ∷ [])) (refused_by TooManyValues 0)) (refused_by WrongLength 0))
          → (length sets ≡ set_width * state_size) × T b
      go true true f h = (f tt, tt)
      go true false f h = absurd h
      go false b f h = absurd h

  judged-walk : length sets ≡ set_width * state_size → T (sized state_size sets) → judged p sets n ≡ walk p n 0 0 (sets_of sets) (0 ∷ [])
  unfolding judged
  judged-walk l h = go (eqb (length sets) (set_width * state_size)) (sized state_size sets) (holds (eq-eqb (length sets) (set_width * state_size) l)) h
    where
      go : (a b : Bool) → T a → T b → cond a (cond b (walk p n 0 0 (sets_of sets) (0 ∷ [])) (refused_by TooManyValues 0)) (refused_by WrongLength 0) ≡ walk p n 0 0 (sets_of sets) (0 ∷ [])
      go true true g h = refl
      go true false g h = absurd h
      go false b g h = absurd g

-- ---- what is told of it

told-passed : (v : Judged) → Clear (told v) ↔ Passed v
told-passed (Ok (Balanced k t)) = (λ h. tt, λ h. omega arith)
told-passed (Ok (Spent k t)) = (λ h. tt, λ h. omega arith)
told-passed (Ok (Leak k t)) = (λ h. absurd (omega arith), λ h. absurd h)
told-passed (Err r) = (λ h. h, λ h. h)

report_told : (p sets : List ℕ) (n m : ℕ) → program_check p ≡ counted m → verdict_report p sets n ≡ told (judged (lines p) sets n)
unfolding verdict_report
report_told p sets n m e = ap (λ (r : Report). and_then r (told (judged (lines p) sets n))) e

report_refused : (p sets : List ℕ) (n k l : ℕ) → program_check p ≡ refused k l → verdict_report p sets n ≡ refused k l
unfolding verdict_report
report_refused p sets n k l e = ap (λ (r : Report). and_then r (told (judged (lines p) sets n))) e

-- where a walk ends as a run does, what is told of it is the answer of the run
ended-answer : (p : List Line) (x : Ran) → answer p x ≡ told (ended p x.at (length x.rows))
unfolding ended answer
ended-answer p x = go (ltb x.at (length p)) x.at (length x.rows)
  where
    go : (b : Bool) (k t : ℕ) → cond b (spent k t) (halted k t) ≡ told (cond b (Ok (Spent k t)) (Ok (Balanced k t)))
    go true k t = refl
    go false k t = refl

foretold_answer : (p : List Line) (n : ℕ) (S : Sets) → Foretold p n 0 0 S (0 ∷ []) → (s : State) → Drawn S s → answer p (run p n 0 s) ≡ told (walk p n 0 0 S (0 ∷ []))
foretold_answer p n S A s D =
    ended-answer p (run p n 0 s) ∙ rw (A.same_at s 0 D (inl refl), A.same_rows s 0 D (inl refl), A.ends, zero-add (length A.rows))

pub sound : Sound
sound p sets n h s u D E = go (program_answers p)
  where
    go : CountOrRefusal (program_check p) → Alike (verdict_report p sets n) (lines p) (run (lines p) n 0 s) (run (lines p) n 0 u)
    go (counts m e) =
        let passed = (told-passed (judged (lines p) sets n)).0 (subst Clear (report_told p sets n m e) h) in
        let right = judged-right (lines p) sets n passed in
        let same = judged-walk (lines p) sets n right.0 right.1 in
        let A = walk_sound (lines p) n 0 0 (sets_of sets) (0 ∷ []) (sized-full sets right.0 right.1) (subst Passed same passed) in
        let told_same : verdict_report p sets n ≡ told (walk (lines p) n 0 0 (sets_of sets) (0 ∷ [])) = report_told p sets n m e ∙ ap told same in
        record {
          traces = A.same_rows s 0 D (inl refl) ∙ sym (A.same_rows u 0 E (inl refl));
          one = foretold_answer (lines p) n (sets_of sets) A s D ∙ sym told_same;
          other = foretold_answer (lines p) n (sets_of sets) A u E ∙ sym told_same;
        }
    go (refuses k l e) = absurd (subst Clear (report_refused p sets n k l e) h)

-- ---- the report on an expansion is clear where the walk passes

pub expansion_clear : (L : Layout) (p : List Line) (sets : List ℕ) (n : ℕ) → Known L → Accepted p → Images L sets
    → Passed (walk (expand L p) n 0 0 (sets_of sets) (0 ∷ [])) → Clear (verdict_report (flat_map codes (expand L p)) sets n)
expansion_clear L p sets n K A I h =
    let stored = flat_map codes (expand L p) in
    let told_same : verdict_report stored sets n ≡ told (walk (expand L p) n 0 0 (sets_of sets) (0 ∷ [])) =
    report_told stored sets n (length (expand L p)) (expansion_check L K p A)
    ∙ ap (λ (ls : List Line). told (judged ls sets n)) (expansion_lines L K p A) ∙ ap told (judged-walk (expand L p) sets n I.long I.sizes) in
    subst Clear (sym told_same) ((told-passed (walk (expand L p) n 0 0 (sets_of sets) (0 ∷ []))).1 h)
