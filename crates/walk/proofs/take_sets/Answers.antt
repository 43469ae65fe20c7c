-- `walk::take_sets` meets its contract. The loop's invariant: the first i places have their sets and first values. Assumes nothing.
use mathlib.Core.Path.{◌≡◌, refl, sym, ap, ◌∙◌}
use mathlib.Core.List.{List, [], ◌∷◌, map}
use Prim.Native.Nat.{ℕ, suc, ◌+◌, ◌*◌, ◌≤◌, ◌<◌}
use native.Mathlib.Decide.{ℕ_discrete}
use native.Mathlib.Omega.{arith}
use lib.Dec.{T}
use lib.ListN.{length, get_or, set, take, length-map, length-set}
use lib.Seq.{get_or-set_same, get_or-set_other, ext_get_or}
use Rattle.model.specs.Limits.{state_size}
use Rattle.model.specs.declared.Kind.{Kind}
use Rattle.model.specs.declared.Mark.TheVariants.{Unmarked}
use Rattle.model.specs.Places.{State, kind}
use Rattle.model.specs.Step.{meaning}
use Rattle.sets.specs.Walk.{Sets, set_width, max_values, listed, lists_of, sets_of, sized, values, heads, distinct}
use Rattle.choices.proofs.SetBytes.{listed_at, listed-front}
use Rattle.sets.proofs.DrawnStates.{heads_at}
use Rattle.sets.proofs.Reports.{lists_length, values_of, sized-full}
use borrow.Author.Rules.{rules}
use Rattle.walk.proofs.Gathers.{Took}
use Rattle.walk.proofs.take_sets.Goals as goal

module _ (b own : List ℕ) (s : State) (i : ℕ) where
  one_more : length b ≡ set_width * state_size → T (sized state_size b) → Took b own s i → i < state_size → (f : List ℕ) → length f ≡ suc set_width
      → listed f ≡ distinct (values (lists_of b) i) → get_or f 0 0 ≤ max_values → (own' : List ℕ)
      → lists_of own' ≡ set (lists_of own) i (listed (take set_width f)) → Took b own' (set s i (get_or f 1 0)) (i + 1)
  one_more l h I g f lf ef hf own' eo = record {
    long = length-set s i (get_or f 1 0) ∙ I.long;
    lists = λ m n. at-list m n (ℕ_discrete m i);
    first_values = λ m n. at_first m n (ℕ_discrete m i);
  }
    where
      found : listed f ≡ values (sets_of b) i
      found = ef ∙ sym (values_of b i)

      at-list : (m : ℕ) → m < i + 1 → Dec (m ≡ i) → values (lists_of own') m ≡ values (sets_of b) m
      at-list m n (no d) = ap (λ (S : Sets). values S m) eo ∙ get_or-set_other (lists_of own) i m (listed (take set_width f)) (0 ∷ []) d ∙ I.lists m (omega (arith, d))
      at-list m n (yes e) =
          rw (e, eo, get_or-set_same (lists_of own) i (listed (take set_width f)) (0 ∷ []) (omega (arith, lists_length state_size own))) (listed-front f hf ∙ found)

      at_first : (m : ℕ) → m < i + 1 → Dec (m ≡ i) → get_or (set s i (get_or f 1 0)) m 0 ≡ get_or (values (sets_of b) m) 0 0
      at_first m n (no d) = get_or-set_other s i m (get_or f 1 0) 0 d ∙ I.first_values m (omega (arith, d))
      at_first m n (yes e) =
          rw (e, get_or-set_same s i (get_or f 1 0) 0 (omega (arith, I.long)))
          (sym (listed_at f set_width lf 0 (rw found ((sized-full b l h).some_in i g))) ∙ ap (λ (xs : List ℕ). get_or xs 0 0) found)

  all : Took b own s i → i ≤ state_size → state_size ≤ i → (lists_of own ≡ sets_of b) × (s ≡ heads (lists_of own))
  all I f g =
      let same : lists_of own ≡ sets_of b =
      ext_get_or (0 ∷ []) (lists_of own) (sets_of b) (lists_length state_size own ∙ sym (length-map (lists_of b) distinct ∙ lists_length state_size b))
      (λ m n. I.lists m (omega (arith, lists_length state_size own))) in (
        same,
        ext_get_or 0 s (heads (lists_of own)) (I.long ∙ sym (length-map (lists_of own) (λ xs. get_or xs 0 0) ∙ lists_length state_size own))
            (λ m n. I.first_values m (omega (arith, I.long)) ∙ ap (λ (S : Sets). get_or (values S m) 0 0) (sym same) ∙ sym (heads_at (lists_of own) m)),
      )

-- in an unmarked line values are as they are
as-they-are : (k : Kind) (xs : List ℕ) → map (meaning Unmarked k) xs ≡ xs
unfolding meaning
as-they-are k [] = refl
as-they-are k (x ∷ xs) = ap (λ (ys : List ℕ). x ∷ ys) (as-they-are k xs)

pub loop-i-init : goal.loop-i-init
loop-i-init c =
    record { long = c.told-state; lists = λ i h. absurd (omega arith); first_values = λ i h. absurd (omega arith) }

pub loop-i-preserved : goal.loop-i-preserved
loop-i-preserved c =
    let q = c.put_set in
    let v = c.distinct_at-found in
    let t = c.loop-i-test in
    let m = c.loop-i in
    let x = c.args in
    one_more x.sets.now m.own m.state m.i c.told-sets c.requires m.invariant t.true v.result (search rules) (v.ensures.0 ∙ ap distinct (as-they-are (kind m.i) (values (lists_of x.sets.now) m.i))) v.ensures.1 _ q.ensures

pub returns : goal.returns
returns c =
    let t = c.loop-i-test in
    let m = c.loop-i in
    let x = c.args in
    all x.sets.now m.own m.state m.i m.invariant m.auto.i-end t.false
