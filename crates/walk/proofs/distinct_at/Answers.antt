-- `walk::distinct_at` meets its contract. The loop's invariant: what the values from j on mean, put behind what was noted, is all.
-- Assumes nothing.
use mathlib.Core.Path.{◌≡◌, refl, sym, ap, ◌∙◌}
use mathlib.Core.List.{List, [], ◌∷◌, map}
use Prim.Native.Nat.{ℕ, zero, suc, ◌+◌, ◌*◌, ◌≤◌, ◌<◌}
use native.Mathlib.Omega.{arith}
use lib.ListN.{length, get_or, drop, length-map}
use Rattle.model.specs.Limits.{state_size}
use Rattle.model.specs.Places.{kind}
use Rattle.model.specs.Step.{meaning}
use Rattle.model.proofs.TestLaws.{below}
use Rattle.sets.specs.Walk.{set_width, max_values, listed, lists_of, values, insert_all, insert, distinct}
use Rattle.choices.proofs.SetBytes.{listed-few, values-past, values_le}
use Rattle.choices.proofs.Gathered.{insert_grows}
use Rattle.choices.proofs.Turns.{put-over, put_next}
use borrow.Author.Rules.{rules}
use Rattle.walk.proofs.Gathers.{Noted, meant}
use Rattle.walk.proofs.distinct_at.Goals as goal

map_at : (f : ℕ → ℕ) (xs : List ℕ) (j : ℕ) → j < length xs → get_or (map f xs) j 0 ≡ f (get_or xs j 0)
map_at f [] j h = absurd (omega arith)
map_at f (x ∷ xs) zero h = refl
map_at f (x ∷ xs) (suc j) h = map_at f xs j (omega arith)

module _ (f : ℕ → ℕ) (b : List ℕ) (i : ℕ) (l : length b ≡ set_width * state_size) where
  abbrev vs : List ℕ
  vs = meant f b i

  meant-length : length vs ≡ length (values (lists_of b) i)
  meant-length = length-map (values (lists_of b) i) f

  at_most : length vs ≤ max_values
  at_most = below i state_size (λ h. omega (arith, meant-length, values_le b l i h)) (λ h. omega (arith, meant-length, ap length (values-past b i h)))

  one_more : {n : ℕ} (u u' : List ℕ) (j : ℕ) → n ≡ length (values (lists_of b) i) → Noted vs u j → j < n → length u' ≡ suc set_width → {x y : ℕ} → x ≡ get_or (values (lists_of b) i) j 0 → y ≡ f x
      → (listed u' ≡ insert (listed u) y) × (get_or u' 0 0 ≤ set_width) → Noted vs u' (j + 1)
  one_more u u' j en I h l' {x} {y} ex ey e =
      let at : y ≡ get_or vs j 0 = ey ∙ ap f ex ∙ sym (map_at f (values (lists_of b) i) j (omega arith)) in
      record {
        long = l';
        count = e.1;
        few_noted = omega (arith, ap length e.0, (insert_grows (listed u) y).1, I.few_noted);
        same = ap (λ (xs : List ℕ). insert_all xs (drop (j + 1) vs)) (e.0 ∙ ap (insert (listed u)) at) ∙ sym (put_next vs j (listed u) (omega (arith, meant-length))) ∙ I.same;
      }

  whole : {n : ℕ} (u : List ℕ) (j : ℕ) → n ≡ length (values (lists_of b) i) → Noted vs u j → j ≤ n → n ≤ j → (listed u ≡ distinct vs) × (get_or u 0 0 ≤ max_values)
  whole u j en I g h = (
    sym (put-over vs j (listed u) (omega (arith, meant-length))) ∙ I.same,
    omega (arith, listed-few u set_width I.long I.count, I.few_noted, meant-length, at_most),
  )

pub loop-j-init : goal.loop-j-init
loop-j-init c = record { long = search rules; count = omega arith; few_noted = omega arith; same = refl }

pub note-requires : goal.note-requires
note-requires c =
    let I = c.loop-j.invariant in
    let most = at_most (meaning c.args.mark (kind c.args.i)) c.args.sets.now c.args.i c.told-sets in
    let same = meant-length (meaning c.args.mark (kind c.args.i)) c.args.sets.now c.args.i c.told-sets in
    omega (arith, listed-few c.loop-j.found set_width I.long I.count, I.few_noted, c.size_of-j-end.ensures, same, most, c.loop-j-test.true)

pub loop-j-preserved : goal.loop-j-preserved
loop-j-preserved c = one_more (meaning c.args.mark (kind c.args.i)) c.args.sets.now c.args.i c.told-sets _ _ _ c.size_of-j-end.ensures c.loop-j.invariant c.loop-j-test.true (search rules) c.value_of.ensures c.argument.ensures c.note.ensures

pub returns : goal.returns
returns c = whole (meaning c.args.mark (kind c.args.i)) c.args.sets.now c.args.i c.told-sets _ _ c.size_of-j-end.ensures c.loop-j.invariant c.loop-j.auto.j-end c.loop-j-test.false
