-- The loop of `explore` over the values of an open place: the place has each of them alone in turn, and its set back at the end.
-- Assumes nothing.
use mathlib.Core.Path.{◌≡◌, refl, sym, ap, ◌∙◌}
use mathlib.Core.Bool.{Bool, true, false, cond}
use mathlib.Core.List.{List, [], ◌∷◌, flat_map}
use Prim.Native.Nat.{ℕ, ◌+◌, ◌*◌, ◌≤◌, ◌<◌}
use native.Mathlib.Omega.{arith}
use borrow.Author.Tests.{eqb-true, eqb-false}
use lib.Dec.{T, eqb, ltb→lt}
use lib.ListN.{length, get_or, set, drop}
use lib.Seq.{set-get_or, set-set}
use Rattle.model.specs.declared.Line.{Line}
use Rattle.model.specs.Limits.{state_size}
use Rattle.model.specs.Places.{State}
use Rattle.sets.specs.Walk.{set_width, max_values, lists_of, values, several, heads, draw, involved}
use Rattle.choices.specs.Gathering.{Gathered, visited_all, argument_places, Settled, Opens, begun}
use Rattle.sets.proofs.Reports.{lists_length}
use Rattle.choices.proofs.SetBytes.{values_le, value_at, begun_alone, begun_again, begun-back, begun_beside}
use Rattle.sets.proofs.DrawnStates.{heads_at}
use Rattle.choices.proofs.Gathered.{one_value, no_value}
use Rattle.choices.proofs.Exploring.{heads-put, several_within, from, at_place, settled_put}

-- the count and the first value of a place, and all its values
abbrev count : List ℕ → ℕ → ℕ
count b at = get_or b (set_width * at) 0

abbrev first : List ℕ → ℕ → ℕ
first b at = get_or b (set_width * at + 1) 0

abbrev values_of : List ℕ → ℕ → List ℕ
values_of b at = values (lists_of b) at

-- of the bytes b and the state s at entry, with the place `at`, number k of the arguments, value j is next
pub record Turned (l : Line) (c : ℕ) (b : List ℕ) (s : State) (level k at : ℕ) (before : Gathered) (b' : List ℕ) (s' : State) (now : Gathered) (j : ℕ) : Type 0 where
  pub most : j ≤ length (values_of b at)
  pub back : begun b' at (count b at) (first b at) ≡ b
  pub back_state : set s' at (first b at) ≡ s
  pub left : visited_all l c now (flat_map (from (lists_of b) l k at) (drop j (values_of b at))) ≡ visited_all l c before (draw (lists_of b) (drop level (involved l)))

-- the place `at`, number k of the arguments, is open in the bytes b and the state s
pub record Opened (l : Line) (b : List ℕ) (s : State) (level k at : ℕ) : Type 0 where
  pub size : length b ≡ set_width * state_size
  pub state : s ≡ heads (lists_of b)
  pub opens : Opens (lists_of b) l level k at
  pub argument : k < argument_places

pub opened : {l : Line} {b : List ℕ} {s : State} {level k at : ℕ} → length b ≡ set_width * state_size → s ≡ heads (lists_of b) → (k < argument_places) × Opens (lists_of b) l level k at → Opened l b s level k at
opened size state o = record { size = size; state = state; opens = o.1; argument = o.0 }

module _ {l : Line} {b : List ℕ} {s : State} {level k at : ℕ} (P : Opened l b s level k at) where
  abbrev vs : List ℕ
  vs = values_of b at

  open_there : T (several vs)
  open_there = (P.opens.here P.argument).1

  pub within : at < state_size
  within = several_within (lists_of b) at (lists_length state_size b) open_there

  first-value : first b at ≡ get_or (heads (lists_of b)) at 0
  first-value =
      let z : set_width * at + 1 + 0 ≡ set_width * at + 1 = omega arith in
      ap (λ (i : ℕ). get_or b i 0) (sym z) ∙ value_at b P.size at within 0 (omega (arith, ltb→lt 1 (length vs) open_there)) ∙ sym (heads_at (lists_of b) at)

  pub turned_none : (c : ℕ) (before : Gathered) → Turned l c b s level k at before b s before 0
  turned_none c before = record {
    most = omega arith;
    back = begun-back b at;
    back_state = rw (P.state, first-value) (set-get_or (heads (lists_of b)) at 0);
    left = sym (ap (visited_all l c before) (P.opens.same ∙ at_place (lists_of b) l k P.argument ∙ rw (P.opens.here P.argument).0 refl));
  }

  module _ {c : ℕ} {before : Gathered} {b' : List ℕ} {s' : State} {now : Gathered} {j : ℕ} (I : Turned l c b s level k at before b' s' now j) where
    pub few-values : j < length vs → j < max_values
    few-values h = omega (arith, values_le b P.size at within)

    -- the value that is read
    pub read_value : j < length vs → {v : ℕ} → v ≡ cond (eqb j 0) (first b at) (get_or b' (set_width * at + 1 + j) 0) → v ≡ get_or vs j 0
    read_value h {v} e = e ∙ go (eqb j 0) refl
      where
        go : (t : Bool) → eqb j 0 ≡ t → cond t (first b at) (get_or b' (set_width * at + 1 + j) 0) ≡ get_or vs j 0
        go true q = let z = eqb-true j 0 q in rw z (first-value ∙ heads_at (lists_of b) at)
        go false q =
            sym (begun_beside b' at (count b at) (first b at) j (eqb-false j 0 q)) ∙ ap (λ (u : List ℕ). get_or u (set_width * at + 1 + j) 0) I.back ∙ value_at b P.size at within j h

    -- the place has it alone
    module _ (v : ℕ) where
      narrowed : begun b' at 1 v ≡ begun b at 1 v
      narrowed = sym (begun_again b' at (count b at) (first b at) 1 v) ∙ ap (λ (u : List ℕ). begun u at 1 v) I.back

      pub narrowed_lists : lists_of (begun b' at 1 v) ≡ set (lists_of b) at (v ∷ [])
      narrowed_lists = ap lists_of narrowed ∙ begun_alone b at v P.size within

      pub narrowed_state : set s' at v ≡ heads (lists_of (begun b' at 1 v))
      narrowed_state = sym (set-set s' at (first b at) v) ∙ ap (λ (u : State). set u at v) (I.back_state ∙ P.state) ∙ sym (ap heads narrowed_lists ∙ heads-put (lists_of b) at (v ∷ []))

      pub narrowed_settled : Settled (lists_of (begun b' at 1 v)) l (k + 1)
      narrowed_settled = rw narrowed_lists (settled_put (lists_of b) l k at v P.opens.settled P.argument (P.opens.here P.argument).0 open_there (lists_length state_size b))

      -- and the next one comes
      pub turned-next : (b'' : List ℕ) (s'' : State) (next : Gathered) → j < length vs → v ≡ get_or vs j 0 → b'' ≡ begun b' at 1 v → s'' ≡ set s' at v
          → next ≡ visited_all l c now (draw (lists_of (begun b' at 1 v)) (drop (k + 1) (involved l))) → Turned l c b s level k at before b'' s'' next (j + 1)
      turned-next b'' s'' next h e eb es' en = record {
        most = omega arith;
        back = ap (λ (u : List ℕ). begun u at (count b at) (first b at)) eb ∙ begun_again b' at 1 v (count b at) (first b at) ∙ I.back;
        back_state = ap (λ (u : State). set u at (first b at)) es' ∙ set-set s' at v (first b at) ∙ I.back_state;
        left = one_value l c (from (lists_of b) l k at) vs j now next _ h (en ∙ rw (narrowed_lists, e) refl) I.left;
      }

    pub turned_all : length vs ≤ j → now ≡ visited_all l c before (draw (lists_of b) (drop level (involved l)))
    turned_all h = no_value l c (from (lists_of b) l k at) vs j now _ h I.left
