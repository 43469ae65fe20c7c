-- The claims of request 11: the ranking is one, the set chosen in it has the least spread of all sets, and what each answer says.
-- Assumes nothing.
use mathlib.Core.Path.{◌≡◌, refl, sym, ap, ◌∙◌}
use mathlib.Core.Bool.{Bool, true, false, cond, not, ◌&&◌, ◌||◌, false≢true}
use mathlib.Core.List.{List, [], ◌∷◌}
use mathlib.Core.Logic.{inl, inr}
use Prim.Native.Nat.{ℕ, ◌+◌, ◌-◌, ◌<◌, ◌≤◌}
use native.Mathlib.Omega.{arith}
use borrow.Author.Tests.{ltb-true, ltb-false}
use lib.Dec.{ltb, le→leb, lt→ltb}
use lib.IntN.{ℤ, pos}
use lib.ListN.{length, get_or, drop, replicate}
use lib.Seq.{take_at, drop_at}
use lib.Signed.{lt_z, ◌≤ℤ◌, ◌<ℤ◌, le_z_yes, lt_z_yes}
use Rattle.model.specs.Answers.{done, counted, refused, handed_back}
use Rattle.model.proofs.OutcomeLaws.{never_done}
use Rattle.model.proofs.TestLaws.{holds}
use Rattle.codewords.specs.Codewords.{inputs_right, signal, words, spread, before, ranking, run, lowest, start, best, choose_check, set_of, choose_outcome}
use Rattle.codewords.specs.Claims.{among, Word, CodeOf, Before, Ranked, Ranking, Least, Made, TurnedDown, Choice, Choices}
use Rattle.codewords.specs.Keys.{level, key, rise}
use Rattle.codewords.proofs.Integers.{equal}
use Rattle.codewords.proofs.Lists.{Ascends, every_map, sorted-length, sorted-among, ascends_map, ascends_take, ascends_drop, ascends_distinct}
use Rattle.codewords.proofs.Lowest.{lowest_at_most, lowest_least, lowest-first}
use Rattle.codewords.proofs.Rankings.{keys_ranked, in_order, ranking-words, keys_rise, never_before_itself, by_level, run_length, run-words, rise_is, run-spread, start_is}
use Rattle.codewords.proofs.Ranges.{Given, ranges_say, outside_ranges, inputs_say}
use Rattle.codewords.proofs.Runs.{some_run}
use Rattle.codewords.proofs.Spreads.{bounds}
use Rattle.codewords.proofs.Words.{words_all, no_more}

-- ---- the order in the paper's words

before_says : (weights : List ℤ) (x y : ℕ) → before weights x y ≡ true → Before weights x y
before_says weights x y e = go (lt_z (signal weights x) (signal weights y)) (lt_z (signal weights y) (signal weights x)) refl refl e
  where
    go : (s t : Bool) → lt_z (signal weights x) (signal weights y) ≡ s → lt_z (signal weights y) (signal weights x) ≡ t → (s || (not t && ltb x y)) ≡ true → Before weights x y
    go true t p q e = inl (lt_z_yes (holds p))
    go false true p q e = absurd (false≢true e)
    go false false p q e = inr (equal (signal weights x) (signal weights y) p q, ltb-true x y e)

ranked_by : (weights : List ℤ) (l : List ℕ) → Ascends (before weights) l → Ranked weights l
ranked_by weights [] r = tt
ranked_by weights (x ∷ l) r = (every_map (λ y. before weights x y ≡ true) (Before weights x) l (λ y e. before_says weights x y e) r.0, ranked_by weights l r.1)

-- two spreads, as numbers that are not negative
pos_le : (x y : ℤ) (a b : ℕ) → x ≡ pos a → y ≡ pos b → a ≤ b → x ≤ℤ y
pos_le x y a b p q h = rw (p, q) (le_z_yes (le→leb a b h))

pos_lt : (x y : ℤ) (a b : ℕ) → x ≡ pos a → y ≡ pos b → a < b → x <ℤ y
pos_lt x y a b p q h = rw (p, q) (lt_z_yes (lt→ltb a b h))

module _ (n k : ℕ) (weights : List ℤ) (s : Given n weights) where
  abbrev ws : List ℕ
  ws = ranking n k weights

  -- ---- the ranking

  all_there : (w : ℕ) → Word n k w → among w ws ≡ true
  all_there w g = sorted-among (before weights) w (words n k) ∙ words_all n k w g

  ascending : Ascends (before weights) ws
  ascending = ascends_map (before weights) ltb (key weights) (Word n k) (in_order n k weights s) ws (ranking-words n k weights s) (keys_rise n k weights s)

  pub the_ranking : Ranking n k weights ws
  the_ranking =
      record {
        ranked = ranked_by weights ws ascending;
        all = all_there;
        only = ranking-words n k weights s;
      }

  -- ---- the chosen run

  module _ (size : ℕ) (o : 0 < size) (h : size ≤ length ws) where
    abbrev rises : ℕ → ℕ
    rises = rise size (keys_ranked n k weights s)

    abbrev first : ℕ
    first = start size weights ws

    first_is : first ≡ lowest (λ i. pos (rises i)) (length ws - size)
    first_is = start_is n k weights s size o h

    first_inside : first + size ≤ length ws
    first_inside = let a = lowest_at_most (λ i. spread weights (run size ws i)) (length ws - size) in omega arith

    the_spread : spread weights (run size ws first) ≡ pos (rises first)
    the_spread = run-spread n k weights s size o first first_inside

    in_rank : Ascends (before weights) (run size ws first)
    in_rank = ascends_take (before weights) size (drop first ws) (ascends_drop (before weights) first ws ascending)

    -- no other list of `size` distinct words lies closer: some run lies between its bounds
    no_closer : (other : List ℕ) → CodeOf n k size other → spread weights (run size ws first) ≤ℤ spread weights other
    no_closer other c =
        let e = c.count in
        let b = bounds n k weights s.right s.count s.bits other (omega arith) c.each in
        let r =
        some_run (level weights) b.lo b.hi (size - 1) ws other (by_level n k weights s) c.distinct
        (every_map (Word n k) (λ x. among x ws ≡ true) other all_there c.each) (omega arith) b.above b.under
        in
        let p = rise_is n k weights s size o r.place (omega (arith, r.inside)) in
        let q = lowest_least rises (length ws - size) r.place (omega (arith, r.inside)) in
        let g : rises first ≤ b.hi - b.lo = rw first_is (omega (arith, r.low, r.high)) in
        pos_le (spread weights (run size ws first)) (spread weights other) (rises first) (b.hi - b.lo) the_spread b.apart g

    pub the_least : Least n k size weights ws (best size weights ws)
    the_least =
        record {
          code = record {
            count = run_length n k weights s size o first first_inside;
            distinct = ascends_distinct (before weights) (Word n k) (never_before_itself n k weights s) (run size ws first) (run-words n k weights s size o first) in_rank;
            each = run-words n k weights s size o first;
          };
          ranked = ranked_by weights (run size ws first) in_rank;
          least = no_closer;
          begins = first;
          run = refl;
          lower = λ i g.
              pos_lt (spread weights (run size ws first)) (spread weights (run size ws i)) (rises first) (rises i) the_spread (run-spread n k weights s size o i (omega (arith, first_inside)))
              (rw first_is (lowest-first rises (length ws - size) i (rw first_is at g)));
        }

-- ---- what an answer says

module _ (n k size : ℕ) (weights : List ℤ) where
  abbrev whole : List ℕ
  whole = best size weights (ranking n k weights)

  turned_28 : inputs_right n k size weights ≡ false → (number line : ℕ) → refused 28 0 ≡ refused number line → (set : List ℕ) → set ≡ replicate 16 0 → TurnedDown n k size weights number line set
  turned_28 p number line z set e = record { why = inl (cc, outside_ranges n k size weights p); at_zero = cc; cleared = e }

  module _ (p : inputs_right n k size weights ≡ true) where
    turned_29 : length (words n k) < size → (number line : ℕ) → refused 29 0 ≡ refused number line → (set : List ℕ) → set ≡ replicate 16 0 → TurnedDown n k size weights number line set
    turned_29 h number line z set e =
        record { why = inr (cc, ranges_say n k size weights p, no_more n k size (inputs_say n k size weights p).some h); at_zero = cc; cleared = e }

    made_by : size ≤ length (words n k) → (vs : List ℕ) → counted size ≡ done vs → (set : List ℕ) → set ≡ set_of whole → Made n k size weights vs set
    made_by h vs z set e =
        let s = inputs_say n k size weights p in
        let l : size ≤ length (ranking n k weights) = rw (sorted-length (before weights) (words n k)) h in
        let b = the_least n k weights s.given size s.some l in
        let c = b.code.count in
        record {
          counts = cc;
          in_range = ranges_say n k size weights p;
          ranks = the_ranking n k weights s.given;
          chosen = rw (e, take_at whole (replicate (16 - length whole) 0) size c) b;
          unused = rw e (drop_at whole (replicate (16 - length whole) 0) size c ∙ ap (λ (m : ℕ). replicate (16 - m) 0) c);
        }

  chosen_by : (i l : Bool) → inputs_right n k size weights ≡ i → ltb (length (words n k)) size ≡ l → (set : List ℕ)
      → set ≡ handed_back 16 (cond (not i) (refused 28 0) (cond l (refused 29 0) (counted size))) (set_of whole)
      → Choice n k size weights (cond (not i) (refused 28 0) (cond l (refused 29 0) (counted size))) set
  chosen_by false l p q set e = record { made = λ vs z. absurd (never_done z); turned_down = λ number line z. turned_28 p number line z set e }
  chosen_by true true p q set e =
      record { made = λ vs z. absurd (never_done z); turned_down = λ number line z. turned_29 p (ltb-true (length (words n k)) size q) number line z set e }
  chosen_by true false p q set e =
      record { made = λ vs z. made_by p (ltb-false (length (words n k)) size q) vs z set e; turned_down = λ number line z. absurd (never_done (sym z)) }

pub choices : Choices
unfolding choose_outcome choose_check
choices n k size weights answer set e =
    let a = ap (λ o. o.answer) e in
    let t = ap (λ o. get_or o.stores 0 []) e in
    rw a (chosen_by n k size weights (inputs_right n k size weights) (ltb (length (words n k)) size) refl refl set t)
