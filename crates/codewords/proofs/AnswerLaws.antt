-- The answers of `choose`: what the code ranked, found and wrote down is what the definition says.
-- Assumes nothing.
use mathlib.Core.Path.{◌≡◌, refl, sym, ap, ◌∙◌}
use mathlib.Core.Bool.{true, false}
use mathlib.Core.List.{List, [], ◌∷◌, map}
use Prim.Native.Nat.{ℕ, ◌-◌, ◌^◌, ◌<◌, ◌≤◌}
use native.Mathlib.Nat.{zero-add}
use native.Mathlib.Omega.{arith}
use borrow.Author.Tests.{lt-ltb, le-ltb}
use lib.Dec.{ltb}
use lib.IntN.{ℤ, pos}
use lib.ListN.{length, take, drop, replicate, length-map}
use lib.Seq.{get_or-take, length-take-le}
use Rattle.model.specs.Answers.{counted, refused, outcome}
use Rattle.codewords.specs.Codewords.{inputs_right, words, words_from, before, sorted, ranking, run, lowest, start, best, choose_check, set_of, choose_outcome}
use Rattle.codewords.specs.Claims.{Every, Distinct, Word}
use Rattle.codewords.specs.Keys.{key, word_of, Keyed, with_ones, rise}
use Rattle.codewords.proofs.Lists.{every_map, every_take, every_drop, sorted-length}
use Rattle.codewords.proofs.Ranges.{Given, Inputs, inputs_say}
use Rattle.codewords.proofs.Rankings.{a_byte, ranking-words, keys_sorted, keys_distinct, map-take, map-drop, start_is}
use Rattle.codewords.proofs.Signals.{key_word}
use Rattle.codewords.proofs.Words.{at_most_seventy, from_keys}

-- ---- what `rank_words` ranks: of the keys of all words those with so many ones, m of them

pub record Kept (n k : ℕ) (weights : List ℤ) (m : ℕ) (kept : List ℕ) : Type 0 where
  pub long : length (take m kept) ≡ m
  pub few : m ≤ 70
  pub distinct : Distinct (take m kept)
  pub ranked : (into : List ℕ) → take (length (take m kept)) into ≡ sorted ltb (take m kept)
      → (m ≡ length (ranking n k weights)) × (take m into ≡ map (key weights) (ranking n k weights))

module _ (n k : ℕ) (weights : List ℤ) (s : Given n weights) where
  pub count_ranked : length (ranking n k weights) ≡ length (words n k)
  count_ranked = sorted-length (before weights) (words n k)

  module _ (keys : List ℕ) (all : ℕ) (e : all ≡ 2 ^ n) (h : all ≤ length keys) (d : Keyed weights (2 ^ length weights) keys) where
    kept_keys : with_ones k (take all keys) ≡ map (key weights) (words n k)
    kept_keys =
        let l = length-take-le all keys h in
        let q = s.count in
        from_keys n k weights s.right s.count s.bits 0 (take all keys)
        (λ j g. get_or-take all keys j 0 (omega arith) ∙ d j (rw q (omega arith)) ∙ ap (key weights) (sym (zero-add j))) (omega arith)
        ∙ ap (λ (m : ℕ). map (key weights) (words_from k 0 m)) (l ∙ e)

    kept-count : length (with_ones k (take all keys)) ≡ length (words n k)
    kept-count = ap length kept_keys ∙ length-map (words n k) (key weights)

    kept-few : length (with_ones k (take all keys)) ≤ 70
    kept-few = omega (arith, kept-count, at_most_seventy n k s.bits)

    pub kept_all : (m : ℕ) (kept : List ℕ) → (m ≡ length (with_ones k (take all keys))) × (take m kept ≡ with_ones k (take all keys)) → Kept n k weights m kept
    kept_all m kept c =
        let l : length (take m kept) ≡ m = ap length c.1 ∙ sym c.0 in
        record {
          long = l;
          few = omega (arith, kept-few);
          distinct = rw (c.1, kept_keys) (keys_distinct n k weights s);
          ranked = λ into r. (
            c.0 ∙ kept-count ∙ sym count_ranked,
            ap (λ (j : ℕ). take j into) (sym l) ∙ r ∙ ap (sorted ltb) (c.1 ∙ kept_keys) ∙ sym (keys_sorted n k weights s),
          );
        }

-- ---- the answers

words_of : (weights : List ℤ) (l : List ℕ) → Every (λ w. w < 256) l → map word_of (map (key weights) l) ≡ l
words_of weights [] e = refl
words_of weights (w ∷ l) e = rw (key_word weights w e.0, words_of weights l e.1)

-- what is known of m keys that are those of the ranking
pub record Ranks (n k size : ℕ) (weights : List ℤ) (m : ℕ) (ranked : List ℕ) : Type 0 where
  pub some : 0 < size
  pub fits : size ≤ 16
  pub long : length ranked ≡ m
  pub few : m ≤ 70
  pub too_few : m < size → outcome (refused 29 0) (replicate 16 0 ∷ []) ≡ choose_outcome n k size weights
  pub enough : size ≤ m → (at : ℕ) → at ≡ lowest (λ i. pos (rise size ranked i)) (length ranked - size) → (set : List ℕ) → set ≡ set_of (map word_of (take size (drop at ranked)))
      → outcome (counted size) (set ∷ []) ≡ choose_outcome n k size weights

module _ (n k size : ℕ) (weights : List ℤ) where
  pub not_right : inputs_right n k size weights ≡ false → outcome (refused 28 0) (replicate 16 0 ∷ []) ≡ choose_outcome n k size weights
  unfolding choose_outcome choose_check
  not_right e = rw e

  module _ (e : inputs_right n k size weights ≡ true) (m : ℕ) (c : m ≡ length (ranking n k weights)) where
    inputs : Inputs n size weights
    inputs = inputs_say n k size weights e

    count_is : m ≡ length (words n k)
    count_is = c ∙ count_ranked n k weights inputs.given

    too_few : m < size → outcome (refused 29 0) (replicate 16 0 ∷ []) ≡ choose_outcome n k size weights
    unfolding choose_outcome choose_check
    too_few h = rw (e, lt-ltb (length (words n k)) size (omega (arith, count_is)))

    module _ (h : size ≤ m) (ranked : List ℕ) (q : ranked ≡ map (key weights) (ranking n k weights)) (at : ℕ) (a : at ≡ lowest (λ i. pos (rise size ranked i)) (length ranked - size)) where
      at_start : at ≡ start size weights (ranking n k weights)
      at_start =
          a ∙ rw q (ap (λ (j : ℕ). lowest (λ i. pos (rise size (map (key weights) (ranking n k weights)) i)) (j - size)) (length-map (ranking n k weights) (key weights)))
          ∙ sym (start_is n k weights inputs.given size inputs.some (omega arith))

      enough : (set : List ℕ) → set ≡ set_of (map word_of (take size (drop at ranked))) → outcome (counted size) (set ∷ []) ≡ choose_outcome n k size weights
      unfolding choose_outcome choose_check
      enough set z = rw (e, le-ltb (length (words n k)) size (omega (arith, count_is))) (ap (λ (l : List ℕ). outcome (counted size) (l ∷ [])) (z ∙ ap set_of the_words))
        where
          bytes : Every (λ w. w < 256) (ranking n k weights)
          bytes = every_map (Word n k) (λ w. w < 256) (ranking n k weights) (a_byte n k weights inputs.given) (ranking-words n k weights inputs.given)

          the_words : map word_of (take size (drop at ranked)) ≡ best size weights (ranking n k weights)
          the_words =
              rw (q, map-drop (key weights) at (ranking n k weights), map-take (key weights) size (drop at (ranking n k weights)))
              (words_of weights (run size (ranking n k weights) at) (every_take (λ w. w < 256) size (drop at (ranking n k weights)) (every_drop (λ w. w < 256) at (ranking n k weights) bytes))
              ∙ ap (run size (ranking n k weights)) at_start)

  pub ranks : inputs_right n k size weights ≡ true → (m : ℕ) (keys : List ℕ) → (m ≡ length (ranking n k weights)) × (take m keys ≡ map (key weights) (ranking n k weights))
      → Ranks n k size weights m (take m keys)
  ranks e m keys c =
      let i = inputs_say n k size weights e in
      record {
        some = i.some;
        fits = i.fits;
        long = ap length c.1 ∙ length-map (ranking n k weights) (key weights) ∙ sym c.0;
        few = omega (arith, count_is e m c.0, at_most_seventy n k i.given.bits);
        too_few = too_few e m c.0;
        enough = λ h at a set z. enough e m c.0 h (take m keys) c.1 at a set z;
      }
