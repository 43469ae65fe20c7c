-- The first pass: labels and counts of the lines so far, and what is left always gives those of the whole text. Assumes nothing.
use Prim.Native.Nat.{ℕ, zero, suc, ◌+◌, ◌-◌, ◌≤◌, ◌<◌}
use mathlib.Core.Bool.{Bool, true, false, cond, not, ◌&&◌}
use mathlib.Core.Path.{◌≡◌, refl, sym, ap, ap₂, ◌∙◌}
use mathlib.Core.List.{List}
use native.Mathlib.Omega.{arith}
use native.Mathlib.Nat.{zero-add}
use lib.ListN.{length, get_or, take, drop}
use lib.Dec.{ltb, eqb}
use borrow.Author.Tests.{eq-eqb, ne_eqb, eqb-true, lt-ltb}
use Rattle.model.specs.Text.{newline, up_to}
use Rattle.published.specs.declared.labels.Entry.{Entry}
use Rattle.published.specs.Published.{max_labels, words, TextLine, text_lines, bit, labelled, label_name, is_counted, Label, is_within, labels_after, label_wrong, Seen, none_seen, after, seen_from}
use Rattle.published.specs.Reading.{trimmed, code_of, body_of, label_size}
use Rattle.published.specs.Table.{buckets, entries, last_in, Linked, Added}
use Rattle.published.specs.Passes.{seen_in, clean_from, Named, Collected}
use Rattle.published.proofs.SeenLaws.{seen-cons, seen-nil, clean_cons, clean_nil}
use Rattle.published.proofs.PlaceLaws.{label-zero, label-full, label_long}
use Rattle.published.proofs.TextLaws.{front_of, front_at, labelled_is, name_place, code-trimmed, counted_is, lines_end, next_near}

-- ---- no labels yet

pub none_linked : (text heads : List ℕ) (table : List Entry) → ((i : ℕ) → get_or heads i 0 ≡ 0) → length heads ≡ buckets → length table ≡ max_labels → Linked text heads table 0
unfolding last_in
none_linked text heads table e h t = record { few = omega arith; head_room = h; room = t; last = λ b g. e b; before = λ k g. absurd (omega arith) }

-- ---- the label of a line

module _ (text : List ℕ) (old : List Entry) (heads : List ℕ) (table : List Entry) (m : ℕ) (n : ℕ) (start size w : ℕ) where
  abbrev code : List ℕ
  code = take size (drop start text)

  module _ (long : w ≡ label_size code) (inside : w ≤ length code) (cut : trimmed code ≡ code) where
    -- there is none
    pub none_named : w ≡ 0 → Linked text heads old m → Named text old heads old m m w (words code) n
    none_named z L =
        let q : labelled (words code) ≡ false = labelled_is code cut ∙ label-zero code w long z in
        record { linked = L; labels = rw q; wrong = rw (q, z) }

    one_more : (t : Bool) (r : ℕ) → r ≡ cond t (suc m) m → eqb r m ≡ not t
    one_more true r e = ne_eqb r m (λ z. omega arith)
    one_more false r e = eq-eqb r m e

    -- there is one
    pub some_named : (w ≡ 0 → ⊥) → (r : ℕ) → Added text old heads table m r (take (w - 1) (drop start text)) n → Named text old heads table m r w (words code) n
    some_named z r A =
        let q : labelled (words code) ≡ true = labelled_is code cut ∙ label-full code w long z in
        let name : take (w - 1) (drop start text) ≡ label_name (words code) = name_place text start size cut w (label_long code w long z) inside in
        record {
          linked = A.linked;
          labels = A.labels ∙ rw (q, name);
          wrong =
              rw (q, lt-ltb 0 w (positive w z)) (ap (λ (x : List ℕ). not (is_within (entries text old m) x)) (sym name) ∙ sym (one_more (is_within (entries text old m) (take (w - 1) (drop start text))) r A.counts));
        }
      where
        positive : (k : ℕ) → (k ≡ 0 → ⊥) → 0 < k
        positive zero h = absurd (h refl)
        positive (suc k) h = omega arith

-- ---- line after line

pub record Walked (text heads : List ℕ) (table : List Entry) (at i m n clean : ℕ) : Type 0 where
  pub linked : Linked text heads table m
  pub lines : i ≤ at
  pub low : n ≤ at
  pub near : at ≤ length text + 1
  pub left : seen_from (seen_in text table m n) (text_lines (drop at text)) ≡ seen_from none_seen (text_lines text)
  pub behind : clean ≤ i
  pub clear : cond (eqb clean i) (i + clean_from (seen_in text table m n) (text_lines (drop at text))) clean ≡ clean_from none_seen (text_lines text)

pub walked_none : (text heads : List ℕ) (table : List Entry) (m : ℕ) → m ≡ 0 → Linked text heads table m → Walked text heads table 0 0 m 0 0
unfolding entries
walked_none text heads table m z L = let M = rw z at L in rw z (record { linked = M; lines = omega arith; low = omega arith; near = omega arith; left = refl; behind = omega arith; clear = zero-add _ })

clear_more : (clean i x total : ℕ) (wrong : Bool) → clean ≤ i → cond (eqb clean i) (i + cond wrong 0 (suc x)) clean ≡ total
    → cond (eqb (cond (eqb clean i && not wrong) (i + 1) clean) (i + 1)) (i + 1 + x) (cond (eqb clean i && not wrong) (i + 1) clean) ≡ total
clear_more clean i x total wrong h e = by (eqb clean i) refl wrong e
  where
    by : (t : Bool) → eqb clean i ≡ t → (w : Bool) → cond t (i + cond w 0 (suc x)) clean ≡ total
        → cond (eqb (cond (t && not w) (i + 1) clean) (i + 1)) (i + 1 + x) (cond (t && not w) (i + 1) clean) ≡ total
    by true q true e = let z : clean ≡ i = eqb-true clean i q in rw (ne_eqb clean (i + 1) (λ y. omega arith)) (omega arith)
    by true q false e = rw (eq-eqb (i + 1) (i + 1) refl) (omega arith)
    by false q w e = rw (ne_eqb clean (i + 1) (λ y. omega arith)) e

behind_more : (clean i : ℕ) (t : Bool) → clean ≤ i → cond t (i + 1) clean ≤ i + 1
behind_more clean i true h = omega arith
behind_more clean i false h = omega arith

module _ (text heads : List ℕ) (table : List Entry) (at i m n clean : ℕ) (W : Walked text heads table at i m n clean) (h : at < length text) (code : List ℕ) (e : code ≡ code_of (drop at text)) where
  abbrev later : List TextLine
  later = text_lines (drop (at + length (up_to newline (drop at text)) + 1) text)

  pub cut : trimmed code ≡ code
  cut = ap trimmed e ∙ code-trimmed (drop at text) ∙ sym e

  bit-few : (t : Bool) → bit t ≤ 1
  bit-few true = omega arith
  bit-few false = omega arith

  pub walked_next : {new-heads : List ℕ} {new : List Entry} {r w k next c : ℕ} {b : Bool} → Named text table new-heads new m r w (words code) n → k ≡ bit (ltb 0 (length (body_of code)))
      → next ≡ at + length (up_to newline (drop at text)) + 1 → b ≡ ltb 0 w && eqb r m → c ≡ cond (eqb clean i && not b) (i + 1) clean → Walked text new-heads new next (i + 1) r (n + k) c
  unfolding after
  walked_next {new-heads} {new} {r} {w} {k} {next} {c} {b} N q p d f =
      let one = bit-few (ltb 0 (length (body_of code))) in
      let step : after (seen_in text table m n) (front_of (drop at text)) ≡ seen_in text new r (n + k) =
      ap₂ (λ (x : ℕ) (y : List Label). record { count = x; labels = y })
      (ap (λ (x : List ℕ). n + bit (is_counted (words x))) (sym e) ∙ ap (λ (t : Bool). n + bit t) (counted_is code cut) ∙ ap (λ (j : ℕ). n + j) (sym q))
      (ap (λ (x : List ℕ). labels_after (entries text table m) (words x) n) (sym e) ∙ sym N.labels) in
      let wrong-is : label_wrong (entries text table m) (front_of (drop at text)).parts ≡ b = ap (λ (x : List ℕ). label_wrong (entries text table m) (words x)) (sym e) ∙ N.wrong ∙ sym d in
      let split : clean_from (seen_in text table m n) (text_lines (drop at text)) ≡ cond b 0 (suc (clean_from (seen_in text new r (n + k)) (text_lines (drop next text)))) =
      ap (clean_from (seen_in text table m n)) (front_at text at h) ∙ clean_cons (seen_in text table m n) (front_of (drop at text)) later
      ∙ ap₂ (λ (t : Bool) (s : Seen). cond t 0 (suc (clean_from s later))) wrong-is step
      ∙ ap (λ (j : ℕ). cond b 0 (suc (clean_from (seen_in text new r (n + k)) (text_lines (drop j text))))) (sym p) in
      record {
        linked = N.linked;
        lines = omega (arith, W.lines, p);
        low = omega (arith, W.low, p);
        near = omega (arith, next_near text at h, p);
        left =
            ap₂ (λ (s : Seen) (j : ℕ). seen_from s (text_lines (drop j text))) (sym step) p
            ∙ sym (seen-cons (seen_in text table m n) (front_of (drop at text)) later)
            ∙ ap (seen_from (seen_in text table m n)) (sym (front_at text at h))
            ∙ W.left;
        behind = rw f (behind_more clean i (eqb clean i && not b) W.behind);
        clear =
            rw f (clear_more clean i (clean_from (seen_in text new r (n + k)) (text_lines (drop next text))) (clean_from none_seen (text_lines text)) b W.behind
            (ap (λ (x : ℕ). cond (eqb clean i) (i + x) clean) (sym split) ∙ W.clear));
      }

module _ (text heads : List ℕ) (table : List Entry) (at i m n clean : ℕ) (W : Walked text heads table at i m n clean) (h : length text ≤ at) where
  pub walked_all : Collected text heads table m clean
  walked_all =
      let z = lines_end text at h in
      record {
        linked = W.linked;
        count = n;
        seen = sym (seen-nil (seen_in text table m n)) ∙ ap (seen_from (seen_in text table m n)) (sym z) ∙ W.left;
        first_wrong =
            sym (same (eqb clean i) refl)
            ∙ ap (λ (x : ℕ). cond (eqb clean i) (i + x) clean) (sym (ap (clean_from (seen_in text table m n)) z ∙ clean_nil (seen_in text table m n)))
            ∙ W.clear;
      }
    where
      same : (t : Bool) → eqb clean i ≡ t → cond (eqb clean i) (i + 0) clean ≡ clean
      same true q = let y : clean ≡ i = eqb-true clean i q in rw q (omega arith)
      same false q = rw q
