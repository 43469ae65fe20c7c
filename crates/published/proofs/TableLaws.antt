-- The table of labels: a name is found in its bucket exactly as among all labels, since names in other buckets are other names. Assumes nothing.
use Prim.Native.Nat.{ℕ, zero, suc, ◌+◌, ◌-◌, ◌*◌, ◌%◌, ◌≤◌, ◌<◌}
use mathlib.Core.Bool.{Bool, true, false, cond, not, ◌&&◌}
use mathlib.Core.Path.{◌≡◌, refl, sym, ap, ap₂, subst, ◌∙◌}
use mathlib.Core.List.{List, [], ◌∷◌}
use mathlib.Core.Option.{none, some}
use native.Mathlib.Omega.{arith}
use native.Mathlib.Numerals.{add-one}
use native.Mathlib.Nat.{mod-lt}
use lib.ListN.{length, get_or, take, drop, set, replicate, length-set, drop_of_length-le}
use lib.Seq.{get_or-set_same, get_or-set_other, drop-cons}
use lib.Dec.{ltb, eqb, ltb→lt}
use borrow.Author.Tests.{eq-eqb, eqb-true}
use Rattle.text.specs.Fields.{found}
use Rattle.model.specs.Text.{same_bytes}
use Rattle.model.proofs.TestLaws.{and_both, holds, below}
use Rattle.model.proofs.SpellingLaws.{same_bytes_lem}
use Rattle.published.specs.declared.labels.Entry.{Entry}
use Rattle.published.specs.Published.{Label, find, is_missing, is_name, max_labels, is_within}
use Rattle.std.specs.Prelude.{Option as Found, Some, None, is_some}
use Rattle.published.specs.Table.{hash_from, buckets, bucket_of, blank, label_of, entry_at, entries, last_in, Linked, Added}

-- ---- an empty table

pub zeros : (n i : ℕ) → ◌≡◌ {A = ℕ} (get_or (replicate n 0) i 0) 0
zeros zero i = refl
zeros (suc n) zero = refl
zeros (suc n) (suc i) = zeros n i

-- ---- the hash, byte by byte

pub hash_more : (name : List ℕ) (h i : ℕ) → i < length name → hash_from h (drop i name) ≡ hash_from ((9 * h + get_or name i 0) % 65536) (drop (i + 1) name)
unfolding hash_from
hash_more name h i g = rw (drop-cons name i 0 g, add-one)

pub hash_none : (name : List ℕ) (h i : ℕ) → length name ≤ i → hash_from h (drop i name) ≡ h
unfolding hash_from
hash_none name h i g = let e : drop i name ≡ [] = drop_of_length-le name g in rw e

pub bucket_is : (name last : List ℕ) (h i : ℕ) → length last ≤ i → hash_from h (drop i last) ≡ hash_from 0 (drop (length name - 8) name) → (h % buckets ≡ bucket_of name) × (h % buckets < buckets)
unfolding bucket_of
bucket_is name last h i g e = (ap (λ (k : ℕ). k % buckets) (sym (hash_none last h i g) ∙ e), mod-lt h (omega arith))

-- ---- clauses

pub entries-length : (text : List ℕ) (table : List Entry) (m : ℕ) → length (entries text table m) ≡ m
unfolding entries
entries-length text table zero = refl
entries-length text table (suc m) = ap suc (entries-length text table m)

module _ (text : List ℕ) (table : List Entry) where
  abbrev name_at : ℕ → List ℕ
  name_at k = (entry_at text table k).name

  find_suc : (name : List ℕ) (m : ℕ) → find name (entries text table (suc m)) ≡ cond (same_bytes (name_at m) name) (some (entry_at text table m).line) (find name (entries text table m))
  unfolding entries find
  find_suc name m = refl

  last_suc : (h m : ℕ) → last_in text table h (suc m) ≡ cond (eqb (bucket_of (name_at m)) h) (suc m) (last_in text table h m)
  unfolding last_in
  last_suc h m = refl

  last_zero : (h : ℕ) → last_in text table h zero ≡ 0
  unfolding last_in
  last_zero h = refl

  -- ---- the last label of a bucket

  -- it is one of the first m, and in the bucket
  pub record Last (h m k : ℕ) : Type 0 where
    pub few : k ≤ m
    pub there : 0 < k → bucket_of (name_at (k - 1)) ≡ h

  pub last_is : (h m : ℕ) → Last h m (last_in text table h m)
  last_is h zero = rw (last_zero h) (record { few = omega arith; there = λ l. absurd (omega arith) })
  last_is h (suc m) = rw (last_suc h m) (by (eqb (bucket_of (name_at m)) h) refl (last_is h m))
    where
      by : (t : Bool) → eqb (bucket_of (name_at m)) h ≡ t → Last h m (last_in text table h m) → Last h (suc m) (cond t (suc m) (last_in text table h m))
      by true e l = let z : suc m - 1 ≡ m = omega arith in record { few = omega arith; there = λ g. ap (λ (k : ℕ). bucket_of (name_at k)) z ∙ eqb-true _ h e }
      by false e l = record { few = omega (arith, l.few); there = l.there }

  other_bucket : (name : List ℕ) (m : ℕ) → eqb (bucket_of (name_at m)) (bucket_of name) ≡ false → same_bytes (name_at m) name ≡ false
  other_bucket name m e = by (same_bytes (name_at m) name) refl
    where
      by : (t : Bool) → same_bytes (name_at m) name ≡ t → t ≡ false
      by true q =
          let z : ◌≡◌ {A = Bool} true false = sym (eq-eqb (bucket_of (name_at m)) (bucket_of name) (ap bucket_of (same_bytes_lem (name_at m) name q))) ∙ e in
          z
      by false q = refl

  -- A NAME IS FOUND FROM THERE ON AS AMONG ALL
  pub find_last : (name : List ℕ) (m : ℕ) → find name (entries text table (last_in text table (bucket_of name) m)) ≡ find name (entries text table m)
  find_last name zero = ap (λ (k : ℕ). find name (entries text table k)) (last_zero (bucket_of name))
  find_last name (suc m) =
      ap (λ (k : ℕ). find name (entries text table k)) (last_suc (bucket_of name) m) ∙ by (eqb (bucket_of (name_at m)) (bucket_of name)) refl (find_last name m)
    where
      by : (t : Bool) → eqb (bucket_of (name_at m)) (bucket_of name) ≡ t → find name (entries text table (last_in text table (bucket_of name) m)) ≡ find name (entries text table m)
          → find name (entries text table (cond t (suc m) (last_in text table (bucket_of name) m))) ≡ find name (entries text table (suc m))
      by true e h = refl
      by false e h = h ∙ sym (find_suc name m ∙ rw (other_bucket name m e))

-- ---- looking a name up, from label to label

-- a name is a part of the text
pub entry_name : (text : List ℕ) (table : List Entry) (k : ℕ) → take (get_or table k blank).size (drop (get_or table k blank).start text) ≡ (entry_at text table k).name
unfolding label_of
entry_name text table k = refl

entry_line : (text : List ℕ) (table : List Entry) (k : ℕ) → (get_or table k blank).line ≡ (entry_at text table k).line
unfolding label_of
entry_line text table k = refl

-- the labels from the k-th down, as all
pub record Sought (text : List ℕ) (table : List Entry) (m : ℕ) (name : List ℕ) (k : ℕ) : Type 0 where
  pub few : k ≤ m
  pub there : 0 < k → bucket_of (entry_at text table (k - 1)).name ≡ bucket_of name
  pub same : find name (entries text table k) ≡ find name (entries text table m)

module _ (text heads : List ℕ) (table : List Entry) (m : ℕ) (name : List ℕ) (L : Linked text heads table m) where
  pub sought_first : (h : ℕ) → h ≡ bucket_of name → h < buckets → Sought text table m name (get_or heads h 0)
  sought_first h e g =
      let q : get_or heads h 0 ≡ last_in text table (bucket_of name) m = L.last h g ∙ ap (λ (j : ℕ). last_in text table j m) e in
      let w = last_is text table (bucket_of name) m in
      rw q (record { few = w.few; there = w.there; same = find_last text table name m })

  module _ (k : ℕ) (s : Sought text table m name k) (g : 0 < k) where
    step : find name (entries text table k) ≡ cond (same_bytes (entry_at text table (k - 1)).name name) (some (entry_at text table (k - 1)).line) (find name (entries text table (k - 1)))
    step = let z : k ≡ suc (k - 1) = omega arith in ap (λ (j : ℕ). find name (entries text table j)) z ∙ find_suc text table name (k - 1)

    pub sought_there : same_bytes (entry_at text table (k - 1)).name name ≡ true → some ((get_or table (k - 1) blank).line) ≡ find name (entries text table m)
    sought_there e = ap some (entry_line text table (k - 1)) ∙ sym (step ∙ rw e) ∙ s.same

    pub sought_next : same_bytes (entry_at text table (k - 1)).name name ≡ false → Sought text table m name ((get_or table (k - 1) blank).before)
    sought_next e =
        let l : k - 1 < m = omega (arith, s.few) in
        let q : (get_or table (k - 1) blank).before ≡ last_in text table (bucket_of name) (k - 1) = L.before (k - 1) l ∙ ap (λ (h : ℕ). last_in text table h (k - 1)) (s.there g) in
        let w = last_is text table (bucket_of name) (k - 1) in
        rw q (record { few = omega (arith, w.few, l); there = w.there; same = find_last text table name (k - 1) ∙ sym (step ∙ rw e) ∙ s.same })

    pub sought_less : (get_or table (k - 1) blank).before < k
    sought_less =
        let l : k - 1 < m = omega (arith, s.few) in
        omega (arith, L.before (k - 1) l, (last_is text table (bucket_of (entry_at text table (k - 1)).name) (k - 1)).few)

  pub sought_none : (k : ℕ) → Sought text table m name k → k ≤ 0 → none ≡ find name (entries text table m)
  unfolding entries find
  sought_none k s g = let z : k ≡ 0 = omega arith in ap (λ (j : ℕ). find name (entries text table j)) (sym z) ∙ s.same

-- ---- a label more

abbrev pub entry : ℕ → ℕ → ℕ → ℕ → Entry
entry a n line next = record { start = a; size = n; line = line; before = next }

module _ (t : List Entry) (m a n line next : ℕ) (h : m < length t) where
  abbrev new : List Entry
  new = set t m (entry a n line next)

  kept_below : (j : ℕ) → j < m → get_or new j blank ≡ get_or t j blank
  kept_below j g = get_or-set_other t m j (entry a n line next) blank (λ e. omega arith)

  kept : get_or new m blank ≡ entry a n line next
  kept = get_or-set_same t m (entry a n line next) blank h

  module _ (text : List ℕ) where
    entry_new : entry_at text new m ≡ record { name = take n (drop a text); line = line }
    unfolding label_of
    entry_new = rw kept

    entry_old : (j : ℕ) → j < m → entry_at text new j ≡ entry_at text t j
    entry_old j g = ap (label_of text) (kept_below j g)

    entries_old : (j : ℕ) → j ≤ m → entries text new j ≡ entries text t j
    unfolding entries
    entries_old zero g = refl
    entries_old (suc j) g = ap₂ (λ (e : Label) (es : List Label). e ∷ es) (entry_old j (omega arith)) (entries_old j (omega arith))

    last_old : (b j : ℕ) → j ≤ m → last_in text new b j ≡ last_in text t b j
    last_old b zero g = last_zero text new b ∙ sym (last_zero text t b)
    last_old b (suc j) g =
        last_suc text new b j
        ∙ ap₂ (λ (e : Label) (r : ℕ). cond (eqb (bucket_of e.name) b) (suc j) r) (entry_old j (omega arith)) (last_old b j (omega arith))
        ∙ sym (last_suc text t b j)

    entries_new : entries text new (suc m) ≡ record { name = take n (drop a text); line = line } ∷ entries text t m
    unfolding entries
    entries_new = ap₂ (λ (e : Label) (es : List Label). e ∷ es) entry_new (entries_old m (omega arith))

    last_new : (b : ℕ) → last_in text new b (suc m) ≡ cond (eqb (bucket_of (take n (drop a text))) b) (suc m) (last_in text t b m)
    last_new b = last_suc text new b m ∙ ap₂ (λ (e : Label) (r : ℕ). cond (eqb (bucket_of e.name) b) (suc m) r) entry_new (last_old b m (omega arith))

-- ---- whether a label is within the limits

module _ (labels : List Label) (name : List ℕ) where
  -- a name that no label has is found nowhere
  pub none_missing : (r : Found ℕ) (t : Bool) → is_some r ≡ not t → found r ≡ find name labels → t ≡ is_missing (find name labels)
  none_missing None true q e = ap is_missing e
  none_missing None false q e = cc
  none_missing (Some k) true q e = cc
  none_missing (Some k) false q e = ap is_missing e

  pub within_is : (t : Bool) (m : ℕ) → t ≡ is_name name && is_missing (find name labels) → length labels ≡ m → t && ltb m max_labels ≡ is_within labels name
  unfolding is_within
  within_is t m e l = ap₂ (λ (u : Bool) (k : ℕ). u && ltb k max_labels) e (sym l)

few_new : (labels : List Label) (name : List ℕ) → is_within labels name ≡ true → length labels < max_labels
unfolding is_within
few_new labels name e =
    let w = and_both (is_name name && is_missing (find name labels)) (ltb (length labels) max_labels) (holds e) in
    ltb→lt (length labels) max_labels w.1

module _ (text heads : List ℕ) (table : List Entry) (m : ℕ) (L : Linked text heads table m) (a n line : ℕ) where
  abbrev name : List ℕ
  name = take n (drop a text)

  pub not_added : is_within (entries text table m) name ≡ false → Added text table heads table m m name line
  not_added e = record { linked = L; labels = rw e; counts = rw e }

  module _ (e : is_within (entries text table m) name ≡ true) where
    pub few_more : m < max_labels
    few_more = omega (arith, few_new (entries text table m) name e, entries-length text table m)

    pub room_more : m < length table
    room_more = omega (arith, few_more, L.room)

    abbrev next : ℕ
    next = get_or heads (bucket_of name) 0

    abbrev after : List Entry
    after = set table m (entry a n line next)

    heads_new : (h : ℕ) → h < buckets → get_or (set heads (bucket_of name) (suc m)) h 0 ≡ last_in text after h (suc m)
    heads_new h g = by (eqb (bucket_of name) h) refl ∙ sym (last_new table m a n line next room_more text h)
      where
        by : (t : Bool) → eqb (bucket_of name) h ≡ t → get_or (set heads (bucket_of name) (suc m)) h 0 ≡ cond (eqb (bucket_of name) h) (suc m) (last_in text table h m)
        by true q =
            let z : bucket_of name ≡ h = eqb-true (bucket_of name) h q in
            rw (q, z) (get_or-set_same heads h (suc m) 0 (omega (arith, L.head_room)))
        by false q = rw q (get_or-set_other heads (bucket_of name) h (suc m) 0 (λ z. let y : ◌≡◌ {A = Bool} true false = sym (eq-eqb (bucket_of name) h (sym z)) ∙ q in absurd (never y)) ∙ L.last h g)
          where
            never : ◌≡◌ {A = Bool} true false → ⊥
            never y = let x : ◌≡◌ {A = ℕ} 1 0 = ap (λ (t : Bool). cond t 1 0) y in omega arith

    nexts_new : (in-range : bucket_of name < buckets) (k : ℕ) → k < suc m → (get_or after k blank).before ≡ last_in text after (bucket_of (entry_at text after k).name) k
    nexts_new in-range k g =
        below k m
        (λ l. ap (λ (x : Entry). x.before) (kept_below table m a n line next room_more k l) ∙ L.before k l
        ∙ sym (ap (λ (x : Label). last_in text after (bucket_of x.name) k) (entry_old table m a n line next room_more text k l) ∙ last_old table m a n line next room_more text _ k (omega arith)))
        (λ l. let z : k ≡ m = omega arith in
        rw z (ap (λ (x : Entry). x.before) (kept table m a n line next room_more) ∙ L.last (bucket_of name) in-range
        ∙ sym (ap (λ (x : Label). last_in text after (bucket_of x.name) m) (entry_new table m a n line next room_more text) ∙ last_old table m a n line next room_more text _ m (omega arith))))

    added_new : bucket_of name < buckets → Added text table (set heads (bucket_of name) (suc m)) after m (suc m) name line
    added_new in-range =
        record {
          linked =
              record {
                few = few_more;
                head_room = length-set heads (bucket_of name) (suc m) ∙ L.head_room;
                room = length-set table m (entry a n line next) ∙ L.room;
                last = heads_new;
                before = nexts_new in-range;
              };
          labels = entries_new table m a n line next room_more text ∙ rw e;
          counts = rw e;
        }

    pub added : (h : ℕ) → h ≡ bucket_of name → h < buckets → Added text table (set heads h (m + 1)) (set table m (entry a n line (get_or heads h 0))) m (m + 1) name line
    added h q g =
        let one : m + 1 ≡ suc m = omega arith in
        rw (q, one) (added_new (subst (λ (k : ℕ). k < buckets) q g))
