-- The table of labels as the code keeps it: an entry for each label, and the labels of a bucket linked, the last one first. Assumes nothing.
use Rattle.std.specs.Prelude.{◌≡◌, cond, List, [], ◌∷◌, ℕ, zero, suc, ◌+◌, ◌-◌, ◌*◌, ◌%◌, ◌≤◌, ◌<◌, eqb, length, get_or, take, drop}
use Rattle.published.specs.declared.labels.Entry.{Entry}
use Rattle.published.specs.Published.{Label, max_labels, is_within}

-- a number of a name's last eight bytes, and the bucket of the names that share it
unfoldable pub hash_from : ℕ → List ℕ → ℕ
hash_from h [] = h
hash_from h (b ∷ s) = hash_from ((9 * h + b) % 65536) s

abbrev pub buckets : ℕ
buckets = 1024

unfoldable pub bucket_of : List ℕ → ℕ
bucket_of name = hash_from 0 (drop (length name - 8) name) % buckets

-- what stands in the table where no label is kept
abbrev pub blank : Entry
blank = record { start = 0; size = 0; line = 0; before = 0 }

unfoldable pub label_of : List ℕ → Entry → Label
label_of text e = record { name = take e.size (drop e.start text); line = e.line }

abbrev pub entry_at : List ℕ → List Entry → ℕ → Label
entry_at text table k = label_of text (get_or table k blank)

-- the first m labels, the last of them first
unfoldable pub entries : List ℕ → List Entry → ℕ → List Label
entries text table zero = []
entries text table (suc m) = entry_at text table m ∷ entries text table m

-- the last of the first m labels that is in a bucket, counted from 1; 0 for none
unfoldable pub last_in : List ℕ → List Entry → ℕ → ℕ → ℕ
last_in text table h zero = 0
last_in text table h (suc m) = cond (eqb (bucket_of (entry_at text table m).name) h) (suc m) (last_in text table h m)

-- m labels are kept, and linked
pub record Linked (text heads : List ℕ) (table : List Entry) (m : ℕ) : Type 0 where
  pub few : m ≤ max_labels
  pub head_room : length heads ≡ buckets
  pub room : length table ≡ max_labels
  pub last : (h : ℕ) → h < buckets → get_or heads h 0 ≡ last_in text table h m
  pub before : (k : ℕ) → k < m → (get_or table k blank).before ≡ last_in text table (bucket_of (entry_at text table k).name) k

-- the table after a label, where it is within the limits
pub record Added (text : List ℕ) (old : List Entry) (heads : List ℕ) (table : List Entry) (m r : ℕ) (name : List ℕ) (line : ℕ) : Type 0 where
  pub linked : Linked text heads table r
  pub labels : entries text table r ≡ cond (is_within (entries text old m) name) (record { name = name; line = line } ∷ entries text old m) (entries text old m)
  pub counts : r ≡ cond (is_within (entries text old m) name) (suc m) m

-- no label names a line above n
abbrev pub Low : ℕ → List Label → Type 0
Low n [] = Unit {0}
Low n (e ∷ es) = (e.line ≤ n) × Low n es
