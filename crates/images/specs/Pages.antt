-- The table page of an image, as it is made: the constant tables are those of position 0, and each entry of them is scaled and placed by the
-- layout. Assumes nothing.
use Rattle.std.specs.Prelude.{◌≡◌, Bool, cond, List, ℕ, zero, suc, ◌+◌, ◌*◌, eqb, get_or, replicate, set}
use Rattle.model.specs.declared.Layout.{Layout}
use Rattle.model.specs.declared.Opcode.{Opcode}
use Rattle.model.specs.declared.Opcode.TheVariants.{And, Orr, Xor}
use Rattle.images.specs.declared.Tables.{Tables}
use Rattle.model.specs.Layouts.{layout_of}
use Rattle.model.specs.Code.{entry, page}
use Rattle.model.specs.Images.{map_at}

-- the 16 entries of a table at position 0, by the rule of the entries
unfoldable pub entries : Bool → Opcode → List ℕ
unfolding map_at entry
entries spaced op = map_at (λ i x. entry (layout_of 0 (cond spaced 1 0)) op i) 0 (replicate 16 0)

-- those of that spacing
pub record IsTables (spaced : Bool) (t : Tables) : Type 0 where
  pub and : t.and ≡ entries spaced And
  pub orr : t.orr ≡ entries spaced Orr
  pub xor : t.xor ≡ entries spaced Xor

-- an entry of each of the three tables written, times the code of 1, that of the first to a place and the others where their tables are; nothing
-- where that of the first is 0
unfoldable pub entered : Layout → ℕ → ℕ → ℕ → ℕ → List ℕ → List ℕ
entered L and orr xor at l = cond (eqb and 0) l (set (set (set l at (L.one * and)) (at + L.orr) (L.one * orr)) (at + L.xor) (L.one * xor))

-- the first k entries of the three tables copied to a page, each to its place in the layout
unfoldable pub copied : Layout → List ℕ → List ℕ → List ℕ → List ℕ → ℕ → List ℕ
unfolding entered
copied L and orr xor l zero = l
copied L and orr xor l (suc k) = entered L (get_or and k 0) (get_or orr k 0) (get_or xor k 0) (L.one * k) (copied L and orr xor l k)

-- and the two codes
unfoldable pub paged : Layout → List ℕ → List ℕ
unfolding entries copied
paged L l = set (set (copied L (entries L.spaced And) (entries L.spaced Orr) (entries L.spaced Xor) l 16) 240 L.zero) 241 L.one

-- the bytes of the table page
unfoldable pub page_bytes : Layout → List ℕ
unfolding map_at page
page_bytes L = map_at (λ i x. page L i) 0 (replicate 256 0)
