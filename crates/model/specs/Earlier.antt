-- Request 04, 'neighbours at position 0, as the two programs print, give the earlier bytes': the code, the table page, the images and the
-- macros as they stood before a layout could be chosen, in their numbers, and the claim. The line that request 07 changes in the table macro
-- of every layout, and the one that it adds, stand in this one too. Assumes nothing.
use Rattle.std.specs.Prelude.{◌≡◌, Bool, true, false, cond, ◌||◌, ℕ, zero, suc, ◌-◌, eqb, ltb, get_or, replicate}
use mathlib.Core.List.{List, [], ◌∷◌, ◌++◌, flat_map}
use Rattle.model.specs.declared.Opcode.TheVariants.{And, Orr, Xor, Lsl}
use Rattle.model.specs.declared.Operand.{Operand}
use Rattle.model.specs.declared.Operand.TheVariants.{Empty, Literal, Register, Cell, PublicCell, SensitiveCell, TableCell}
use Rattle.model.specs.declared.Line.{Line}
use Rattle.model.specs.Limits.{state_size}
use Rattle.model.specs.Answers.{unless_refused}
use Rattle.model.specs.Places.{State, kind, kind_of, is_public}
use Rattle.model.specs.Stored.{lines}
use Rattle.model.specs.Text.{spell_line}
use Rattle.model.specs.Run.{run}
use Rattle.model.specs.Layouts.{layout_of}
use Rattle.model.specs.Images.{by_kind, map_at, image, back, bit_right, carried, to_image_outcome, from_image_outcome}
use Rattle.model.specs.Marks.{mark_check}
use Rattle.model.specs.Expansion.{marked_line, move, expand, written, expand_outcome}
use Rattle.model.specs.Programs.{trace_budget, printed, trace_text, expand_prints, trace_prints}
use Rattle.model.specs.Before.{Macros, macro_by, expand_by}

-- ---- the code and the table page

abbrev pub code_earlier : ℕ → ℕ
code_earlier zero = 2
code_earlier (suc n) = 1

-- the tables of and, orr and xor, and cells 496 and 497 (request 03)
abbrev pub page_earlier : List ℕ
page_earlier =
    (0 ∷ 0 ∷ 0 ∷ 0 ∷ 0 ∷ 1 ∷ 2 ∷ 0 ∷ 0 ∷ 2 ∷ 2 ∷ 0 ∷ 0 ∷ 0 ∷ 0 ∷ 0 ∷ [])
    ++ ((0 ∷ 0 ∷ 0 ∷ 0 ∷ 0 ∷ 1 ∷ 1 ∷ 0 ∷ 0 ∷ 1 ∷ 2 ∷ 0 ∷ 0 ∷ 0 ∷ 0 ∷ 0 ∷ [])
    ++ ((0 ∷ 0 ∷ 0 ∷ 0 ∷ 0 ∷ 2 ∷ 1 ∷ 0 ∷ 0 ∷ 1 ∷ 2 ∷ 0 ∷ 0 ∷ 0 ∷ 0 ∷ 0 ∷ [])
    ++ (replicate 192 0 ++ (2 ∷ 1 ∷ replicate 14 0))))

-- ---- images and the way back

unfoldable pub fixed_earlier : ℕ → ℕ
fixed_earlier i = cond (ltb i 4) 0 (get_or page_earlier (i - 288) 0)

unfoldable pub image_earlier : ℕ → ℕ → ℕ
unfolding kind fixed_earlier
image_earlier i x = by_kind (kind i) (fixed_earlier i) x (code_earlier x)

unfoldable pub back_earlier : ℕ → ℕ → ℕ
unfolding kind
back_earlier i x = by_kind (kind i) 0 x (cond (eqb x 1) 1 0)

unfoldable pub right_earlier : ℕ → ℕ → Bool
unfolding kind fixed_earlier
right_earlier i x = by_kind (kind i) (cond (ltb i 4) (cond (eqb i 0) (eqb x 0) true) (eqb x (fixed_earlier i))) true (eqb x 1 || eqb x 2)

-- ---- the macros

-- a literal of a marked line
unfoldable pub coded_earlier : Operand → Operand
coded_earlier Empty = Empty
coded_earlier (Literal n) = Literal (code_earlier n)
coded_earlier (Register n) = Register n
coded_earlier (Cell n) = Cell n
coded_earlier (PublicCell r k) = PublicCell r k
coded_earlier (SensitiveCell r k) = SensitiveCell r k
coded_earlier (TableCell r k) = TableCell r k

-- a load has two lines, or four with a public bit (request 03)
unfoldable pub bit_earlier : Bool → ℕ → List Line
bit_earlier false n = []
bit_earlier true n = marked_line And (Register n) (Register n) (Literal 1) ∷ move (Register n) (TableCell n 240) ∷ []

unfoldable pub load_earlier : ℕ → Operand → List Line
unfolding bit_earlier kind_of
load_earlier n a = move (Register n) (Register 0) ∷ move (Register n) a ∷ bit_earlier (is_public (kind_of a)) n

-- and, orr, xor, r3's precharge and the line after the lookup as request 07 has them
unfoldable pub lookup_earlier : ℕ → Operand → Operand → Operand → List Line
unfolding load_earlier
lookup_earlier t d a b =
    load_earlier 1 a
    ++ (marked_line And (Register 1) (Register 1) (Literal 3)
    ∷ marked_line Lsl (Register 1) (Register 1) (Literal 1)
    ∷ marked_line Lsl (Register 1) (Register 1) (Literal 1)
    ∷ load_earlier 2 b
    ++ (marked_line And (Register 2) (Register 2) (Literal 3)
    ∷ marked_line Orr (Register 1) (Register 1) (Register 2)
    ∷ move (Register 3) (TableCell 0 t)
    ∷ move (Register 3) (TableCell 1 t)
    ∷ move (Register 2) (TableCell 0 t)
    ∷ move d (Register 0)
    ∷ move d (Register 3)
    ∷ []))

-- not
unfoldable pub negate_earlier : Operand → Operand → List Line
unfolding load_earlier
negate_earlier d a =
    load_earlier 1 a
    ++ (marked_line Xor (Register 1) (Register 1) (Literal 3)
    ∷ move d (Register 0)
    ∷ move d (Register 1)
    ∷ [])

-- mov
unfoldable pub copy_earlier : Operand → Operand → List Line
unfolding load_earlier
copy_earlier d a = load_earlier 3 a ++ (move d (Register 0) ∷ move d (Register 3) ∷ [])

abbrev pub macro_earlier : Macros
macro_earlier op d a b = macro_by lookup_earlier negate_earlier copy_earlier op d a b

abbrev pub expand_earlier : List Line → List Line
expand_earlier p = expand_by macro_earlier coded_earlier p

-- ---- the claim

-- the expansion, the images and the way back of every program and state; what the three entry points answer and leave; what the two programs
-- print of every input
pub record EarlierBytes : Type 0 where
  pub expands : (p : List Line) → expand (layout_of 0 0) p ≡ expand_earlier p
  pub images : (s : State) → image (layout_of 0 0) s ≡ map_at image_earlier 0 s
  pub backs : (v : State) → back (layout_of 0 0) v ≡ map_at back_earlier 0 v
  pub expanding : (p out : List ℕ) → expand_outcome 0 0 p out ≡ unless_refused (mark_check p) (out ∷ []) (written (expand_earlier (lines p)) out)
  pub imaging : (bits image' : State) → to_image_outcome 0 0 bits image' ≡ carried bit_right (map_at image_earlier 0) bits image'
  pub coming_back : (image' bits : State) → from_image_outcome 0 0 image' bits ≡ carried right_earlier (map_at back_earlier 0) image' bits
  pub expansion_printed : (input : List ℕ) → expand_prints input ≡ printed (λ p. flat_map spell_line (expand_earlier p)) input
  pub trace_printed : (input : List ℕ)
      → trace_prints input ≡ printed (λ p. trace_text (expand_earlier p) (run (expand_earlier p) trace_budget 0 (map_at image_earlier 0 (replicate state_size 0)))) input
