-- Request 04: neighbours at position 0 give the earlier bytes. The layout that 0 and 0 name computes to the numbers of document 01; its macros
-- are the earlier ones by their lines, its page the earlier one by a test of all cells. Assumes nothing.
use mathlib.Core.Path.{◌≡◌, refl, sym, ap, ap₂, ◌∙◌}
use mathlib.Core.Bool.{Bool, true, false, cond}
use mathlib.Core.List.{List, [], ◌∷◌, flat_map}
use Prim.Native.Nat.{ℕ, zero, suc, ◌-◌, ◌≤◌}
use native.Mathlib.Omega.{arith}
use borrow.Author.Tests.{le-ltb, ne_eqb}
use lib.Dec.{T, eqb, ltb, eqb→eq}
use lib.ListN.{length, get_or, replicate}
use Rattle.model.specs.declared.Opcode.{Opcode}
use Rattle.model.specs.declared.Opcode.TheVariants.{Nop, Jmp, Not, Mov, And, Orr, Xor, Lsl, Lsr, Add, Mul, Beq, Bne}
use Rattle.model.specs.declared.Operand.{Operand}
use Rattle.model.specs.declared.Operand.TheVariants.{Empty, Literal, Register, Cell, PublicCell, SensitiveCell, TableCell}
use Rattle.model.specs.declared.Line.{Line}
use Rattle.model.specs.Limits.{state_size, max_lines}
use Rattle.model.specs.Answers.{unless_refused}
use Rattle.model.specs.Places.{State, kind_of, is_public}
use Rattle.model.specs.Lines.{Every}
use Rattle.model.specs.Stored.{lines}
use Rattle.model.specs.Step.{alu}
use Rattle.model.specs.Layouts.{layout_of, neighbours}
use Rattle.model.specs.Code.{code, entry, page}
use Rattle.model.specs.Images.{map_at, fixed, image_at, image, back_at, back, bit_right, fixed_right, image_right, every, carried}
use Rattle.model.specs.Marks.{mark_check}
use Rattle.model.specs.Expansion.{coded, move, code_bit, load, shifts, scale, combine, fetch, flip, write_back, lookup, negate, copy, macro, expand, written, expansion_in, expand_outcome}
use Rattle.model.specs.Programs.{input_size, trace_budget, refusal_text, or_refusal, trace_text, printed, expand_prints, trace_prints}
use Rattle.model.specs.Run.{run}
use Rattle.model.specs.Text.{spell_line, reading}
use Rattle.model.specs.Before.{macro_by}
use Rattle.model.specs.Earlier.{code_earlier, coded_earlier, bit_earlier, load_earlier, page_earlier, fixed_earlier, image_earlier, back_earlier, right_earlier, lookup_earlier, negate_earlier, copy_earlier, macro_earlier, expand_earlier, EarlierBytes}
use Rattle.model.proofs.TestLaws.{below, all_below, all_below_lem}
use Rattle.model.proofs.ByMacros.{expand_by_lem}

-- ---- expansions

load_earlier_lem : (n : ℕ) (a : Operand) → load n a ≡ load_earlier n a
unfolding load load_earlier
load_earlier_lem n a = ap (λ (ls : List Line). move (Register n) (Register 0) ∷ move (Register n) a ∷ ls) (go (is_public (kind_of a)))
  where
    go : (b : Bool) → code_bit b n ≡ bit_earlier b n
    go true = refl
    go false = refl

macro_earlier_lem : (op : Opcode) (d a b : Operand) → macro neighbours op d a b ≡ macro_earlier op d a b
unfolding macro macro_by lookup negate copy shifts scale combine fetch flip write_back lookup_earlier negate_earlier copy_earlier
macro_earlier_lem Nop d a b = refl
macro_earlier_lem Jmp d a b = refl
macro_earlier_lem Not d a b = rw (load_earlier_lem 1 a)
macro_earlier_lem Mov d a b = rw (load_earlier_lem 3 a)
macro_earlier_lem And d a b = rw (load_earlier_lem 1 a, load_earlier_lem 2 b)
macro_earlier_lem Orr d a b = rw (load_earlier_lem 1 a, load_earlier_lem 2 b)
macro_earlier_lem Xor d a b = rw (load_earlier_lem 1 a, load_earlier_lem 2 b)
macro_earlier_lem Lsl d a b = refl
macro_earlier_lem Lsr d a b = refl
macro_earlier_lem Add d a b = refl
macro_earlier_lem Mul d a b = refl
macro_earlier_lem Beq d a b = refl
macro_earlier_lem Bne d a b = refl

code_earlier_lem : (n : ℕ) → code neighbours n ≡ code_earlier n
unfolding code
code_earlier_lem zero = refl
code_earlier_lem (suc n) = refl

coded_earlier_lem : (a : Operand) → coded neighbours a ≡ coded_earlier a
unfolding coded coded_earlier
coded_earlier_lem Empty = refl
coded_earlier_lem (Literal n) = ap Literal (code_earlier_lem n)
coded_earlier_lem (Register n) = refl
coded_earlier_lem (Cell n) = refl
coded_earlier_lem (PublicCell r k) = refl
coded_earlier_lem (SensitiveCell r k) = refl
coded_earlier_lem (TableCell r k) = refl

every_line : (p : List Line) → Every (λ l. Unit {0}) p
every_line [] = tt
every_line (l ∷ p) = (tt, every_line p)

expand_earlier_lem : (p : List Line) → expand (layout_of 0 0) p ≡ expand_earlier p
expand_earlier_lem p =
    expand_by_lem macro_earlier coded_earlier (λ l. Unit {0})
    (λ op d a b t h. macro_earlier_lem op d (coded neighbours a) (coded neighbours b) ∙ ap₂ (macro_earlier op d) (coded_earlier_lem a) (coded_earlier_lem b)) p (every_line p)

-- ---- the page

same_cells : ℕ → Bool
same_cells i = eqb (page neighbours i) (get_or page_earlier i 0)

cells-tested : T (all_below same_cells 256)
unfolding all_below same_cells page entry code alu
cells-tested = tt

get_d_past : (l : List ℕ) (i : ℕ) → length l ≤ i → get_or l i 0 ≡ 0
get_d_past [] i h = refl
get_d_past (x ∷ l) zero h = absurd (omega arith)
get_d_past (x ∷ l) (suc i) h = get_d_past l i (omega arith)

page-past : (i : ℕ) → 256 ≤ i → page neighbours i ≡ get_or page_earlier i 0
unfolding page
page-past i h =
    rw (le-ltb i 16 (omega arith), le-ltb i 32 (omega arith), le-ltb i 48 (omega arith), ne_eqb i 240 (λ e. omega arith), ne_eqb i 241 (λ e. omega arith))
    (sym (get_d_past page_earlier i h))

page_earlier_lem : (i : ℕ) → page neighbours i ≡ get_or page_earlier i 0
unfolding same_cells
page_earlier_lem i = below i 256 (λ h. eqb→eq _ _ (all_below_lem same_cells 256 i cells-tested h)) (page-past i)

-- ---- images and the way back

fixed_earlier_lem : (i : ℕ) → fixed neighbours i ≡ fixed_earlier i
unfolding fixed fixed_earlier
fixed_earlier_lem i = ap (λ (x : ℕ). cond (ltb i 4) 0 x) (page_earlier_lem (i - 288))

image_at_lem : (i x : ℕ) → image_at neighbours i x ≡ image_earlier i x
unfolding image_at image_earlier
image_at_lem i x = rw (fixed_earlier_lem i, code_earlier_lem x)

back_at_lem : (i x : ℕ) → back_at neighbours i x ≡ back_earlier i x
unfolding back_at back_earlier code
back_at_lem i x = refl

right_at : (i x : ℕ) → image_right neighbours i x ≡ right_earlier i x
unfolding image_right right_earlier fixed_right code
right_at i x = rw (fixed_earlier_lem i)

mapped : (f g : ℕ → ℕ → ℕ) → ((i x : ℕ) → f i x ≡ g i x) → (i : ℕ) (s : State) → map_at f i s ≡ map_at g i s
unfolding map_at
mapped f g e i [] = refl
mapped f g e i (x ∷ s) = rw (e i x, mapped f g e (suc i) s)

tested : (f g : ℕ → ℕ → Bool) → ((i x : ℕ) → f i x ≡ g i x) → (i : ℕ) (s : State) → every f i s ≡ every g i s
unfolding every
tested f g e i [] = refl
tested f g e i (x ∷ s) = rw (e i x, tested f g e (suc i) s)

image_earlier_lem : (s : State) → image (layout_of 0 0) s ≡ map_at image_earlier 0 s
unfolding image
image_earlier_lem s = mapped (image_at neighbours) image_earlier image_at_lem 0 s

back_earlier_lem : (v : State) → back (layout_of 0 0) v ≡ map_at back_earlier 0 v
unfolding back
back_earlier_lem v = mapped (back_at neighbours) back_earlier back_at_lem 0 v

carried_same : (f g : ℕ → ℕ → Bool) (over over' : State → State) (from into : State) → every f 0 from ≡ every g 0 from → over from ≡ over' from
    → carried f over from into ≡ carried g over' from into
unfolding carried
carried_same f g over over' from into e q = rw (e, q)

-- ---- the claim

expanding_earlier : (p out : List ℕ) → expand_outcome 0 0 p out ≡ unless_refused (mark_check p) (out ∷ []) (written (expand_earlier (lines p)) out)
unfolding expansion_in
expanding_earlier p out = ap (λ (ls : List Line). unless_refused (mark_check p) (out ∷ []) (written ls out)) (expand_earlier_lem (lines p))

-- the trace of a listing from a state
abbrev traced : List Line → State → List ℕ
traced p s = trace_text p (run p trace_budget 0 s)

abbrev zeros : State
zeros = replicate state_size 0

-- two texts of which every program has the same
printed_same : (f g : List Line → List ℕ) → ((p : List Line) → f p ≡ g p) → (input : List ℕ) → printed f input ≡ printed g input
unfolding printed
printed_same f g e input =
    let r = reading max_lines 0 max_lines input in
    ap (λ (t : List ℕ). cond (ltb input_size (length input)) (refusal_text 8 0) (or_refusal r.answer (or_refusal (mark_check r.stored) t))) (e (lines r.stored))

pub earlier_bytes : EarlierBytes
unfolding expand_prints trace_prints
earlier_bytes = record {
  expands = expand_earlier_lem;
  images = image_earlier_lem;
  backs = back_earlier_lem;
  expanding = expanding_earlier;
  imaging = λ bits image'. carried_same bit_right bit_right (image neighbours) (map_at image_earlier 0) bits image' refl (image_earlier_lem bits);
  coming_back = λ image' bits. carried_same (image_right neighbours) right_earlier (back neighbours) (map_at back_earlier 0) image' bits (tested (image_right neighbours) right_earlier right_at 0 image') (back_earlier_lem image');
  expansion_printed = printed_same (λ p. flat_map spell_line (expand neighbours p)) (λ p. flat_map spell_line (expand_earlier p)) (λ p. ap (flat_map spell_line) (expand_earlier_lem p));
  trace_printed =
      printed_same (λ p. traced (expand neighbours p) (image neighbours zeros)) (λ p. traced (expand_earlier p) (map_at image_earlier 0 zeros))
      (λ p. ap₂ traced (expand_earlier_lem p) (image_earlier_lem zeros));
}
