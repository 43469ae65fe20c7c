-- Reading, a line after the other: what is left to read, with the lines so far, always comes to what the whole text comes to.
-- Assumes nothing.
use Prim.Native.Nat.{ℕ, zero, suc, ◌+◌, ◌-◌, ◌*◌, ◌/◌, ◌≤◌, ◌<◌}
use mathlib.Core.Bool.{Bool, true, false, cond}
use mathlib.Core.Path.{◌≡◌, refl, sym, ap, ap₂, ◌∙◌}
use mathlib.Core.List.{List, [], ◌∷◌}
use native.Mathlib.Omega.{arith}
use lib.Dec.{eqb, leb}
use lib.ListN.{length, length-append}
use lib.Seq.{sets}
use borrow.Author.Tests.{eq-eqb, ne_eqb, le-leb, lt-leb, leb-false}
use Rattle.model.specs.Limits.{line_width, max_lines}
use Rattle.model.specs.Answers.{Report, counted, refused, outcome, at_front}
use Rattle.model.specs.Stored.{Parsed, numbers, wrong}
use Rattle.model.specs.Text.{newline, past, front_line, Reading, ends, then_reads, reading, read_outcome}
use Rattle.model.proofs.ReadingLaws.{front-back}
use Rattle.model.proofs.RoundTrip.{reading-zero, reading_suc, read_outcome_lem}
use Rattle.model.proofs.Overwrites.{sets_append, sets_front}

-- ---- what is stored has room

line_size : (x : Parsed) (n b : ℕ) (next : Reading) → ((ns : List ℕ) → x ≡ numbers ns → length ns ≡ 6) → length next.stored ≤ b → length (then_reads x n next).stored ≤ 6 + b
line_size (numbers line) n b next six h = omega (arith, length-append line next.stored, six line refl)
line_size (wrong k) n b next six h = omega arith

front-six : (text ns : List ℕ) → front_line text ≡ numbers ns → length ns ≡ 6
front-six text ns e = ap length (front-back text ns e).stored

reading-size : (more n room : ℕ) (text : List ℕ) → length (reading more n room text).stored ≤ 6 * (room - n)
reading-size zero n room text = rw (reading-zero n room text) (none (eqb (length text) 0))
  where
    none : (t : Bool) → length (cond t (ends (counted n)) (ends (refused 7 n))).stored ≤ 6 * (room - n)
    none true = omega arith
    none false = omega arith
reading-size (suc more) n room text =
    rw (reading_suc more n room text) (by (eqb (length text) 0) (leb room n) refl (reading-size more (n + 1) room (past newline text)))
  where
    by : (t u : Bool) → leb room n ≡ u → length (reading more (n + 1) room (past newline text)).stored ≤ 6 * (room - (n + 1))
        → length (cond t (ends (counted n)) (cond u (ends (refused 8 n)) (then_reads (front_line text) n (reading more (n + 1) room (past newline text))))).stored ≤ 6 * (room - n)
    by true u e h = omega arith
    by false true e h = omega arith
    by false false e h =
        let l : n < room = leb-false room n e in
        omega (arith, line_size (front_line text) n (6 * (room - (n + 1))) (reading more (n + 1) room (past newline text)) (front-six text) h)

-- ---- the loop

-- n lines are read, the store holds them, and rest is what is left of the text
pub record Left (text old store rest : List ℕ) (room n : ℕ) : Type 0 where
  pub few : n ≤ max_lines
  pub long : length store ≡ length old
  pub room_is : room ≡ length old / line_width
  pub answer : (reading (max_lines - n) n room rest).answer ≡ (reading max_lines 0 room text).answer
  pub stored : sets store (6 * n) (reading (max_lines - n) n room rest).stored ≡ sets old 0 (reading max_lines 0 room text).stored

pub left-first : (text old : List ℕ) → Left text old old text (length old / line_width) 0
left-first text old = record { few = omega arith; long = refl; room_is = refl; answer = refl; stored = refl }

module _ (text old store rest : List ℕ) (room n : ℕ) (l : Left text old store rest room n) where
  -- what left the store as it was
  pub left_same : (new : List ℕ) → new ≡ store → Left text old new rest room n
  left_same new e = rw e l

  -- the reading ends here
  left-ends : (r : Report) → reading (max_lines - n) n room rest ≡ ends r → outcome r (store ∷ []) ≡ read_outcome text old
  left-ends r e =
      let fits : length (reading max_lines 0 room text).stored ≤ length old = omega (arith, reading-size max_lines 0 room text, l.room_is) in
      let a : r ≡ (reading max_lines 0 room text).answer = ap (λ (x : Reading). x.answer) (sym e) ∙ l.answer in
      let s : store ≡ at_front (reading max_lines 0 room text).stored old =
      ap (λ (x : Reading). sets store (6 * n) x.stored) (sym e) ∙ l.stored ∙ sets_front old (reading max_lines 0 room text).stored fits in
      ap₂ (λ (x : Report) (y : List ℕ). outcome x (y ∷ [])) a s
      ∙ ap (λ (k : ℕ). outcome (reading max_lines 0 k text).answer (at_front (reading max_lines 0 k text).stored old ∷ [])) l.room_is
      ∙ sym (read_outcome_lem text old)

  -- 7 is the case of no line more
  one_less : n < max_lines → max_lines - n ≡ suc (max_lines - (n + 1))
  one_less h = omega arith

  none_left : max_lines ≤ n → max_lines - n ≡ 0
  none_left h = omega arith

  pub left_done : length rest ≡ 0 → outcome (counted n) (store ∷ []) ≡ read_outcome text old
  left_done z = left-ends (counted n) (by (max_lines - n))
    where
      by : (m : ℕ) → reading m n room rest ≡ ends (counted n)
      by zero = rw (reading-zero n room rest, eq-eqb (length rest) 0 z)
      by (suc m) = rw (reading_suc m n room rest, eq-eqb (length rest) 0 z)

  module _ (some : 0 < length rest) where
    filled : eqb (length rest) 0 ≡ false
    filled = ne_eqb (length rest) 0 (λ z. omega arith)

    pub left-full : max_lines ≤ n → outcome (refused 7 n) (store ∷ []) ≡ read_outcome text old
    left-full h = left-ends (refused 7 n) (rw (none_left h, reading-zero n room rest, filled))

    pub left_room : n < max_lines → room ≤ n → outcome (refused 8 n) (store ∷ []) ≡ read_outcome text old
    left_room h f = left-ends (refused 8 n) (rw (one_less h, reading_suc (max_lines - (n + 1)) n room rest, filled, le-leb room n f))

    turn : n < max_lines → n < room → reading (max_lines - n) n room rest ≡ then_reads (front_line rest) n (reading (max_lines - (n + 1)) (n + 1) room (past newline rest))
    turn h f = rw (one_less h, reading_suc (max_lines - (n + 1)) n room rest, filled, lt-leb room n f)

    pub left_stop : n < max_lines → n < room → (k : ℕ) → front_line rest ≡ wrong k → outcome (refused k n) (store ∷ []) ≡ read_outcome text old
    left_stop h f k e = left-ends (refused k n) (turn h f ∙ ap (λ (x : Parsed). then_reads x n (reading (max_lines - (n + 1)) (n + 1) room (past newline rest))) e)

    pub left-next : n < max_lines → n < room → (ns new after : List ℕ) → length ns ≡ 6 → front_line rest ≡ numbers ns → new ≡ sets store (6 * n) ns → after ≡ past newline rest
        → length new ≡ length store → Left text old new after room (n + 1)
    left-next h f ns new after six e q p long =
        let r : Reading = reading (max_lines - (n + 1)) (n + 1) room (past newline rest) in
        let t : reading (max_lines - n) n room rest ≡ then_reads (numbers ns) n r = turn h f ∙ ap (λ (x : Parsed). then_reads x n r) e in
        let i : 6 * (n + 1) ≡ 6 * n + length ns = omega arith in
        record {
          few = omega arith;
          long = long ∙ l.long;
          room_is = l.room_is;
          answer = rw p (ap (λ (x : Reading). x.answer) (sym t) ∙ l.answer);
          stored = rw (p, q, i) (sets_append store (6 * n) ns r.stored ∙ ap (λ (x : Reading). sets store (6 * n) x.stored) (sym t) ∙ l.stored);
        }
