-- The lines of a program, counted and printed one after another: what is left, after the bytes so far, always gives the whole text.
-- Assumes nothing.
use Prim.Native.Nat.{ℕ, suc, ◌+◌, ◌-◌, ◌*◌, ◌≤◌, ◌<◌}
use mathlib.Core.Path.{◌≡◌, refl, sym, ap, ◌∙◌}
use mathlib.Core.List.{List, [], ◌∷◌, ◌++◌, flat_map}
use native.Mathlib.Omega.{arith}
use native.Mathlib.Nat.{zero-add}
use lib.ListN.{length, length-append}
use lib.Seq.{sets}
use borrow.Author.Tests.{lt-ltb, le-ltb}
use Rattle.std.specs.Prelude.{Result, Err}
use Rattle.model.specs.declared.Refusal.{Refusal}
use Rattle.model.specs.Limits.{max_lines}
use Rattle.model.specs.Answers.{report, refused, counted, outcome, at_front}
use Rattle.model.specs.Stored.{line_at, line_count, lines_from, lines, program_check}
use Rattle.model.specs.Text.{spell_line, text_of, write_outcome, fitted}
use Rattle.model.proofs.StoredLaws.{length-lines, program_checked}
use Rattle.model.proofs.CheckAnswers.{refusal, refusal-told, refusal_leaves}
use Rattle.printing.specs.Writing.{Wrote}
use Rattle.printing.proofs.WroteLaws.{wrote_sets}
use Rattle.printing.proofs.SizeLaws.{spelled_most}

-- the text of m lines from line i on
abbrev pub text_from : List ℕ → ℕ → ℕ → List ℕ
text_from p i m = flat_map spell_line (lines_from p i m)

pub minus_0 : (n : ℕ) → n - 0 ≡ n
minus_0 n = omega arith

pub one_less : (n i : ℕ) → i < n → n - i ≡ suc (n - (i + 1))
one_less n i h = omega arith

text_next : (p : List ℕ) (n i : ℕ) → i < n → text_from p i (n - i) ≡ spell_line (line_at p i) ++ text_from p (i + 1) (n - (i + 1))
unfolding flat_map lines_from
text_next p n i h = rw (one_less n i h)

text_end : (p : List ℕ) (n i : ℕ) → n - i ≡ 0 → text_from p i (n - i) ≡ []
unfolding flat_map lines_from
text_end p n i h = rw h

-- i of n lines end at a place
pub record Sized (p : List ℕ) (n at i : ℕ) : Type 0 where
  pub few : i ≤ n
  pub near : at ≤ 54 * i
  pub after : at + length (text_from p i (n - i)) ≡ length (text_from p 0 n)

pub sized_none : (p : List ℕ) (n : ℕ) → Sized p n 0 0
sized_none p n = record { few = omega arith; near = omega arith; after = zero-add _ ∙ ap (λ (k : ℕ). length (text_from p 0 k)) (minus_0 n) }

module _ (p : List ℕ) (n at i : ℕ) (q : Sized p n at i) where
  pub sized-next : i < n → (next : ℕ) → next ≡ at + length (spell_line (line_at p i)) → next ≤ at + 54 → Sized p n next (i + 1)
  sized-next h next e l =
      let rest : List ℕ = text_from p (i + 1) (n - (i + 1)) in
      let all : at + length (spell_line (line_at p i) ++ rest) ≡ length (text_from p 0 n) = ap (λ (t : List ℕ). at + length t) (sym (text_next p n i h)) ∙ q.after in
      record { few = omega arith; near = omega (arith, q.near); after = omega (arith, all, length-append (spell_line (line_at p i)) rest) }

  pub sized_all : n ≤ i → at ≡ length (text_from p 0 n)
  sized_all h = let e : text_from p i (n - i) ≡ [] = text_end p n i (omega arith) in omega (arith, ap length e, q.after)

-- i of n lines are printed, up to a place
pub record Printed (p old out : List ℕ) (n at i : ℕ) : Type 0 where
  pub size : Sized p n at i
  pub long : length out ≡ length old
  pub bytes : sets out at (text_from p i (n - i)) ≡ sets old 0 (text_from p 0 n)

pub printed_none : (p old : List ℕ) (n : ℕ) → Printed p old old n 0 0
printed_none p old n = record { size = sized_none p n; long = refl; bytes = ap (λ (k : ℕ). sets old 0 (text_from p 0 k)) (minus_0 n) }

module _ (p old out : List ℕ) (n at i : ℕ) (q : Printed p old out n at i) where
  pub printed-next : i < n → {new : List ℕ} {next : ℕ} → Wrote out new at next (spell_line (line_at p i)) 54 → length new ≡ length out → Printed p old new n next (i + 1)
  printed-next h {new} {next} w long =
      record {
        size = sized-next p n at i q.size h next w.after w.near;
        long = long ∙ q.long;
        bytes = wrote_sets w (text_from p (i + 1) (n - (i + 1))) ∙ ap (sets out at) (sym (text_next p n i h)) ∙ q.bytes;
      }

  pub printed_all : n ≤ i → Wrote old out 0 at (text_from p 0 n) (54 * n)
  printed_all h =
      let e : text_from p i (n - i) ≡ [] = text_end p n i (omega arith) in
      let few : i ≤ n = q.size.few in
      record {
        bytes = ap (sets out at) (sym e) ∙ q.bytes;
        after = sized_all p n at i q.size h ∙ sym (zero-add _);
        near = omega (arith, q.size.near);
      }

-- ---- the answer of a writing

module _ (p out : List ℕ) where
  pub write_refused : (a : Result ℕ (Refusal ℕ)) (f : Refusal ℕ) → a ≡ Err f → report a ≡ program_check p → outcome (refusal f) (out ∷ []) ≡ write_outcome p out
  unfolding write_outcome
  write_refused a f q e = refusal_leaves f (refusal-told q e) (out ∷ []) _

  -- a right program: its text is written where there is room
  module _ (n : ℕ) (e : program_check p ≡ counted n) where
    pub write_room : length out < length (text_of p) → outcome (refused 17 0) (out ∷ []) ≡ write_outcome p out
    unfolding write_outcome fitted
    write_room h = rw (e, lt-ltb (length out) (length (text_of p)) h)

    pub write_done : length (text_of p) ≤ length out → outcome (counted (length (text_of p))) (at_front (text_of p) out ∷ []) ≡ write_outcome p out
    unfolding write_outcome fitted
    write_done h = rw (e, le-ltb (length out) (length (text_of p)) h)

    pub write_few : line_count p ≤ max_lines
    write_few = let c = program_checked p n e in omega arith

    pub write_most : length (text_of p) ≤ 34 * line_count p
    unfolding text_of
    write_most = omega (arith, spelled_most (lines p) (program_checked p n e).all_right, length-lines p)
