-- Demand 2 of the entry points: what `write` wrote, `read` reads back as the same lines, and what `read` took, `write` writes again with
-- the same bytes. Each is the model's law at what the two functions promise. Assumes nothing.
use Prim.Native.Nat.{ℕ, ◌*◌, ◌≤◌}
use mathlib.Core.Path.{◌≡◌, sym, ap, ◌∙◌}
use mathlib.Core.List.{List, [], ◌∷◌}
use lib.ListN.{length, take}
use Rattle.std.specs.Prelude.{Result, Ok}
use Rattle.model.specs.declared.Refusal.{Refusal}
use Rattle.model.specs.Answers.{Report, counted, report, Outcome, outcome, at_front}
use Rattle.model.specs.Stored.{line_count}
use Rattle.model.specs.Text.{read_outcome, write_outcome}
use Rattle.model.proofs.RoundTrip.{read_after_write, write_after_read}

-- what the two promise of an answer and the lent store afterwards
abbrev Reads : List ℕ → List ℕ → Result ℕ (Refusal ℕ) → List ℕ → Type 0
Reads text store r after = outcome (report r) (after ∷ []) ≡ read_outcome text store

abbrev Writes : List ℕ → List ℕ → Result ℕ (Refusal ℕ) → List ℕ → Type 0
Writes program out r after = outcome (report r) (after ∷ []) ≡ write_outcome program out

-- an answer and what a store then holds
pub record Gives (r : Result ℕ (Refusal ℕ)) (after : List ℕ) (answer : Report) (store : List ℕ) : Type 0 where
  pub answers : report r ≡ answer
  pub holds : after ≡ store

gives : {r : Result ℕ (Refusal ℕ)} {after : List ℕ} {answer : Report} {store : List ℕ} → outcome (report r) (after ∷ []) ≡ outcome answer (store ∷ []) → Gives r after answer store
gives e = let s = ap (λ (o : Outcome). o.stores) e in record { answers = ap (λ (o : Outcome). o.answer) e; holds = cc }

-- a program that was written, k bytes, and read into a store with room for its lines: the same lines
pub same_lines : (program out : List ℕ) (k : ℕ) (bytes store : List ℕ) (r : Result ℕ (Refusal ℕ)) (after : List ℕ)
    → Writes program out (Ok k) bytes → 6 * line_count program ≤ length store → Reads (take k bytes) store r after
    → Gives r after (counted (line_count program)) (at_front (take (6 * line_count program) program) store)
same_lines program out k bytes store r after w h e = gives (e ∙ read_after_write program out k bytes store (sym w) h)

-- a text that was read, n lines, and written again where there is room: the same bytes
pub same_text : (text store : List ℕ) (n : ℕ) (lines out : List ℕ) (r : Result ℕ (Refusal ℕ)) (after : List ℕ)
    → Reads text store (Ok n) lines → length text ≤ length out → Writes (take (6 * n) lines) out r after
    → Gives r after (counted (length text)) (at_front text out)
same_text text store n lines out r after w h e = gives (e ∙ write_after_read text store n lines out (sym w) h)
