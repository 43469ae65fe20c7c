-- What a function that writes text at a place leaves. Assumes nothing.
use Rattle.std.specs.Prelude.{◌≡◌, List, ℕ, ◌+◌, ◌*◌, ◌≤◌, length}
use Rattle.std.proofs.lemmas.List.Edits.{sets}
use Rattle.model.specs.Limits.{max_lines}

-- a line is printed in 54 bytes or fewer, whatever its numbers, so that no place is past
abbrev pub printable : ℕ
printable = 54 * max_lines

-- the bytes from there on, as far as there is room, and the place after them, at most so many bytes on
pub record Wrote (old new : List ℕ) (at next : ℕ) (text : List ℕ) (most : ℕ) : Type 0 where
  pub bytes : new ≡ sets old at text
  pub after : next ≡ at + length text
  pub near : next ≤ at + most
