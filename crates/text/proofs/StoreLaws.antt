-- A line that a store has room for. Assumes nothing.
use Prim.Native.Nat.{ℕ, ◌*◌, ◌/◌, ◌<◌}
use mathlib.Core.Path.{◌≡◌}
use mathlib.Core.List.{List}
use lib.ListN.{length}
use lib.Seq.{sets}
use borrow.Author.Tests.{lt-ltb}
use Rattle.model.specs.Limits.{line_width}
use Rattle.text.specs.Lines.{kept}

pub kept_fits : (l : List ℕ) (n : ℕ) (x : List ℕ) → n < length l / line_width → kept l n x ≡ sets l (line_width * n) x
unfolding kept
kept_fits l n x h = rw (lt-ltb n (length l / line_width) h)
