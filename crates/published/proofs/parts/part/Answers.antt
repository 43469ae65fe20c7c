-- `published::parts::part` meets its contract. Assumes nothing.
use mathlib.Core.Path.{ap, ◌∙◌}
use Prim.Native.Nat.{ℕ, ◌-◌}
use mathlib.Core.List.{List}
use lib.ListN.{length, take, drop}
use Rattle.published.proofs.ReadingLaws.{part_there}
use Rattle.published.proofs.parts.part.Goals as goal

pub returns : goal.returns
returns c =
    let text = c.args.text.now in
    let rest : List ℕ = take (length text - c.min.result) (drop c.min.result text) in
    ap (λ (k : ℕ). take k rest) c.min-2.ensures ∙ part_there text c.args.at c.args.n rest (ap (λ (k : ℕ). take (length text - k) (drop k text)) c.min.ensures)
