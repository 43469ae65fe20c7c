-- What a step of the walk's code answers. Nothing here is for a reader of the promise: proofs/WalkLaws ties it to the walk's definition.
-- Assumes nothing.
use Rattle.std.specs.Prelude.{cond, List, ℕ, ltb, length}
use Rattle.std.specs.Prelude.{Ok}
use Rattle.model.specs.declared.Condition.TheVariants.{SeveralValues, TooManyValues}
use Rattle.model.specs.declared.Line.{Line}
use Rattle.model.specs.Step.{next}
use Rattle.sets.specs.declared.Verdict.TheVariants.{Leak}
use Rattle.sets.specs.Walk.{Sets, Judged, refused_by, max_values, heads, unsettled, written, steady}
use Rattle.walk.specs.declared.Move.{Move}
use Rattle.walk.specs.declared.Move.TheVariants.{To, Leaks, Refuses}

-- what a step answers: the next counter, or how the walk ends
unfoldable pub moves : Sets → List ℕ → Line → ℕ → Move
unfolding unsettled written steady next
moves S bus l k =
    cond (unsettled S l) (Refuses SeveralValues)
    (cond (ltb max_values (length (written S l))) (Refuses TooManyValues)
    (cond (steady S bus l k) (To (next l k (heads S)))
    Leaks))

-- the verdict of a step that ends the walk, else of what follows it
abbrev pub verdict_of : Move → ℕ → ℕ → Judged → Judged
verdict_of (To n) k t v = v
verdict_of Leaks k t v = Ok (Leak k t)
verdict_of (Refuses c) k t v = refused_by c k
