-- Req 01, 'A verdict on patched listings': a walk whose steps work on sets of values, and its verdict.
-- Assumes nothing.
use Rattle.std.specs.Prelude.{Bool, true, false, cond, ◌&&◌, ◌||◌, ℕ, zero, suc, ◌*◌, eqb, ltb, leb, length, get_or, set, take, drop}
use mathlib.Core.List.{List, [], ◌∷◌, ◌++◌, map, flat_map}
use Rattle.std.specs.Prelude.{Result, Ok, Err}
use Rattle.std.proofs.Math.Option.{none, some}
use Rattle.std.proofs.Math.ListN.{get_elem?}
use Rattle.model.specs.declared.Mark.{Mark}
use Rattle.model.specs.declared.Opcode.{Opcode}
use Rattle.model.specs.declared.Opcode.TheVariants.{Nop, Jmp, Not, Mov, And, Orr, Xor, Lsl, Lsr, Add, Mul, Beq, Bne}
use Rattle.model.specs.declared.Operand.{Operand}
use Rattle.model.specs.declared.Operand.TheVariants.{Empty, Literal, Register, Cell, PublicCell, SensitiveCell, TableCell}
use Rattle.model.specs.declared.Line.{Line}
use Rattle.model.specs.declared.Condition.{Condition}
use Rattle.model.specs.declared.Condition.TheVariants.{SeveralValues, TooManyValues, WrongLength}
use Rattle.model.specs.declared.Refusal.{Refusal}
use Rattle.model.specs.Limits.{state_size}
use Rattle.model.specs.Answers.{Report, done, refused, number_of, and_then}
use Rattle.model.specs.Places.{State, kind_of, place}
use Rattle.model.specs.Step.{Row, meaning, row, result, next, bus_after}
use Rattle.model.specs.Stored.{lines, program_check}
use Rattle.sets.specs.declared.Verdict.{Verdict}
use Rattle.sets.specs.declared.Verdict.TheVariants.{Balanced, Spent, Leak}

-- ---- sets: for each place the values that it may have, each once

abbrev pub Sets : Type 0
Sets = List (List ℕ)

unfoldable pub member : ℕ → List ℕ → Bool
member x [] = false
member x (y ∷ ys) = eqb x y || member x ys

-- a value behind the others, where it is new
unfoldable pub insert : List ℕ → ℕ → List ℕ
unfolding member
insert xs x = cond (member x xs) xs (xs ++ x ∷ [])

unfoldable pub insert_all : List ℕ → List ℕ → List ℕ
unfolding insert
insert_all xs [] = xs
insert_all xs (y ∷ ys) = insert_all (insert xs y) ys

abbrev pub distinct : List ℕ → List ℕ
distinct xs = insert_all [] xs

abbrev pub several : List ℕ → Bool
several xs = ltb 1 (length xs)

-- the values of a place; where there is no place 0 is read and nothing written, so 0 alone
abbrev pub values : Sets → ℕ → List ℕ
values S i = get_or S i (0 ∷ [])

-- ---- sets as they are lent: 17 bytes for each place

abbrev pub max_values : ℕ
max_values = 16

abbrev pub set_width : ℕ
set_width = 17

-- what 17 bytes list: their count, the values, the rest ignored
abbrev pub listed : List ℕ → List ℕ
listed bytes = take (get_or bytes 0 0) (drop 1 bytes)

-- the first n lists
unfoldable pub lists_from : ℕ → List ℕ → List (List ℕ)
lists_from zero bytes = []
lists_from (suc n) bytes = listed (take set_width bytes) ∷ lists_from n (drop set_width bytes)

abbrev pub lists_of : List ℕ → List (List ℕ)
lists_of bytes = lists_from state_size bytes

-- a value that is listed twice counts once
abbrev pub sets_of : List ℕ → Sets
sets_of bytes = map distinct (lists_of bytes)

-- the first n counts are 1 to 16
unfoldable pub sized : ℕ → List ℕ → Bool
sized zero bytes = true
sized (suc n) bytes = ltb 0 (get_or bytes 0 0) && leb (get_or bytes 0 0) max_values && sized n (drop set_width bytes)

-- ---- choices: a choice is a state whose places have values of their sets

-- the first value of each place
abbrev pub heads : Sets → State
heads S = map (λ xs. get_or xs 0 0) S

-- the base register of an operand; no place where it has none
unfoldable pub base : Operand → ℕ
base Empty = state_size
base (Literal n) = state_size
base (Register n) = state_size
base (Cell n) = state_size
base (PublicCell r k) = r
base (SensitiveCell r k) = r
base (TableCell r k) = r

-- the places that a line involves: of each operand its base, then the place that it names by the value that the base has taken
unfoldable pub involved : Line → List (State → ℕ)
unfolding base place
involved l = (λ s. base l.first) ∷ place l.first ∷ (λ s. base l.second) ∷ place l.second ∷ (λ s. base l.destination) ∷ place l.destination ∷ []

-- the states in which these places, one after the other, take each of their values; a place that has taken one has this one alone, so a
-- place used twice takes one value
unfoldable pub draw : Sets → List (State → ℕ) → List State
unfolding flat_map
draw S [] = heads S ∷ []
draw S (f ∷ fs) = flat_map (λ v. draw (set S (f (heads S)) (v ∷ [])) fs) (values S (f (heads S)))

-- the choices of a line; a place that is not involved keeps its first value
unfoldable pub choices : Sets → Line → List State
unfolding draw involved
choices S l = draw S (involved l)

-- ---- one step on sets

-- beq, bne
abbrev pub branches : Opcode → Bool
branches Nop = false
branches Jmp = false
branches Not = false
branches Mov = false
branches And = false
branches Orr = false
branches Xor = false
branches Lsl = false
branches Lsr = false
branches Add = false
branches Mul = false
branches Beq = true
branches Bne = true

-- what an argument may mean in a line of that mark, each value once: in a marked line the lowest bits of a public place's (request 03)
unfoldable pub meanings : Sets → Mark → Operand → List ℕ
unfolding insert_all meaning kind_of place
meanings S m o = distinct (map (meaning m (kind_of o)) (values S (place o (heads S))))

-- an argument or its base has several values
unfoldable pub loose : Sets → Mark → Operand → Bool
unfolding base meanings
loose S m o = several (values S (base o)) || several (meanings S m o)

-- 21: a branch argument, its base or a destination's base has several values
unfoldable pub unsettled : Sets → Line → Bool
unfolding base loose
unsettled S l = several (values S (base l.destination)) || (branches l.opcode && (loose S l.mark l.first || loose S l.mark l.second))

-- all results
unfoldable pub written : Sets → Line → List ℕ
unfolding insert_all result choices
written S l = distinct (map (result l) (choices S l))

unfoldable pub same_row : Row → Row → Bool
same_row [] [] = true
same_row [] (y ∷ ys) = false
same_row (x ∷ xs) [] = false
same_row (x ∷ xs) (y ∷ ys) = eqb x y && same_row xs ys

-- all these states show that row, the bus holding b
unfoldable pub all_show : Line → ℕ → Row → ℕ → List State → Bool
unfolding same_row row
all_show l k r b [] = true
all_show l k r b (s ∷ ss) = same_row r (row l k s b) && all_show l k r b ss

-- and so with each of these values on the bus
unfoldable pub all_buses : Line → ℕ → Row → List ℕ → List State → Bool
unfolding all_show
all_buses l k r [] ss = true
all_buses l k r (b ∷ bs) ss = all_show l k r b ss && all_buses l k r bs ss

-- no two choices, of the places and of the bus, give different rows: all give that of the first. The bus is one more place (request 07),
-- which every line involves; bus lists its values
unfoldable pub steady : Sets → List ℕ → Line → ℕ → Bool
unfolding all_buses row choices
steady S bus l k = all_buses l k (row l k (heads S) (get_or bus 0 0)) bus (choices S l)

-- the written place gets all results; where 21 does not hold, it is one place
unfoldable pub onto : Sets → Line → Sets
unfolding written place
onto S l = set S (place l.destination (heads S)) (written S l)

-- and the bus all that it may hold. These are never over 16 (`Exact` in Claims), so 22 does not come of the bus
unfoldable pub buses : Sets → List ℕ → Line → List ℕ
unfolding insert_all bus_after choices flat_map
buses S bus l = distinct (flat_map (λ b. map (λ s. bus_after l s b) (choices S l)) bus)

-- ---- the walk

-- a verdict, or a refusal: 21 is `SeveralValues`, 22 `TooManyValues`, 18 `WrongLength`
abbrev pub Judged : Type 0
Judged = Result Verdict (Refusal ℕ)

abbrev pub refused_by : Condition → ℕ → Judged
refused_by condition line = Err (record { condition = condition; line = line })

-- balanced where a run would be halted, spent where it would be spent
unfoldable pub ended : List Line → ℕ → ℕ → Judged
ended p k t = cond (ltb k (length p)) (Ok (Spent k t)) (Ok (Balanced k t))

-- up to n steps from counter k, t steps being done; at each step 21, then 22, then the leak test
unfoldable pub walk : List Line → ℕ → ℕ → ℕ → Sets → List ℕ → Judged
unfolding unsettled written onto buses steady next ended
walk p zero k t S bus = ended p k t
walk p (suc n) k t S bus = elim (get_elem? p k) [
  | none ↦ ended p k t
  | some l ↦
      cond (unsettled S l) (refused_by SeveralValues k)
      (cond (ltb max_values (length (written S l))) (refused_by TooManyValues k)
      (cond (steady S bus l k) (walk p n (next l k (heads S)) (suc t) (onto S l) (buses S bus l))
      (Ok (Leak k t))))
]

-- ---- the verdict

-- 18 not 544 sets, 22 an empty or longer set, both at line 0, then the walk from line 0, the bus at 0 as in every run
unfoldable pub judged : List Line → List ℕ → ℕ → Judged
unfolding walk sized insert_all
judged p sets budget =
    cond (eqb (length sets) (set_width * state_size))
    (cond (sized state_size sets)
    (walk p budget 0 0 (sets_of sets) (0 ∷ []))
    (refused_by TooManyValues 0))
    (refused_by WrongLength 0)

-- what each case reports: 0 balanced and 1 spent with counter and steps, as a run, 2 a leak with its line and the steps done before it
abbrev pub told : Judged → Report
told (Ok (Balanced counter steps)) = done (0 ∷ counter ∷ steps ∷ [])
told (Ok (Spent counter steps)) = done (1 ∷ counter ∷ steps ∷ [])
told (Ok (Leak line steps)) = done (2 ∷ line ∷ steps ∷ [])
told (Err r) = refused (number_of r.condition) r.line

-- 7, 3 to 6, then the verdict
unfoldable pub verdict_report : List ℕ → List ℕ → ℕ → Report
unfolding program_check judged
verdict_report p sets budget = and_then (program_check p) (told (judged (lines p) sets budget))
