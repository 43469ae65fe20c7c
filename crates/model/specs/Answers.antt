-- 'Where each check turns a thing down', the answers: what an entry point answers, in the paper's numbers and values, and what the
-- stores lent to it hold afterwards.
-- Assumes nothing.
use Rattle.std.specs.Prelude.{List, [], ◌∷◌, ◌++◌, ℕ, length, drop, replicate}
use Rattle.std.specs.Prelude.{Option, None, Some, Result, Ok, Err}
use Rattle.model.specs.declared.Condition.{Condition}
use Rattle.model.specs.declared.Condition.TheVariants.{NoNewline, NotFiveCommas, UnknownMark, UnknownOpcode, WrongFields, WrongOperand, TooManyLines, StoreFull, TooLong, ReservedPlace, WrongDestination, SensitiveArgument, NoMacro, NoBit, TargetAbove, NoRoom, WrongLength, WrongImage, TraceTooShort, SeveralValues, TooManyValues, UnknownLayout, WrongLabel, NoCounterpart, WrongWatch, WrongMap, WrongChoice, TooFewWords}
use Rattle.model.specs.declared.Refusal.{Refusal}
use Rattle.model.specs.declared.Ending.{Ending}
use Rattle.model.specs.declared.Ending.TheVariants.{Halted, Spent}

-- the conditions, by their numbers
abbrev pub number_of : Condition → ℕ
number_of NoNewline = 1
number_of NotFiveCommas = 2
number_of UnknownMark = 3
number_of UnknownOpcode = 4
number_of WrongFields = 5
number_of WrongOperand = 6
number_of TooManyLines = 7
number_of StoreFull = 8
number_of TooLong = 9
number_of ReservedPlace = 10
number_of WrongDestination = 11
number_of SensitiveArgument = 12
number_of NoMacro = 14
number_of NoBit = 15
number_of TargetAbove = 16
number_of NoRoom = 17
number_of WrongLength = 18
number_of WrongImage = 19
number_of TraceTooShort = 20
number_of SeveralValues = 21
number_of TooManyValues = 22
number_of UnknownLayout = 23
number_of WrongLabel = 24
number_of NoCounterpart = 25
number_of WrongWatch = 26
number_of WrongMap = 27
number_of WrongChoice = 28
number_of TooFewWords = 29

-- success with its values, or the number of a condition that holds and the line
pub data Report : Type 0 where
  done : List ℕ → Report
  refused : ℕ → ℕ → Report

-- the lines read, checked or expanded, or the bytes written
abbrev pub counted : ℕ → Report
counted n = done (n ∷ [])

-- the ending of a run, 0 for halted and 1 for spent, its counter, and the steps done
abbrev pub halted : ℕ → ℕ → Report
halted counter steps = done (0 ∷ counter ∷ steps ∷ [])

abbrev pub spent : ℕ → ℕ → Report
spent counter steps = done (1 ∷ counter ∷ steps ∷ [])

-- the number of a condition where one holds; 0 for none
abbrev pub number_or_0 : Option Condition → ℕ
number_or_0 None = 0
number_or_0 (Some c) = number_of c

-- the paper's number and values of what a call answers that counts: its count, or its refusal
abbrev pub report : Result ℕ (Refusal ℕ) → Report
report (Ok n) = counted n
report (Err r) = refused (number_of r.condition) r.line

-- of how a run ends
abbrev pub ended : Ending → Report
ended (Halted counter steps) = halted counter steps
ended (Spent counter steps) = spent counter steps

-- and of what a run answers: its ending, or its refusal
abbrev pub run_report : Result Ending (Refusal ℕ) → Report
run_report (Ok e) = ended e
run_report (Err r) = refused (number_of r.condition) r.line

-- the answer, and what each lent store holds afterwards, in the order of the parameters
pub record Outcome : Type 0 where
  pub answer : Report
  pub stores : List (List ℕ)

abbrev pub outcome : Report → List (List ℕ) → Outcome
outcome answer stores = record { answer = answer; stores = stores }

-- what a second check answers where the first refused nothing
abbrev pub and_then : Report → Report → Report
and_then (done values) next = next
and_then (refused number line) next = refused number line

-- what comes of a call where its check refused nothing; a refusal leaves every store as it is
abbrev pub unless_refused : Report → List (List ℕ) → Outcome → Outcome
unless_refused (done values) stores next = next
unless_refused (refused number line) stores next = outcome (refused number line) stores

-- numbers written at the front of a store, the rest of it as it was
abbrev pub at_front : List ℕ → List ℕ → List ℕ
at_front numbers store = numbers ++ drop (length numbers) store

-- what is handed back by value, n entries: 0 in all after a refusal
abbrev pub handed_back : ℕ → Report → List ℕ → List ℕ
handed_back n (done values) entries = entries
handed_back n (refused number line) entries = replicate n 0
