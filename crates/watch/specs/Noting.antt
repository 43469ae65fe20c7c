-- What is asked before a watched run, and what is done to one watch. Nothing here is for a reader of the promise: proofs/WatchLaws ties it to
-- `watch_outcome`. Assumes nothing.
use Rattle.std.specs.Prelude.{ℕ, ◌+◌, ◌%◌, ◌^◌, Bool, cond, List, ◌==◌, slice_index}
use Rattle.model.specs.Answers.{Report, refused, and_then}
use Rattle.model.specs.Places.{State}
use Rattle.machine.specs.Loop.{admission as run_admission}
use Rattle.watch.specs.declared.Watch.{Watch}
use Rattle.watch.specs.Watches.{watch}

-- one watch before the first step
abbrev pub fresh : State → Watch → Watch
fresh s w = watch w.place (slice_index s w.place) 0 0

-- one watch after step k, which wrote its place and left state s
abbrev pub reached : State → ℕ → Watch → Watch
reached s k w = watch w.place (slice_index s w.place) ((w.writes + 1) % 2 ^ 16) k

-- the same, where the step wrote place q
abbrev pub noted : State → ℕ → ℕ → Watch → Watch
noted s q k w = cond (w.place == q) (reached s k w) w

-- a run's refusals, then 26; else the count of lines
unfoldable pub admission : List ℕ → ℕ → ℕ → ℕ → Bool → Report
unfolding run_admission
admission p budget size room wrong = and_then (run_admission p budget size room) (cond wrong (refused 26 0) (run_admission p budget size room))
